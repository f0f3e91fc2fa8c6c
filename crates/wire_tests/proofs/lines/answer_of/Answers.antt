use Rattle.wire_tests.proofs.lines.answer_of.Goals as goal

pub answer_at-requires : goal.answer_at-requires
answer_at-requires c =
    c.tested_plants_can_be_wired.ensures c.in-Ok.plant c.in-Ok.ensures.checked c.in-Ok.ensures.drops
