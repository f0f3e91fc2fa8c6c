use Rattle.std.proofs.Common.{ap, ◌∙◌}
use Rattle.turn_gate.specs.Known.{PassFacts, is_among}
use Rattle.gated_tape.specs.declared.tapes.Mark.{Mark}
use Rattle.gated_tape.proofs.Dealing.{positive_down}
use Rattle.gated_tape.proofs.Gathering.{gather_start}
use Rattle.gated_tape.proofs.crews.through_gates.Goals as goal

pub gather-requires-clause-passes : goal.gather-requires-clause-passes
gather-requires-clause-passes g c =
    let dealt = c.deal-passes.ensures in
    gather_start c.args.one.now c.args.two.now c.args.crew.count c.args.crew.writers _
    c.deal-passes.result.1.items c.as_mut_slice.result.now _ _ _ _
    dealt.one dealt.two dealt.sides
    c.as_mut_slice.ensures.value c.as_mut_slice.ensures.len c.run_each.ensures.cards

pub gather-requires-clause-positive : goal.gather-requires-clause-positive
gather-requires-clause-positive g c =
    ap (λ (p : PassFacts Mark). is_among 0 p.given) c.deal-passes.ensures.one
    ∙ positive_down c.args.crew.writers
