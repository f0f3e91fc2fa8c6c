use Rattle.std.proofs.Common.{◌≡◌, ℕ, Option, Some, None, length, refl, ap, ◌∙◌}
use Rattle.std.proofs.lemmas.List.{length-map, length-set}
use Rattle.mstr_block.specs.Table.{BlockTable, taken_at}
use Rattle.ladder_tests.proofs.segments.end_calls.Goals as goal

-- a call that is taken leaves as many blocks
taken-count : (table : BlockTable) (place : Option ℕ)
    → length (taken_at table place).blocks ≡ length table.blocks
taken-count table None = refl
taken-count table (Some place) = length-set table.blocks place _

pub loop-path-preserved : goal.loop-path-preserved
loop-path-preserved g c =
    let count : BlockTable → ℕ = (λ table. length table.blocks) in
    ap count c.finish.ensures ∙ length-map _ _ ∙ ap count c.take_started.ensures.taken
    ∙ taken-count c.loop-path.bank _ ∙ c.loop-path.invariant
