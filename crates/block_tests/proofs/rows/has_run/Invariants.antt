use Rattle.std.proofs.Common.{◌≡◌, ℕ, ◌<◌, true}
use Rattle.std.specs.FinMap.{contains_key}
use Rattle.plant_types.specs.Reference.{ref_from}
use Rattle.block_tests.proofs.rows.has_run.Given as goal

abbrev pub invariant-loop-i : goal.invariant-loop-i
invariant-loop-i l = (k : ℕ) → k < l.i → contains_key l.ram (ref_from l.at k) ≡ true
