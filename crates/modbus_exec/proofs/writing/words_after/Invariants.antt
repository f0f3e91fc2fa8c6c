use Rattle.std.proofs.Common.{◌≡◌, ℕ, ◌<◌, get_or}
use Rattle.plant_types.specs.declared.reference.RefKind.TheVariants as kinds
use Rattle.plant_types.specs.Reference.{ref_from}
use Rattle.plant_types.specs.Store.{word_at, with_words}
use Rattle.modbus_exec.specs.Runs.{reference_at}
use Rattle.modbus_exec.proofs.writing.words_after.Given as goal

abbrev pub invariant-loop-place : goal.invariant-loop-place
invariant-loop-place g l =
    (k : ℕ) → k < l.place → get_or l.found k 0 ≡ word_at (with_words (g.R.RefStore.contents l.ram)
    (reference_at kinds.Register l.write) l.words)
    (ref_from (reference_at kinds.Register l.read) k)
