use Rattle.std.proofs.Common.{◌≡◌, take}
use Rattle.plant_types.specs.declared.reference.RefKind.TheVariants as kinds
use Rattle.plant_types.specs.Store.{with_words}
use Rattle.modbus_exec.specs.Runs.{reference_at}
use Rattle.modbus_exec.proofs.runs.write_words.Given as goal

abbrev pub invariant-loop-place : goal.invariant-loop-place
invariant-loop-place g l =
    g.R.RefStore.contents l.ram ≡ with_words (g.R.RefStore.contents l.initial.ram)
    (reference_at kinds.Register l.address) (take l.place l.words)
