use Rattle.std.proofs.Common.{◌≡◌, take}
use Rattle.plant_types.specs.declared.reference.RefKind.TheVariants as kinds
use Rattle.plant_types.specs.Store.{with_words}
use Rattle.plant_types.specs.Discretes.{bit_words}
use Rattle.modbus_exec.specs.Runs.{reference_at}
use Rattle.modbus_exec.proofs.runs.write_bits.Given as goal

abbrev pub invariant-loop-place : goal.invariant-loop-place
invariant-loop-place g l =
    g.R.RefStore.contents l.ram
    ≡ with_words (g.R.RefStore.contents l.initial.ram) (reference_at kinds.Coil l.address)
    (take l.place (bit_words l.bits))
