use Rattle.std.proofs.Common.{◌≡◌, take}
use Rattle.plant_types.specs.Discretes.{bits_from}
use Rattle.modbus_exec.specs.Runs.{reference_at}
use Rattle.modbus_exec.proofs.runs.read_bits.Given as goal

abbrev pub invariant-loop-place : goal.invariant-loop-place
invariant-loop-place g l = l.bits.items
    ≡ take l.place (bits_from (g.R.RefStore.contents l.ram) (reference_at l.kind l.address) l.count)
