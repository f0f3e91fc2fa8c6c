use Rattle.modbus_exec.specs.Runs.{reference_at, HasReferences}
use Rattle.modbus_exec.proofs.runs.are_in_map.Given as goal

abbrev pub invariant-loop-place : goal.invariant-loop-place
invariant-loop-place g l =
    HasReferences (g.R.RefStore.contents l.ram) (reference_at l.kind l.address) l.place
