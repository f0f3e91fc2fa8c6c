use Rattle.std.proofs.Common.{◌≡◌}
use Rattle.std.specs.Prelude.{replicate}
use Rattle.field_machine.proofs.machine.FieldMachineWork.start.Given as goal

abbrev pub invariant-loop : goal.invariant-loop
invariant-loop l = l.key.items ≡ replicate l.counter 0
