use Rattle.std.proofs.Common.{refl}
use Rattle.field_machine.proofs.field.Field.begin.Goals as goal

pub returns-clause-state : goal.returns-clause-state
returns-clause-state c = rw c.from.ensures refl
