use Rattle.std.proofs.Common.{◌<◌, take, All}
use Rattle.ring_core.specs.Machine.{addresses}
use Rattle.ring_core.proofs.conditions.are_low.Given as goal

abbrev pub invariant-loop-at : goal.invariant-loop-at
invariant-loop-at l = All (λ m. m < addresses) (take l.at l.members)
