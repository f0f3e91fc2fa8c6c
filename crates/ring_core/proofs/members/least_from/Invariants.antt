use Rattle.std.proofs.Common.{◌≡◌, drop}
use Rattle.ring_core.specs.Machine.{least_from}
use Rattle.ring_core.proofs.members.least_from.Given as goal

abbrev pub invariant-loop-at : goal.invariant-loop-at
invariant-loop-at l =
    least_from (drop l.fn.from l.nodes) l.fn.from ≡ least_from (drop l.at l.nodes) l.at
