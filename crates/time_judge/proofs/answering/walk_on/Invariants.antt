use Rattle.std.proofs.Common.{◌-◌, length}
use Rattle.time_judge.specs.Counts.{IsWalk}
use Rattle.time_judge.proofs.answering.walk_on.Given as goal

abbrev pub invariant-walk : goal.invariant-walk
invariant-walk l = IsWalk l.walk l.requests l.answers l.told

abbrev pub decreases-walk : goal.decreases-walk
decreases-walk l = length l.requests - l.walk.requests
