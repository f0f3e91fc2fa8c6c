use Rattle.std.proofs.Common.{◌+◌, length, map}
use Rattle.time_judge.proofs.Steps.{Reaches}
use Rattle.time_judge.proofs.reaching.how_far.Given as goal

abbrev pub invariant-walk : goal.invariant-walk
invariant-walk g l =
    Reaches l.node (map g.E.StationItem.entry l.entries) l.ring (map g.E.StationItem.entry l.left)
    l.due l.noted l.done l.answers.items l.requests.items l.walk

abbrev pub decreases-walk : goal.decreases-walk
decreases-walk g l = length l.left + length l.due
