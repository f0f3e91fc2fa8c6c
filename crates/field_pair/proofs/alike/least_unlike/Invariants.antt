use Rattle.std.proofs.Common.{take}
use Rattle.field_pair.specs.Least.{IsLeastUnlike}
use Rattle.field_pair.proofs.alike.least_unlike.Given as goal

abbrev pub invariant-loop-drop : goal.invariant-loop-drop
invariant-loop-drop l =
    IsLeastUnlike l.old l.new (take l.drop-index l.looked) l.least
