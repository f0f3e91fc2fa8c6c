use Rattle.std.proofs.Common.{◌≡◌, ◌++◌, false, map, take}
use Rattle.joint_history.specs.Bridges.{backs_of}
use Rattle.station_laws.specs.Bound.{sorted}
use Rattle.station_laws.proofs.backs.add_backs.Given as goal

abbrev pub invariant-loop-entry : goal.invariant-loop-entry
invariant-loop-entry l =
    l.list.items ≡ l.initial.list.items
    ++ map (sorted false) (backs_of l.side (take l.entry-index l.entries))
