use Rattle.std.proofs.Common.{◌≡◌, false, map, take}
use Rattle.joint_history.specs.Bridges.{side_items}
use Rattle.station_laws.specs.Bound.{sorted_answer}
use Rattle.station_laws.proofs.answering.side_answered.Given as goal

abbrev pub invariant-loop-entry : goal.invariant-loop-entry
invariant-loop-entry l =
    l.list.items
    ≡ map (sorted_answer false) (side_items l.side (take l.entry-index l.entries)).answers
