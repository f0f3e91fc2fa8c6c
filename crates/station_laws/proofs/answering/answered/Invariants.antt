use Rattle.std.proofs.Common.{◌≡◌, false, map, take}
use Rattle.joint_history.specs.Reading.{items_of}
use Rattle.station_laws.specs.Bound.{sorted_answer}
use Rattle.station_laws.proofs.answering.answered.Given as goal

abbrev pub invariant-loop-entry : goal.invariant-loop-entry
invariant-loop-entry l =
    l.list.items ≡ map (sorted_answer false) (items_of (take l.entry-index l.entries)).answers
