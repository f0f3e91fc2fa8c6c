use Rattle.std.proofs.Common.{◌≡◌, map, take}
use Rattle.joint_history.specs.Reading.{items_of}
use Rattle.list_courses.specs.Ends.{id_of_end}
use Rattle.list_courses.proofs.ended.end_ids.Given as goal

abbrev pub invariant-loop-entry : goal.invariant-loop-entry
invariant-loop-entry l =
    l.list.items ≡ map id_of_end (items_of (take l.entry-index l.entries)).ends
