use Rattle.std.proofs.Common.{◌≡◌, map, take}
use Rattle.joint_history.specs.Bridges.{side_items}
use Rattle.list_courses.specs.Ends.{id_of_call}
use Rattle.list_courses.proofs.ended.side_call_ids.Given as goal

abbrev pub invariant-loop-entry : goal.invariant-loop-entry
invariant-loop-entry l =
    l.list.items ≡ map id_of_call (side_items l.side (take l.entry-index l.entries)).calls
