use Rattle.std.proofs.Common.{◌≡◌, ◌++◌, map, take}
use Rattle.joint_history.specs.Reading.{called_of}
use Rattle.list_courses.specs.Ends.{id_of_call}
use Rattle.list_courses.proofs.ended.add_calls.Given as goal

abbrev pub invariant-loop-call : goal.invariant-loop-call
invariant-loop-call l =
    l.list.items ≡ l.initial.list.items
    ++ map id_of_call (map called_of (take l.call-index l.calls))
