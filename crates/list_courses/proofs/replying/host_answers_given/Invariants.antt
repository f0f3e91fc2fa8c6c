use Rattle.std.proofs.Common.{◌≡◌, take}
use Rattle.joint_history.specs.Reading.{host_items_of}
use Rattle.list_courses.specs.Completing.{given_in}
use Rattle.list_courses.proofs.replying.host_answers_given.Given as goal

abbrev pub invariant-loop-entry : goal.invariant-loop-entry
invariant-loop-entry l =
    l.list.items ≡ given_in (host_items_of (take l.entry-index l.entries)).answers
