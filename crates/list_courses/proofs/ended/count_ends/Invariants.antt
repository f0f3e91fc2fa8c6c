use Rattle.std.proofs.Common.{take}
use Rattle.list_courses.specs.Ends.{CountsEnds}
use Rattle.list_courses.proofs.ended.count_ends.Given as goal

abbrev pub invariant-loop-id : goal.invariant-loop-id
invariant-loop-id l =
    CountsEnds (take l.id-index l.ends) l.once
