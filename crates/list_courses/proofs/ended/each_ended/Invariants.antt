use Rattle.std.proofs.Common.{ℕ, ◌<◌, get_or}
use Rattle.list_courses.specs.Ends.{EndsOnce}
use Rattle.mstr_block.specs.declared.call.CallId.{CallId}
use Rattle.list_courses.proofs.ended.each_ended.Given as goal

abbrev pub invariant-loop-id : goal.invariant-loop-id
invariant-loop-id l =
    (k : ℕ) (d : CallId) → k < l.id-index → EndsOnce l.ends (get_or l.calls k d)
