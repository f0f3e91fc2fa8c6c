use Rattle.std.proofs.Common.{◌∙◌}
use Rattle.std.proofs.lemmas.Result.{IfOk-weaker}
use Rattle.joint_history.specs.Reading.{host_items_of}
use Rattle.list_courses.proofs.EndCounts.{each-iff}
use Rattle.list_courses.proofs.ended.host_ends_each_call.Goals as goal

pub returns : goal.returns
returns c =
    IfOk-weaker c.each_ended.result _ _
    (λ each h. each-iff (host_items_of c.args.entries.now) _ _ each
    (c.as_slice.ensures.value ∙ c.in_ok-calls.ensures)
    (c.as_slice-2.ensures.value ∙ c.in_ok-ends.ensures) h)
    c.each_ended.ensures
