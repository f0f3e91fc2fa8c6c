use Rattle.std.proofs.Common.{[], ◌<◌, length, take, ap, ◌∙◌, arith}
use Rattle.std.specs.List.{cons_option}
use Rattle.joint_history.specs.Reading.{host_items_of}
use Rattle.list_courses.specs.Completing.{given_in}
use Rattle.list_courses.proofs.Due.{given-append}
use Rattle.station_laws.specs.Readings.{host_answer_in}
use Rattle.station_laws.proofs.Lists.{host-answers-more, plain-step}
use Rattle.list_courses.proofs.replying.host_answers_given.Goals as goal

pub loop-entry-preserved : goal.loop-entry-preserved
loop-entry-preserved c =
    let low : c.loop-entry.entry-index < length c.args.entries.now = omega arith in
    plain-step _ _ _ _ _ c.in_ok-add_host_answer.ensures c.loop-entry.invariant
    (ap given_in (host-answers-more c.args.entries.now c.loop-entry.entry-index c.entry-item.result low
    c.entry-item.is)
    ∙ given-append (host_items_of (take c.loop-entry.entry-index c.args.entries.now)).answers
    (cons_option (host_answer_in c.entry-item.result) []))
