use Rattle.std.proofs.Common.{[], ◌<◌, false, length, map, take, ap, ◌∙◌, arith}
use Rattle.std.specs.List.{cons_option}
use Rattle.std.proofs.lemmas.List.{map-append}
use Rattle.joint_history.specs.Reading.{host_items_of}
use Rattle.station_laws.specs.Bound.{sorted_answer}
use Rattle.station_laws.specs.Readings.{host_answer_in}
use Rattle.station_laws.proofs.Lists.{host-answers-more, plain-step}
use Rattle.station_laws.proofs.answering.host_answered.Goals as goal

pub loop-entry-preserved : goal.loop-entry-preserved
loop-entry-preserved c =
    let low : c.loop-entry.entry-index < length c.args.entries.now = omega arith in
    plain-step _ _ _ _ _ c.in_ok-add_host_answer.ensures c.loop-entry.invariant
    (ap (map (sorted_answer false))
    (host-answers-more c.args.entries.now c.loop-entry.entry-index c.entry-item.result low
    c.entry-item.is)
    ∙ map-append (sorted_answer false)
    (host_items_of (take c.loop-entry.entry-index c.args.entries.now)).answers
    (cons_option (host_answer_in c.entry-item.result) []))
