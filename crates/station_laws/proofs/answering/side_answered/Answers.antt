use Rattle.std.proofs.Common.{[], ◌<◌, false, length, map, take, ap, ◌∙◌, arith}
use Rattle.std.specs.List.{cons_option}
use Rattle.std.proofs.lemmas.List.{map-append}
use Rattle.joint_history.specs.Bridges.{side_items}
use Rattle.station_laws.specs.Bound.{sorted_answer}
use Rattle.station_laws.specs.Readings.{side_answer_in}
use Rattle.station_laws.proofs.Lists.{plain-step}
use Rattle.station_laws.proofs.Sides.{side-answers-more}
use Rattle.station_laws.proofs.answering.side_answered.Goals as goal

pub loop-entry-preserved : goal.loop-entry-preserved
loop-entry-preserved c =
    let low : c.loop-entry.entry-index < length c.args.entries.now = omega arith in
    plain-step _ _ _ _ _ c.in_ok-add_side_answer.ensures c.loop-entry.invariant
    (ap (map (sorted_answer false))
    (side-answers-more c.args.side c.args.entries.now c.loop-entry.entry-index
    c.entry-item.result low c.entry-item.is)
    ∙ map-append (sorted_answer false)
    (side_items c.args.side (take c.loop-entry.entry-index c.args.entries.now)).answers
    (cons_option (side_answer_in c.args.side c.entry-item.result) []))
