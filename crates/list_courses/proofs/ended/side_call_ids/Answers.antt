use Rattle.std.proofs.Common.{◌<◌, length, map, take, ap, ◌∙◌, arith}
use Rattle.std.proofs.lemmas.List.{map-append}
use Rattle.joint_history.specs.Bridges.{side_items}
use Rattle.list_courses.specs.Ends.{id_of_call}
use Rattle.station_laws.specs.Readings.{side_calls_in}
use Rattle.station_laws.proofs.Lists.{plain-step}
use Rattle.station_laws.proofs.Sides.{side-calls-more}
use Rattle.list_courses.proofs.ended.side_call_ids.Goals as goal

pub loop-entry-preserved : goal.loop-entry-preserved
loop-entry-preserved c =
    let low : c.loop-entry.entry-index < length c.args.entries.now = omega arith in
    plain-step _ _ _ _ _ c.in_ok-add_side_call_id.ensures c.loop-entry.invariant
    (ap (map id_of_call) (side-calls-more c.args.side c.args.entries.now c.loop-entry.entry-index
    c.entry-item.result low c.entry-item.is)
    ∙ map-append id_of_call (side_items c.args.side
    (take c.loop-entry.entry-index c.args.entries.now)).calls
    (side_calls_in c.args.side c.entry-item.result))
