use Rattle.std.proofs.Common.{◌<◌, length, map, take, ap, ◌∙◌, arith}
use Rattle.std.proofs.lemmas.List.{map-append}
use Rattle.joint_history.specs.Reading.{items_of}
use Rattle.list_courses.specs.Ends.{id_of_call}
use Rattle.station_laws.specs.Readings.{calls_in}
use Rattle.station_laws.proofs.Lists.{calls-more, plain-step}
use Rattle.list_courses.proofs.ended.call_ids.Goals as goal

pub loop-entry-preserved : goal.loop-entry-preserved
loop-entry-preserved c =
    let low : c.loop-entry.entry-index < length c.args.entries.now = omega arith in
    plain-step _ _ _ _ _ c.in_ok-add_call_ids.ensures c.loop-entry.invariant
    (ap (map id_of_call) (calls-more c.args.entries.now c.loop-entry.entry-index
    c.entry-item.result low c.entry-item.is)
    ∙ map-append id_of_call (items_of (take c.loop-entry.entry-index c.args.entries.now)).calls
    (calls_in c.entry-item.result))
