use Rattle.std.proofs.Common.{[], ◌<◌, length, map, take, ap, ◌∙◌, arith}
use Rattle.std.specs.List.{cons_option}
use Rattle.std.proofs.lemmas.List.{map-append}
use Rattle.joint_history.specs.Reading.{host_items_of}
use Rattle.list_courses.specs.Ends.{id_of_call}
use Rattle.station_laws.specs.Readings.{host_call_in}
use Rattle.station_laws.proofs.Lists.{host-calls-more, plain-step}
use Rattle.list_courses.proofs.ended.host_call_ids.Goals as goal

pub loop-entry-preserved : goal.loop-entry-preserved
loop-entry-preserved c =
    let low : c.loop-entry.entry-index < length c.args.entries.now = omega arith in
    plain-step _ _ _ _ _ c.in_ok-add_host_call_id.ensures c.loop-entry.invariant
    (ap (map id_of_call) (host-calls-more c.args.entries.now c.loop-entry.entry-index
    c.entry-item.result low c.entry-item.is)
    ∙ map-append id_of_call (host_items_of
    (take c.loop-entry.entry-index c.args.entries.now)).calls
    (cons_option (host_call_in c.entry-item.result) []))
