use Rattle.std.proofs.Common.{◌<◌, length, take, ap, ◌∙◌, arith}
use Rattle.std.specs.List.{filter_map}
use Rattle.std.proofs.lemmas.List.Elements.{filter_map-append}
use Rattle.tied_lists.specs.Items.{net_ask}
use Rattle.joint_history.specs.Bridges.{side_items}
use Rattle.station_laws.specs.Readings.{side_calls_in}
use Rattle.station_laws.proofs.Lists.{plain-step}
use Rattle.station_laws.proofs.Sides.{side-calls-more}
use Rattle.station_laws.proofs.asking.side_called.Goals as goal

pub loop-entry-preserved : goal.loop-entry-preserved
loop-entry-preserved c =
    let low : c.loop-entry.entry-index < length c.args.entries.now = omega arith in
    plain-step _ _ _ _ _ c.in_ok-add_side_entry.ensures c.loop-entry.invariant
    (ap (filter_map net_ask) (side-calls-more c.args.side c.args.entries.now
    c.loop-entry.entry-index c.entry-item.result low c.entry-item.is)
    ∙ filter_map-append net_ask
    (side_items c.args.side (take c.loop-entry.entry-index c.args.entries.now)).calls
    (side_calls_in c.args.side c.entry-item.result))
