use Rattle.std.proofs.Common.{◌<◌, length, take, ap, ◌∙◌, arith}
use Rattle.std.specs.List.{filter_map}
use Rattle.std.proofs.lemmas.List.Elements.{filter_map-append}
use Rattle.tied_lists.specs.Items.{net_ask}
use Rattle.joint_history.specs.Reading.{items_of}
use Rattle.station_laws.specs.Readings.{calls_in}
use Rattle.station_laws.proofs.Lists.{calls-more, plain-step}
use Rattle.station_laws.proofs.asking.called.Goals as goal

pub loop-entry-preserved : goal.loop-entry-preserved
loop-entry-preserved c =
    let low : c.loop-entry.entry-index < length c.args.entries.now = omega arith in
    plain-step _ _ _ _ _ c.in_ok-add_entry.ensures c.loop-entry.invariant
    (ap (filter_map net_ask) (calls-more c.args.entries.now c.loop-entry.entry-index
    c.entry-item.result low c.entry-item.is)
    ∙ filter_map-append net_ask (items_of (take c.loop-entry.entry-index c.args.entries.now)).calls
    (calls_in c.entry-item.result))
