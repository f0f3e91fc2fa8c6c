use Rattle.std.proofs.Common.{◌<◌, length, arith}
use Rattle.station_laws.proofs.EndSteps.{side-ends-step}
use Rattle.station_laws.proofs.ending.side_ends.Goals as goal

pub loop-entry-preserved : goal.loop-entry-preserved
loop-entry-preserved c =
    let low : c.loop-entry.entry-index < length c.args.entries.now = omega arith in
    let next = side-ends-step c.args.side c.loop-entry.kinds c.note_side_call.new.kinds _ _
    c.args.entries.now c.loop-entry.entry-index c.entry-item.result low c.entry-item.is
    c.loop-entry.invariant.kinds_are c.loop-entry.invariant.list_is
    c.in_ok-note_side_call.ensures c.in_ok-add_side_end.ensures in
    record { kinds_are = next.0; list_is = next.1 }
