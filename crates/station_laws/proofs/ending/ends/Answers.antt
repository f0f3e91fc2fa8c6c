use Rattle.std.proofs.Common.{◌<◌, length, arith}
use Rattle.station_laws.proofs.EndSteps.{ends-step}
use Rattle.station_laws.proofs.ending.ends.Goals as goal

pub loop-entry-preserved : goal.loop-entry-preserved
loop-entry-preserved c =
    let low : c.loop-entry.entry-index < length c.args.entries.now = omega arith in
    let next = ends-step c.loop-entry.kinds c.add_end.new.kinds _ _ c.args.entries.now
    c.loop-entry.entry-index c.entry-item.result low c.entry-item.is
    c.loop-entry.invariant.kinds_are c.loop-entry.invariant.list_is
    c.in_ok-add_end.ensures.kinds c.in_ok-add_end.ensures.ends in
    record { kinds_are = next.0; list_is = next.1 }
