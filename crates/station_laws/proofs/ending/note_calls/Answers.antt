use Rattle.std.proofs.Common.{◌<◌, length, arith}
use Rattle.station_laws.proofs.EndSteps.{notes-more}
use Rattle.station_laws.proofs.ending.note_calls.Goals as goal

pub loop-call-preserved : goal.loop-call-preserved
loop-call-preserved c =
    let low : c.loop-call.call-index < length c.args.calls.now = omega arith in
    notes-more c.args.kinds.now c.loop-call.kinds c.note_kind.new.kinds c.args.calls.now
    c.loop-call.call-index c.call-item.result _ low c.call-item.is c.in_ok-kind_of.ensures
    c.loop-call.invariant c.in_ok-note_kind.ensures
