use Rattle.std.proofs.Common.{◌<◌, length, subst, arith}
use Rattle.station_laws.specs.Bound.{side_bounds}
use Rattle.joint_law.specs.LawEnds.{IsLogsEnd}
use Rattle.joint_law.proofs.LogSteps.{none-of, sides-any, sides-end, sides-more}
use Rattle.joint_law.proofs.law_spots.bridge_logs_break.Goals as goal

pub returns-in-Some : goal.returns-in-Some
returns-in-Some c =
    let low : c.loop-log.log-index < length c.args.logs.now = omega arith in
    sides-any (side_bounds c.args.ring.now) c.args.law c.args.node c.args.logs.now
    c.loop-log.log-index c.log-item.result c.in-Some.place low c.log-item.is
    c.loop-log.invariant
    (subst (IsLogsEnd c.args.law c.args.node (side_bounds c.args.ring.now c.log-item.result))
    c.in-Some.is c.in_ok-place.ensures)

pub loop-log-preserved : goal.loop-log-preserved
loop-log-preserved c =
    let low : c.loop-log.log-index < length c.args.logs.now = omega arith in
    sides-more (side_bounds c.args.ring.now) c.args.law c.args.node c.args.logs.now
    c.loop-log.log-index c.log-item.result low c.log-item.is c.loop-log.invariant
    (subst (IsLogsEnd c.args.law c.args.node (side_bounds c.args.ring.now c.log-item.result))
    (none-of c.in_ok-place.field-0 c.in_default.not-Some) c.in_ok-place.ensures)

pub returns : goal.returns
returns c =
    sides-end (side_bounds c.args.ring.now) c.args.law c.args.node c.args.logs.now
    c.loop-log.log-index (omega arith) c.loop-log.invariant
