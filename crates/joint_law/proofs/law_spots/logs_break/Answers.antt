use Rattle.std.proofs.Common.{◌≡◌, ◌+◌, ◌<◌, length, subst, arith}
use Rattle.station_laws.specs.Bound.{Bound, BreaksLaw, controller_bound}
use Rattle.joint_law.specs.LawEnds.{IsLogEnd}
use Rattle.joint_law.proofs.LogSteps.{logs-all, logs-any, logs-more, none-of}
use Rattle.joint_law.proofs.law_spots.logs_break.Goals as goal

pub returns-in-Some : goal.returns-in-Some
returns-in-Some c =
    let low : c.loop-log.log-index < length c.args.logs.now = omega arith in
    logs-any (controller_bound c.args.ring.now)
    (λ (s : Bound). (s.node ≡ c.args.node) × BreaksLaw c.args.law s (c.in-Some.place + 1))
    c.args.logs.now c.loop-log.log-index c.log-item.result low c.log-item.is
    (subst (IsLogEnd c.args.law c.args.node (controller_bound c.args.ring.now c.log-item.result))
    c.in-Some.is c.in_ok-place.ensures)

pub loop-log-preserved : goal.loop-log-preserved
loop-log-preserved c =
    let low : c.loop-log.log-index < length c.args.logs.now = omega arith in
    logs-more (controller_bound c.args.ring.now) c.args.law c.args.node c.args.logs.now
    c.loop-log.log-index c.log-item.result c.loop-log.invariant low c.log-item.is
    (subst (IsLogEnd c.args.law c.args.node (controller_bound c.args.ring.now c.log-item.result))
    (none-of c.in_ok-place.field-0 c.in_default.not-Some) c.in_ok-place.ensures)

pub returns : goal.returns
returns c =
    logs-all (controller_bound c.args.ring.now) c.args.law c.args.node c.args.logs.now
    (λ k d low. c.loop-log.invariant k d (omega arith))
