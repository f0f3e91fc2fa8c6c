use Rattle.std.proofs.Common.{arith}
use Rattle.plant_types.specs.declared.net.BridgePlan.{BridgePlan}
use Rattle.joint_history.specs.declared.joint.BridgeLog.{BridgeLog}
use Rattle.joint_law.proofs.CourseSteps.{same-node}
use Rattle.station_laws.proofs.Lists.{not-true}
use Rattle.joint_law.proofs.sections.are_of_lefts.Goals as goal

pub returns-then-logs-at : goal.returns-then-logs-at
returns-then-logs-at c = (
  λ no'. not-true no',
  λ same. absurd (c.if-logs-at.true
      (same-node (λ (plan : BridgePlan). plan.left) (λ (log : BridgeLog). log.left)
      c.args.plans.now c.args.logs.now same c.loop-at.at
      (record { left_net = 0; left = 0; right_net = 0; right = 0 })
      c.index-logs-at.result (omega arith))),
)
