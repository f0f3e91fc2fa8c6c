use Rattle.std.proofs.Common.{arith}
use Rattle.plant_types.specs.declared.net.NetPlan.{NetPlan}
use Rattle.joint_history.specs.declared.joint.RingLog.{RingLog}
use Rattle.joint_law.proofs.CourseSteps.{same-node}
use Rattle.station_laws.proofs.Lists.{not-true}
use Rattle.joint_law.proofs.sections.are_of_nets.Goals as goal

pub returns-then-logs-at : goal.returns-then-logs-at
returns-then-logs-at c = (
  λ no'. not-true no',
  λ same. absurd (c.if-logs-at.true
      (same-node (λ (plan : NetPlan). plan.number) (λ (log : RingLog). log.network)
      c.args.plans.now c.args.logs.now same c.loop-at.at c.index-plans-at.result
      c.index-logs-at.result (omega arith))),
)
