use Rattle.std.proofs.Common.{false, get_or, refl, subst, sym, ap, ◌∙◌, arith}
use Rattle.plant_types.specs.declared.net.HostPlan.{HostPlan}
use Rattle.joint_history.specs.declared.joint.HostLog.{HostLog}
use Rattle.joint_law.specs.AllComplete.{IsHostNodeDone, own_entries}
use Rattle.joint_law.proofs.AtNodes.{hosts-more}
use Rattle.station_laws.proofs.Lists.{not-true}
use Rattle.joint_law.proofs.complete.hosts_are_done.Goals as goal

pub returns-then-not-branch : goal.returns-then-not-branch
returns-then-not-branch c = (
  λ no'. not-true no',
  λ all. sym c.if-not-branch.true ∙ c.in_ok-host_is_done.ensures.1 (λ same.
      subst (λ (p : HostPlan). IsHostNodeDone p c.args.on.status c.index-logs-at.result
      (get_or c.args.done.now c.loop-at.at false) (own_entries c.args.on))
      (sym c.index-plans-at.is)
      (subst (λ (g : HostLog). IsHostNodeDone
      (get_or c.args.plans.now c.loop-at.at c.index-plans-at.result) c.args.on.status g
      (get_or c.args.done.now c.loop-at.at false) (own_entries c.args.on))
      (sym c.index-logs-at.is)
      (all c.loop-at.at c.index-plans-at.result c.index-logs-at.result (omega arith)
      (ap (λ (g : HostLog). g.node) (sym c.index-logs-at.is) ∙ same)))),
)

pub loop-at-preserved : goal.loop-at-preserved
loop-at-preserved c =
    hosts-more c.args.plans.now c.args.logs.now c.args.done.now c.args.on.node c.args.on.status
    (own_entries c.args.on) c.loop-at.at c.index-plans-at.result c.index-logs-at.result
    c.loop-at.invariant (omega arith) (omega arith) c.index-plans-at.is c.index-logs-at.is
    (c.in_ok-host_is_done.ensures.0 c.if-not-branch.false)

pub returns : goal.returns
returns c = (λ _ k p d low. c.loop-at.invariant k p d (omega arith), λ _. refl)
