use Rattle.std.proofs.Common.{List, length, ap, sym, subst, ◌∙◌}
use Rattle.std.specs.List.{All}
use Rattle.std.proofs.lemmas.Result.{IfOk-weaker}
use Rattle.plant_types.specs.declared.net.HostPlan.{HostPlan}
use Rattle.ring_core.specs.declared.entry.RingEntry.{RingEntry}
use Rattle.joint_history.specs.declared.joint.BridgeLog.{BridgeLog}
use Rattle.joint_history.specs.declared.joint.ControllerLog.{ControllerLog}
use Rattle.joint_history.specs.declared.joint.HostLog.{HostLog}
use Rattle.joint_law.specs.AllComplete.{AreControllersDone, AreEndsDoneOn, AreHostNodesDone}
use Rattle.joint_law.specs.AllComplete.{IsStandingOf, own_entries}
use Rattle.joint_law.proofs.AtNodes.{at-complete, controllers-done, ends-done, hosts-done}
use Rattle.joint_law.proofs.AtNodes.{controllers-sized, hosts-sized, plans-sized, stands-on}
use Rattle.joint_law.proofs.Verdicts.{legal-sections}
use Rattle.station_laws.proofs.Lists.{not-true}
use Rattle.joint_law.proofs.complete.are_done.Goals as goal

pub standing_of-on-requires-clause-one : goal.standing_of-on-requires-clause-one
standing_of-on-requires-clause-one c = c.requires.on_rings.one c.args.node

pub controllers_are_done-requires-clause-done : goal.controllers_are_done-requires-clause-done
controllers_are_done-requires-clause-done c =
    controllers-sized c.args.plant.now c.args.scans c.args.joint.now c.args.followed
    (legal-sections c.args.plant.now c.args.scans c.args.joint.now c.requires.legal)
    c.requires.followed
    ∙ ap length (sym c.as_slice-logs.ensures)

pub hosts_are_done-requires-clause-plans : goal.hosts_are_done-requires-clause-plans
hosts_are_done-requires-clause-plans c =
    ap length c.as_slice-plans.ensures
    ∙ (plans-sized c.args.plant.now c.args.joint.now
    (legal-sections c.args.plant.now c.args.scans c.args.joint.now c.requires.legal)
    ∙ ap length (sym c.as_slice-host_logs.ensures))

pub hosts_are_done-requires-clause-done : goal.hosts_are_done-requires-clause-done
hosts_are_done-requires-clause-done c =
    hosts-sized c.args.plant.now c.args.scans c.args.joint.now c.args.followed
    (legal-sections c.args.plant.now c.args.scans c.args.joint.now c.requires.legal)
    c.requires.followed
    ∙ ap length (sym c.as_slice-host_logs.ensures)

pub returns-then-not-branch : goal.returns-then-not-branch
returns-then-not-branch c =
    let on = c.standing_of-on.result in
    let stands = stands-on c.args.plant.now c.args.scans c.args.joint.now c.args.node on
    c.requires.sound c.requires.legal
    (subst (λ (noted : List RingEntry). IsStandingOf noted c.args.node on)
    c.requires.on_rings.noted_is c.standing_of-on.ensures) in
    let sections = legal-sections c.args.plant.now c.args.scans c.args.joint.now
    c.requires.legal in (
      λ no'. not-true no',
      λ complete. sym c.if-not-branch.true ∙ c.in_ok-controllers_are_done.ensures.1
          (subst (λ (logs : List ControllerLog). AreControllersDone c.args.scans logs
          c.args.followed.done.now on.node on.status (own_entries on)) (sym c.as_slice-logs.ensures)
          (controllers-done c.args.plant.now c.args.scans c.args.joint.now c.args.followed
          c.args.node on c.requires.sound sections c.requires.followed stands
          complete)),
    )

pub returns-then-not-branch-2 : goal.returns-then-not-branch-2
returns-then-not-branch-2 c =
    let on = c.standing_of-on.result in
    let stands = stands-on c.args.plant.now c.args.scans c.args.joint.now c.args.node on
    c.requires.sound c.requires.legal
    (subst (λ (noted : List RingEntry). IsStandingOf noted c.args.node on)
    c.requires.on_rings.noted_is c.standing_of-on.ensures) in
    let sections = legal-sections c.args.plant.now c.args.scans c.args.joint.now
    c.requires.legal in
    let hosts : List HostPlan → List HostLog → Type 0 = λ plans logs. AreHostNodesDone plans logs
    c.args.followed.hosts_done.now on.node on.status (own_entries on) in (
      λ no'. not-true no',
      λ complete. sym c.if-not-branch-2.true ∙ c.in_ok-hosts_are_done.ensures.1
          (subst (λ (logs : List HostLog). hosts c.as_slice-plans.result.now logs)
          (sym c.as_slice-host_logs.ensures)
          (subst (λ (plans : List HostPlan). hosts plans c.args.joint.now.hosts)
          (sym c.as_slice-plans.ensures)
          (hosts-done c.args.plant.now c.args.scans c.args.joint.now c.args.followed c.args.node
          on c.requires.sound sections c.requires.followed stands complete))),
    )

pub returns : goal.returns
returns c =
    let on = c.standing_of-on.result in
    let stands = stands-on c.args.plant.now c.args.scans c.args.joint.now c.args.node on
    c.requires.sound c.requires.legal
    (subst (λ (noted : List RingEntry). IsStandingOf noted c.args.node on)
    c.requires.on_rings.noted_is c.standing_of-on.ensures) in
    let sections = legal-sections c.args.plant.now c.args.scans c.args.joint.now
    c.requires.legal in
    let hosts : List HostPlan → List HostLog → Type 0 = λ plans logs. AreHostNodesDone plans logs
    c.args.followed.hosts_done.now on.node on.status (own_entries on) in
    let controllers = subst (λ (logs : List ControllerLog). AreControllersDone c.args.scans logs
    c.args.followed.done.now on.node on.status (own_entries on)) c.as_slice-logs.ensures
    (c.in_ok-controllers_are_done.ensures.0 c.if-not-branch.false) in
    let hosts-are = subst (λ (plans : List HostPlan). hosts plans c.args.joint.now.hosts)
    c.as_slice-plans.ensures
    (subst (λ (logs : List HostLog). hosts c.as_slice-plans.result.now logs)
    c.as_slice-host_logs.ensures (c.in_ok-hosts_are_done.ensures.0 c.if-not-branch-2.false)) in
    IfOk-weaker c.bridges_are_done.result _ _
    (λ done tested. (
      λ yes. at-complete c.args.plant.now c.args.scans c.args.joint.now c.args.followed
          c.args.node on c.requires.sound sections c.requires.followed stands
          controllers hosts-are
          (subst (λ (logs : List BridgeLog). All (AreEndsDoneOn on) logs) c.as_slice.ensures
          (tested.0 yes)),
      λ complete. tested.1
          (subst (λ (logs : List BridgeLog). All (AreEndsDoneOn on) logs)
          (sym c.as_slice.ensures)
          (ends-done c.args.plant.now c.args.scans c.args.joint.now c.args.node on
          c.requires.sound sections stands complete)),
    ))
    c.bridges_are_done.ensures
