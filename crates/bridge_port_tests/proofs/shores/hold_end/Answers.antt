use Rattle.std.proofs.Common.{ℕ, sym, ap, ◌∙◌, subst}
use Rattle.plant_types.specs.declared.net.BridgePlan.{BridgePlan}
use Rattle.plant_types.specs.declared.net.NetPlan.{NetPlan}
use Rattle.bridge_relay.specs.Legal.{IsOpenEnd}
use Rattle.comm_port.specs.HostStands.{HostIsReady, own_side}
use Rattle.comm_port.specs.Leaving.{IsHere}
use Rattle.bridge_port.specs.EndTurns.{BridgeWorkerIs, EndTies}
use Rattle.bridge_port.specs.Stands.{EndIsReady, own_bridge}
use Rattle.bridge_port_tests.proofs.Ready.{end-across, host-stays}
use Rattle.bridge_port_tests.proofs.shores.hold_end.Goals as goal

pub returns-clause-host : goal.returns-clause-host
returns-clause-host c =
    let e = c.in_ok-shore.ensures in
    let s = c.args.shore.now in
    let step = e.step.node in
    subst (λ (net : NetPlan). HostIsReady c.args.node s.host s.host_worker s.host_left net
    c.hold_turn.new.ring.history) (sym (ap (λ r. r.net) step.same))
    (host-stays c.args.node s.end_worker.side s.host s.host_worker s.host_left s.ring.net
    s.ring.history step.stands.grown.added c.hold_turn.new.ring.history
    (λ is. c.requires.apart (is ∙ c.requires.end.worker_side)) step.stands.legal
    step.stands.grown.grew c.requires.host)

pub returns-clause-end : goal.returns-clause-end
returns-clause-end c =
    let e = c.in_ok-shore.ensures in
    let bridge = c.hold_turn.new.bridge in
    let ring = c.hold_turn.new.ring in
    let is = c.requires.end.worker_side in
    record {
      worker_side = ap (λ (w : BridgeWorkerIs). w.side) e.worker ∙ is;
      ties = subst (λ (n : ℕ). EndTies n (own_bridge bridge.plan) bridge.history
          (own_side ring.net) ring.history) is e.ties;
      is_open = λ stays. subst (IsOpenEnd bridge.plan bridge.history) is (e.is_open stays);
      here = λ stays. subst (IsHere ring.net ring.history) is (e.stays stays);
    }

pub returns-clause-other : goal.returns-clause-other
returns-clause-other c =
    let e = c.in_ok-shore.ensures in
    let o = c.args.other.now in
    let old = c.args.bridge.now in
    let new = c.hold_turn.new.bridge in
    let step = e.step.station in
    subst (λ (plan : BridgePlan). EndIsReady c.args.across o.end_worker o.end_left
    (record { plan = plan; history = new.history }) o.ring.net o.ring.history)
    (sym (ap (λ b. b.plan) step.same))
    (end-across c.args.across c.args.shore.now.end_worker.side o.end_worker o.end_left old.plan
    old.history step.grown.added new.history o.ring.net o.ring.history
    (λ is. c.requires.two_ends (is ∙ c.requires.end.worker_side)) step.legal step.grown.grew
    c.requires.other)
