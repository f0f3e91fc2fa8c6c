use Rattle.std.proofs.Common.{true, ◌∙◌, ℕ, Bool, ap, refl, sym, subst}
use Rattle.plant_types.specs.declared.net.HostPlan.{HostPlan}
use Rattle.plant_types.specs.declared.net.NetPlan.{NetPlan}
use Rattle.comm_port.specs.HostTurns.{HoldsHostTurn}
use Rattle.comm_port.specs.HostStands.{own_side}
use Rattle.bridge_station.specs.TurnLaws.{HostKeepsOn, HostStandsTied}
use Rattle.bridge_station.proofs.TurnLaws.{host-stands-of}
use Rattle.serial_run.proofs.Keeping.{after-budget, after-node, left-from}
use Rattle.serial_run.proofs.turning.hold_host.Goals as goal

pub returns : goal.returns
returns c =
    let s = c.args.station.now in
    let ring = c.args.ring.now in
    let host = c.hold_turn.new.host in
    let w = c.hold_turn.new.self in
    let new_ring = c.hold_turn.new.ring in
    let left = c.in_ok-left.left in
    let o = c.in_ok-left.ensures in
    let net = ap (λ side. side.net) o.step.node.same in
    let node = ap (λ k. k.node) o.worker ∙ after-node s.worker left in
    let plan_node = c.requires.stands.ties.node in
    record {
      node = refl;
      network = refl;
      worker_node = node;
      budget = ap (λ k. k.budget) o.worker ∙ after-budget s.worker left;
      plan = o.step.plan;
      net = net;
      ring_legal = c.history.ensures.legal;
      stands = record { ties = o.ties; counts = o.counts };
      turn = o.held;
      left = left-from ring.net new_ring.net new_ring.history s.worker.node left net o.gone o.stays;
      keeps = c.host_turns_keep_on.ensures true ring.net s.host.plan s.worker.budget left
          s.host.history host.history ring.history new_ring.history
          (subst (λ (n : ℕ). HoldsHostTurn true ring.net n s.host.plan s.worker.budget
          s.host.history host.history ring.history new_ring.history left)
          (sym plan_node) o.held)
          (host-stands-of s.worker.node s.host (own_side ring.net) ring.history
          c.requires.stands.ties)
          (subst (λ (p : HostPlan). HostStandsTied p ring.net host.history new_ring.history)
          o.step.plan
          (subst (λ (n : NetPlan). HostStandsTied host.plan n host.history new_ring.history) net
          (host-stands-of w.node host (own_side new_ring.net) new_ring.history o.ties)))
          (subst (λ (b : Bool). HostKeepsOn s.host.plan ring.net s.host.history ring.history b)
          c.requires.here c.requires.keeps);
    }
