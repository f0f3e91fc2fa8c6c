use Rattle.std.proofs.Common.{◌≡◌, ℕ, true, ap, sym, subst, ◌∙◌}
use Rattle.plant_types.specs.declared.net.BridgePlan.{BridgePlan}
use Rattle.plant_types.specs.declared.net.NetPlan.{NetPlan}
use Rattle.bridge_relay.specs.Legal.{IsOpenEnd}
use Rattle.end_laws.specs.BridgePort.{own_bridge, own_side, EndTies, HoldsEndTurn, IsHere}
use Rattle.end_laws.specs.EndKeeps.{EndKeepsOn}
use Rattle.bridge_station.proofs.end_station.hold_end.Goals as goal

pub returns-clause-held : goal.returns-clause-held
returns-clause-held c =
    let n = c.args.side in
    let end = c.args.end.now in
    let bridge = c.args.bridge.now in
    let ring = c.args.ring.now in
    let new_bridge = c.hold_turn.new.bridge in
    let new_ring = c.hold_turn.new.ring in
    let left = c.in_ok-left.left in
    let o = c.in_ok-left.ensures in
    let s = c.requires.stands in
    let side : end.worker.side ≡ n = s.ready.worker_side in
    let plan : new_bridge.plan ≡ bridge.plan = ap (λ b. b.plan) o.step.station.same in
    let net : new_ring.net ≡ ring.net = ap (λ r. r.net) o.step.node.same in
    let turn : HoldsEndTurn true true bridge.plan ring.net n end.worker.budget bridge.history
    new_bridge.history ring.history new_ring.history left =
    subst (λ (m : ℕ). HoldsEndTurn true true bridge.plan ring.net m end.worker.budget
    bridge.history new_bridge.history ring.history new_ring.history left) side o.held in
    let ties : EndTies n (own_bridge new_bridge.plan) new_bridge.history (own_side new_ring.net)
    new_ring.history =
    subst (λ (m : ℕ). EndTies m (own_bridge new_bridge.plan) new_bridge.history
    (own_side new_ring.net) new_ring.history) side o.ties in
    let keeps = c.end_turns_keep_on.ensures true true bridge.plan ring.net n end.worker.budget left
    bridge.history new_bridge.history ring.history new_ring.history c.history.ensures.sound
    (s.ready.is_open c.requires.here) turn s.ready.ties
    (subst (λ (p : BridgePlan). EndTies n (own_bridge p) new_bridge.history (own_side ring.net)
    new_ring.history) plan
    (subst (λ (k : NetPlan). EndTies n (own_bridge new_bridge.plan) new_bridge.history (own_side k)
    new_ring.history) net ties))
    (subst (EndKeepsOn bridge.plan ring.net n bridge.history ring.history) c.requires.here s.keeps)
    in
    record {
      stands = record {
        ready = record {
          worker_side = ap (λ w. w.side) o.worker ∙ side;
          ties = ties;
          is_open = λ stays. subst (IsOpenEnd new_bridge.plan new_bridge.history) side
              (o.is_open stays);
          here = λ stays. subst (IsHere new_ring.net new_ring.history) side (o.stays stays);
        };
        keeps = subst (λ (p : BridgePlan). EndKeepsOn p new_ring.net n new_bridge.history
            new_ring.history left) (sym plan)
            (subst (λ (k : NetPlan). EndKeepsOn bridge.plan k n new_bridge.history new_ring.history
            left) (sym net) keeps);
      };
      turn = turn;
    }
