use Rattle.std.proofs.Common.{◌==◌, refl, ap, sym, subst, ◌∙◌, eq-eqb}
use Rattle.std.proofs.lemmas.Bool.{ne_eqb}
use Rattle.plant_types.specs.declared.net.BridgePlan.{BridgePlan}
use Rattle.bridge_relay.specs.Legal.{IsEnd}
use Rattle.bridge_station.proofs.Standing.{moved-left, moved-right}
use Rattle.bridge_station.specs.Station.{BridgeStationIs, seen_end}
use Rattle.bridge_station.specs.Stands.{MovedByEnd}
use Rattle.bridge_station.proofs.station.BridgeStation.hold.Goals as goal

pub returns-then-side-self-clause-moved : goal.returns-then-side-self-clause-moved
returns-then-side-self-clause-moved c =
    let i = c.self.inside in
    let n = c.args.side in
    let new : BridgeStationIs = record {
      bridge = c.hold_end.new.bridge;
      left = seen_end c.hold_end.new.end;
      right = seen_end i.right;
    } in
    let old : BridgeStationIs = record {
      bridge = i.bridge;
      left = seen_end i.left;
      right = seen_end i.right;
    } in
    subst (λ (s : BridgeStationIs). MovedByEnd n s new c.args.ring.now c.hold_end.new.ring)
    c.self.view_is
    (moved-left n old new c.args.ring.now c.hold_end.new.ring c.history.ensures.sound
    (ap (λ (p : BridgePlan). n == p.left) c.self.invariant
    ∙ eq-eqb n i.plan.left c.if-side-self.true) refl
    c.hold_end.ensures.moved)

pub returns-else-side-self-clause-moved : goal.returns-else-side-self-clause-moved
returns-else-side-self-clause-moved c =
    let i = c.self.inside in
    let n = c.args.side in
    let h = c.hold_end-else-side-self in
    let new : BridgeStationIs = record {
      bridge = h.new.bridge;
      left = seen_end i.left;
      right = seen_end h.new.end;
    } in
    let old : BridgeStationIs = record {
      bridge = i.bridge;
      left = seen_end i.left;
      right = seen_end i.right;
    } in
    subst (λ (s : BridgeStationIs). MovedByEnd n s new c.args.ring.now h.new.ring)
    c.self.view_is
    (moved-right n old new c.args.ring.now h.new.ring c.history.ensures.sound
    (subst (λ (s : BridgeStationIs). IsEnd s.bridge.plan n) (sym c.self.view_is)
    c.requires.stands.ready.ties.end)
    (ap (λ (p : BridgePlan). n == p.left) c.self.invariant
    ∙ ne_eqb n i.plan.left c.if-side-self.false) refl
    h.ensures.moved)
