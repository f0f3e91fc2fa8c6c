-- What the worker of a bridge's end keeps, while others go on and from turn to turn.
use Rattle.std.proofs.Common.{◌≡◌, ℕ, ◌<◌, Bool, false, List, [], Result, Ok, Err, IfOk, Some}
use Rattle.std.proofs.Common.{refl, sym, ap, ◌∙◌, subst, arith}
use Rattle.std.specs.Prelude.{OnOk}
use Rattle.plant_types.specs.declared.net.BridgePlan.{BridgePlan}
use Rattle.plant_types.specs.declared.net.NetPlan.{NetPlan}
use Rattle.plant_types.specs.declared.plan.Plant.{Plant}
use Rattle.plant_types.specs.Plans.{IsBridgePlan, net_of}
use Rattle.bridge_relay.specs.declared.entry.BridgeEntry.{BridgeEntry}
use Rattle.bridge_relay.specs.Laws.{end_after}
use Rattle.bridge_relay.specs.Legal.{IsBridgeHistory, IsEnd, IsOpenEnd}
use Rattle.ring_core.specs.declared.entry.RingEntry.{RingEntry}
use Rattle.ring_core.specs.Legal.{IsLegalRing}
use Rattle.ring_core.specs.Machine.{is_in, ring_after}
use Rattle.tied_lists.specs.Own.{WentOn, is_of, own}
use Rattle.tied_lists.specs.Waits.{Holds, IsOnRing}
use Rattle.tied_lists.proofs.Turns.{own-found}
use Rattle.comm_port.specs.Giving.{IsAtRest}
use Rattle.comm_port.specs.HostStands.{own_side}
use Rattle.comm_port.specs.Leaving.{IsHere}
use Rattle.comm_port.specs.Sides.{MayWrite, RingSideIs}
use Rattle.bridge_port.specs.EndParts.{HoldsEndTurn}
use Rattle.bridge_port.specs.EndTurns.{BridgeWorkerIs, EndPathsAgree, EndTies}
use Rattle.bridge_port.specs.Sides.{BridgeSideIs}
use Rattle.bridge_port.specs.Stands.{EndIsReady, own_bridge}
use Rattle.bridge_port.proofs.Standings.{ready-new, ties-ring}
use Rattle.turn_laws.specs.KeepsOn.{NoneSpent}
use Rattle.turn_laws.proofs.Holders.{member-there}
use Rattle.end_laws.specs.Laws.{EndTurnsKeepOn, EndTurnsSpendNothing}
use Rattle.end_laws.proofs.Others.{end-others, end-starts}
use Rattle.live_workers.specs.Bridging.{TendsOn}
use Rattle.live_workers.specs.Stations.{IsUnusedEnd}
use Rattle.live_workers.proofs.Keeping.{here-kept, others-only}
use Rattle.live_workers.proofs.Starting.{low-member, low-members, serves-as}

-- the ties of an end at other sides of the same bridge and the same ring
pub ties-at : {P Q R S : Type 0} (n : ℕ) (bridge : BridgeSideIs P) (bridge' : BridgeSideIs R)
    (list : List BridgeEntry) (side : RingSideIs Q) (side' : RingSideIs S) (ring : List RingEntry)
    → bridge'.plan ≡ bridge.plan → side'.net ≡ side.net → MayWrite bridge'.writer n
    → MayWrite side'.writer n → EndTies n bridge list side ring → EndTies n bridge' list side' ring
ties-at n bridge bridge' list side side' ring plan net serves serves' t = record {
  serves_bridge = serves;
  end = subst (λ (p : BridgePlan). IsEnd p n) (sym plan) t.end;
  legal = subst (λ (p : BridgePlan). IsBridgeHistory p list) (sym plan) t.legal;
  serves_ring = serves';
  on = subst (λ (k : NetPlan). IsOnRing k ring n) (sym net) t.on;
  answer = subst (λ (k : NetPlan). 0 < k.answer) (sym net) t.answer;
  tied = t.tied;
  paths = subst (λ (p : BridgePlan). EndPathsAgree (end_after p list n) (own n ring)) (sym plan)
      t.paths;
  rest = subst (λ (k : NetPlan). IsAtRest k n ring) (sym net) t.rest;
}

-- ---- before the first turn

pub tends-start : {P Q : Type 0} (plant : Plant) (plan : BridgePlan) (n : ℕ)
    (bridge : BridgeSideIs P) (list : List BridgeEntry) (side : RingSideIs Q)
    (ring : List RingEntry) → IsBridgePlan plan → IsEnd plan n → bridge.plan ≡ plan
    → bridge.writer ≡ Some n → list ≡ [] → IsUnusedEnd plant n side ring
    → TendsOn n bridge list side ring false
tends-start plant plan n bridge list side ring sound end same writer none u =
    let net = net_of plant n in
    let from = u.sound.numbers.answer.from in
    let wait : 0 < net.answer = omega (arith, from) in
    let ready : EndIsReady n (record { side = n; budget = false }) false
    (record { plan = plan; history = [] }) net [] =
    ready-new n (record { side = n; budget = false }) false plan net refl end
    (low-members net u.sound) u.member wait
    (ap is_in (member-there net n (low-member net n u.sound u.member) u.member)) in
    subst (λ (l : List RingEntry). TendsOn n bridge list side l false) (sym u.nothing)
    (subst (λ (l : List BridgeEntry). TendsOn n bridge l side [] false) (sym none) (record {
      plan = subst IsBridgePlan (sym same) sound;
      ties = ties-at n (own_bridge plan) bridge [] (own_side net) side [] same u.net
          (serves-as bridge.writer n writer) (serves-as side.writer n u.writer) ready.ties;
      is_open = λ stays. subst (λ (p : BridgePlan). IsOpenEnd p [] n) (sym same)
          (ready.is_open refl);
      here = λ stays. subst (λ (k : NetPlan). IsHere k [] n) (sym u.net) (ready.here refl);
      unspent = λ k d within. absurd (omega (arith, within));
      keeps = end-starts bridge.plan side.net n [] [] refl refl;
    }))

-- ---- others go on

pub tends-others : {P Q : Type 0} (alone : Bool) (n : ℕ) (bridge : BridgeSideIs P)
    (list : List BridgeEntry) (side side' : RingSideIs Q) (ring ring' : List RingEntry)
    (left : Bool) → side' ≡ side → WentOn alone (is_of n) ring [] ring'
    → IsLegalRing side.net ring' → TendsOn n bridge list side ring left
    → TendsOn n bridge list side' ring' left
tends-others {P} {Q} alone n bridge list side side' ring ring' left same went legal t =
    let o = others-only alone n ring ring' went in
    subst (λ (s : RingSideIs Q). TendsOn n bridge list s ring' left) (sym same)
    (subst (λ (l : List RingEntry). TendsOn n bridge list side l left) (sym o.1) (record {
      plan = t.plan;
      ties = ties-ring n bridge list side ring o.0 o.2 (subst (IsLegalRing side.net) o.1 legal)
          t.ties;
      is_open = t.is_open;
      here = λ stays. here-kept side.net n ring o.0 o.2 (t.here stays);
      unspent = subst NoneSpent (sym (own-found n ring o.0 o.2)) t.unspent;
      keeps = end-others bridge.plan side.net n list ring o.0 left o.2 t.keeps;
    }))

-- ---- turns

-- what a hold of the token stands on
pub record MayHold {P Q : Type 0} (w : BridgeWorkerIs) (bridge : BridgeSideIs P)
    (list : List BridgeEntry) (side : RingSideIs Q) (ring : List RingEntry) : Type 0 where
  pub ties : EndTies w.side bridge list side ring
  pub is_open : IsOpenEnd bridge.plan list w.side
  pub holds : Holds side.net ring w.side

-- an end that has not left, where its node was given the token
pub may-hold : {P Q : Type 0} (alone : Bool) (w : BridgeWorkerIs) (n : ℕ) (bridge : BridgeSideIs P)
    (list : List BridgeEntry) (side side' : RingSideIs Q) (ring ring' : List RingEntry)
    → w ≡ record { side = n; budget = false } → side' ≡ side
    → WentOn alone (is_of n) ring [] ring' → IsLegalRing side.net ring'
    → (ring_after side.net ring').holder ≡ n → TendsOn n bridge list side ring false
    → MayHold w bridge list side' ring'
may-hold {P} {Q} alone w n bridge list side side' ring ring' worker same went legal found k =
    let t = tends-others alone n bridge list side side' ring ring' false same went legal k in
    subst (λ (v : BridgeWorkerIs). MayHold v bridge list side' ring') (sym worker) (record {
      ties = t.ties;
      is_open = t.is_open refl;
      holds = record {
        holder = ap (λ (s : RingSideIs Q). (ring_after s.net ring').holder) same ∙ found;
        here = t.here refl;
      };
    })

tends-next : {P Q : Type 0} (law : EndTurnsKeepOn) (spends : EndTurnsSpendNothing)
    (alone alone' : Bool) (n : ℕ)
    (bridge bridge' : BridgeSideIs P) (list list' : List BridgeEntry) (side side' : RingSideIs Q)
    (ring ring' : List RingEntry) (left : Bool) → bridge' ≡ bridge → side' ≡ side
    → HoldsEndTurn alone alone' bridge.plan side.net n false list list' ring ring' left
    → EndTies n bridge' list' side' ring' → (left ≡ false → IsOpenEnd bridge'.plan list' n)
    → (left ≡ false → IsHere side'.net ring' n) → TendsOn n bridge list side ring false
    → TendsOn n bridge' list' side' ring' left
tends-next {P} {Q} law spends alone alone' n bridge bridge' list list' side side' ring ring' left
    same same' turn ties open_end here t =
    let plan = bridge.plan in
    let net = side.net in
    let now : EndTies n bridge list' side ring' =
    subst (λ (b : BridgeSideIs P). EndTies n b list' side ring') same
    (subst (λ (s : RingSideIs Q). EndTies n bridge' list' s ring') same' ties) in
    subst (λ (b : BridgeSideIs P). TendsOn n b list' side' ring' left) (sym same)
    (subst (λ (s : RingSideIs Q). TendsOn n bridge list' s ring' left) (sym same') (record {
      plan = t.plan;
      ties = now;
      is_open = λ stays. subst (λ (b : BridgeSideIs P). IsOpenEnd b.plan list' n) same
          (open_end stays);
      here = λ stays. subst (λ (s : RingSideIs Q). IsHere s.net ring' n) same' (here stays);
      unspent = spends alone alone' plan net n left list list' ring ring' t.ties.on turn
          t.unspent;
      keeps = law alone alone' plan net n false left list list' ring ring' t.plan (t.is_open refl)
          turn (ties-at n bridge (own_bridge plan) list side (own_side net) ring refl refl tt tt
          t.ties) (ties-at n bridge (own_bridge plan) list' side (own_side net) ring' refl refl
          tt tt now) t.keeps;
    }))

-- a hold that was made, whatever it answered
pub tends-held : {P Q X : Type 0} (law : EndTurnsKeepOn) (spends : EndTurnsSpendNothing)
    (alone alone' : Bool)
    (w : BridgeWorkerIs) (n : ℕ) (bridge bridge' : BridgeSideIs P)
    (list list' : List BridgeEntry) (side side' : RingSideIs Q) (ring ring' : List RingEntry)
    (r : Result Bool X) → w ≡ record { side = n; budget = false } → bridge' ≡ bridge
    → side' ≡ side → IfOk r
    (HoldsEndTurn alone alone' bridge.plan side.net w.side w.budget list list' ring ring')
    → OnOk r (EndTies w.side bridge' list' side' ring')
    → IfOk r (λ left. left ≡ false → IsOpenEnd bridge'.plan list' w.side)
    → IfOk r (λ left. left ≡ false → IsHere side'.net ring' w.side)
    → TendsOn n bridge list side ring false → IfOk r (TendsOn n bridge' list' side' ring')
tends-held law spends alone alone' w n bridge bridge' list list' side side' ring ring' (Ok left)
    worker same same' held ties open_end here t =
    tends-next law spends alone alone' n bridge bridge' list list' side side' ring ring' left same
    same'
    (subst (λ (v : BridgeWorkerIs). HoldsEndTurn alone alone' bridge.plan side.net v.side v.budget
    list list' ring ring' left) worker held)
    (subst (λ (v : BridgeWorkerIs). EndTies v.side bridge' list' side' ring') worker ties)
    (λ stays. subst (λ (v : BridgeWorkerIs). IsOpenEnd bridge'.plan list' v.side) worker
    (open_end stays))
    (λ stays. subst (λ (v : BridgeWorkerIs). IsHere side'.net ring' v.side) worker (here stays)) t
tends-held law spends alone alone' w n bridge bridge' list list' side side' ring ring' (Err why)
    worker same same' held ties open_end here t = tt
