-- A bridge behind its gate, once the workers of both its ends are over.
use Rattle.std.proofs.Common.{◌≡◌, ℕ, Bool, true, false, List, [], ◌∷◌, ◌++◌, filter, map, Some}
use Rattle.std.proofs.Common.{All, refl, sym, ap, ◌∙◌, subst, arith}
use Rattle.std.specs.Prelude.{◌&&◌, ◌||◌, nat_eq}
use Rattle.std.proofs.lemmas.Bool.{and_parts}
use Rattle.turn_gate.specs.Known.{GateFacts, IsPassReady, Owns, PassFacts, StartsWith, first_pass}
use Rattle.turn_gate.specs.Known.{is_among, made_by, with_pass}
use Rattle.plant_types.specs.declared.net.BridgePlan.{BridgePlan}
use Rattle.plant_types.specs.declared.net.NetPlan.{NetPlan}
use Rattle.plant_types.specs.declared.plan.Plant.{Plant}
use Rattle.plant_types.specs.Plans.{IsBridgePlan, net_of}
use Rattle.bridge_relay.specs.declared.entry.BridgeEntry.{BridgeEntry}
use Rattle.bridge_relay.specs.Laws.{is_by}
use Rattle.bridge_relay.specs.Legal.{IsBridgeHistory, IsEnd}
use Rattle.bridge_relay.specs.Machine.{side_of}
use Rattle.ring_core.specs.declared.entry.RingEntry.{RingEntry}
use Rattle.comm_port.specs.declared.ring_side.RingSide as ring_sides
use Rattle.comm_port.specs.HostStands.{own_side}
use Rattle.comm_port.specs.Sides.{RingSideIs}
use Rattle.bridge_port.specs.Sides.{BridgeSideIs}
use Rattle.bridge_port.specs.Stands.{own_bridge}
use Rattle.bridge_port.proofs.Standings.{ties-across}
use Rattle.end_laws.specs.EndKeeps.{EndKeepsOn}
use Rattle.end_laws.proofs.Others.{end-across}
use Rattle.gated_sides.specs.Sides.{GatedBridgeIs}
use Rattle.gated_sides.proofs.Stays.{own-made}
use Rattle.live_workers.specs.Bridging.{AreBothBack, TendsAt, TendsOn, bridge_side, gate_side}
use Rattle.live_workers.specs.Stations.{BridgeCameToEnd, EndCameToEnd, IsUnusedEnd}
use Rattle.live_workers.specs.declared.stations.Ends.{Ends}
use Rattle.live_workers.proofs.Closing.{rest-others}
use Rattle.live_workers.proofs.Tending.{tends-start, ties-at}

-- ---- before the workers begin

-- an end at its side of a gate through which nothing came
pub tends-first : {Q : Type 0} (plant : Plant) (plan : BridgePlan) (n : ℕ)
    (gate : GateFacts BridgeEntry BridgePlan) (s : GatedBridgeIs) (p : PassFacts BridgeEntry)
    (side : RingSideIs Q) (ring : List RingEntry) → IsBridgePlan plan → IsEnd plan n
    → gate.fixed ≡ plan → p.seen ≡ [] → p.number ≡ n
    → s ≡ record { gate = gate; number = p.number; seen = p.seen } → IsUnusedEnd plant n side ring
    → TendsOn n (bridge_side s) s.seen side ring false
tends-first plant plan n gate s p side ring sound end fixed none number is u =
    tends-start plant plan n (bridge_side s) s.seen side ring sound end
    (ap (λ (v : GatedBridgeIs). v.gate.fixed) is ∙ fixed)
    (ap (λ (v : GatedBridgeIs). Some v.number) is ∙ ap (λ m. Some m) number)
    (ap (λ (v : GatedBridgeIs). v.seen) is ∙ none) u

-- ---- both passes are back

-- the side of an end as its worker left it, and the pass that came out of it
pub record CameBack (gate : GateFacts BridgeEntry BridgePlan) (n : ℕ) (s : GatedBridgeIs)
    (p : PassFacts BridgeEntry) : Type 0 where
  pub same : bridge_side s ≡ gate_side gate n
  pub ready : IsPassReady side_of s.number s.gate.name p
  pub seen : p.seen ≡ s.seen

-- it came out of a side that was made with the number of the end
pub came-back : (gate : GateFacts BridgeEntry BridgePlan) (n : ℕ) (first s : GatedBridgeIs)
    (q p : PassFacts BridgeEntry) → first ≡ record { gate = gate; number = q.number; seen = q.seen }
    → q.number ≡ n → bridge_side s ≡ bridge_side first → IsPassReady side_of s.number s.gate.name p
    → p.seen ≡ s.seen → CameBack gate n s p
came-back gate n first s q p is number same ready seen = record {
  same = same ∙ ap bridge_side is ∙ ap (gate_side gate) number;
  ready = ready;
  seen = seen;
}

ready-at : (gate : GateFacts BridgeEntry BridgePlan) (n : ℕ) (s : GatedBridgeIs)
    (p : PassFacts BridgeEntry) → CameBack gate n s p → IsPassReady side_of n gate.name p
ready-at gate n s p b =
    let writer : Some s.number ≡ Some n =
    ap (λ (v : BridgeSideIs (GateFacts BridgeEntry BridgePlan)). v.writer) b.same in
    let number : s.number ≡ n = cc in
    let there : s.gate ≡ gate =
    ap (λ (v : BridgeSideIs (GateFacts BridgeEntry BridgePlan)). v.place) b.same in
    subst (λ m. IsPassReady side_of m gate.name p) number
    (subst (λ (g : GateFacts BridgeEntry BridgePlan). IsPassReady side_of s.number g.name p) there
    b.ready)

tends-at-gate : {Q : Type 0} (gate : GateFacts BridgeEntry BridgePlan) (n : ℕ) (s : GatedBridgeIs)
    (p : PassFacts BridgeEntry) (side : RingSideIs Q) (ring : List RingEntry) (left : Bool)
    → CameBack gate n s p → TendsOn n (bridge_side s) s.seen side ring left
    → TendsOn n (gate_side gate n) s.seen side ring left
tends-at-gate gate n s p side ring left b t =
    subst (λ (v : BridgeSideIs (GateFacts BridgeEntry BridgePlan)). TendsOn n v s.seen side ring
    left) b.same t

-- a pass that gave a number
pub given-as : (p q : PassFacts BridgeEntry) (m n : ℕ) → q ≡ record p { given = m ∷ p.given }
    → m ≡ n → q ≡ record p { given = n ∷ p.given }
given-as p q m n is same = subst (λ k. q ≡ record p { given = k ∷ p.given }) same is

-- both numbers that were given are back
both-numbers : (zero' one two : Bool) → (two || (one || false)) ≡ true
    → (zero' || (one || (two || false))) ≡ true
both-numbers true one two is = refl
both-numbers false true two is = refl
both-numbers false false true is = refl
both-numbers false false false is = is

pub both-back : {R Q : Type 0} (r : ring_sides.Ghosts R Q)
    (gate : GateFacts BridgeEntry BridgePlan) (plan : BridgePlan) (ends : Ends R)
    (zero' first second one-back two-back one two : PassFacts BridgeEntry)
    (near far : GatedBridgeIs) (left right : Bool) → gate.name.opening ≡ []
    → zero' ≡ first_pass gate.name → first ≡ record zero' { given = plan.left ∷ zero'.given }
    → second ≡ record first { given = plan.right ∷ first.given }
    → CameBack gate plan.left near one → CameBack gate plan.right far two
    → one-back ≡ with_pass second one → two-back ≡ with_pass one-back two
    → (left ≡ true → TendsAt r plan.left near ends.left true)
    → (right ≡ true → TendsAt r plan.right far ends.right true)
    → AreBothBack r gate plan ends two-back (left && right)
both-back {R} {Q} r gate plan ends zero' first second one-back two-back one two near far left right
    unopened z f s b b' j k t t' =
    subst (λ (p : PassFacts BridgeEntry). AreBothBack r gate plan ends p (left && right))
    (sym whole) (record {
      left_seen = near.seen;
      right_seen = far.seen;
      gate_is = refl;
      outside = refl;
      is_zero = refl;
      all_back = λ n among.
          subst (λ (l : List (ℕ × List BridgeEntry)). is_among n (0 ∷ map (λ q. q.0) l) ≡ true)
          (sym joined) (both-numbers (nat_eq n 0) (nat_eq n plan.left) (nat_eq n plan.right) among);
      joined_is = joined;
      heard_is = λ i. b.seen i ∷ (ready.unheard i ++ (b'.seen i ∷ ready'.unheard i));
      left = λ done. tends-at-gate gate plan.left near one (r.side ends.left) (r.known ends.left)
          true b (t (and_parts left right done).0);
      right = λ done. tends-at-gate gate plan.right far two (r.side ends.right)
          (r.known ends.right) true b' (t' (and_parts left right done).1);
    })
  where
    base : PassFacts BridgeEntry
    base = first_pass gate.name

    whole : two-back ≡ with_pass (with_pass (record base { given = plan.right ∷ plan.left ∷ [] })
        one) two
    whole = k ∙ ap (λ p. with_pass p two) (j ∙ ap (λ p. with_pass p one)
        (s ∙ ap (λ (p : PassFacts BridgeEntry). record p { given = plan.right ∷ p.given })
        (f ∙ ap (λ (p : PassFacts BridgeEntry). record p { given = plan.left ∷ p.given }) z)))

    ready : IsPassReady side_of plan.left gate.name one
    ready = ready-at gate plan.left near one b

    ready' : IsPassReady side_of plan.right gate.name two
    ready' = ready-at gate plan.right far two b'

    mine : one.mine ≡ made_by side_of plan.left near.seen
    mine = own-made side_of plan.left gate.name one near.seen unopened ready b.seen

    mine' : two.mine ≡ made_by side_of plan.right far.seen
    mine' = own-made side_of plan.right gate.name two far.seen unopened ready' b'.seen

    joined : (one.number, one.mine) ∷ (one.joined ++ ((two.number, two.mine) ∷ two.joined))
        ≡ (plan.left, made_by side_of plan.left near.seen)
        ∷ (plan.right, made_by side_of plan.right far.seen) ∷ []
    joined = λ i. (ready.number_is i, mine i)
        ∷ (ready.unjoined i ++ ((ready'.number_is i, mine' i) ∷ ready'.unjoined i))

-- ---- the bridge's history is closed

-- behind what an end's worker saw last the list went on by entries of the other end alone
pub end-came : {Q : Type 0} (plant : Plant) (plan : BridgePlan)
    (gate : GateFacts BridgeEntry BridgePlan) (n : ℕ) (side : RingSideIs Q)
    (ring : List RingEntry) (all seen : List BridgeEntry) → gate.fixed ≡ plan
    → side.net ≡ net_of plant n → StartsWith all seen
    → made_by side_of n seen ≡ made_by side_of n all → IsBridgeHistory plan all
    → TendsOn n (gate_side gate n) seen side ring true → EndCameToEnd plant plan n all ring
end-came plant plan gate n side ring all seen fixed net begins same legal t =
    let bridge = gate_side gate n in
    let rest = begins.0 in
    let none : filter (is_by n) rest ≡ [] = rest-others side_of n all seen rest begins.1 same in
    let long : IsBridgeHistory gate.fixed (seen ++ rest) =
    subst (λ (p : BridgePlan). IsBridgeHistory p (seen ++ rest)) (sym fixed)
    (subst (IsBridgeHistory plan) begins.1 legal) in
    subst (λ (l : List BridgeEntry). EndCameToEnd plant plan n l ring) (sym begins.1) (record {
      ties = ties-at n bridge (own_bridge plan) (seen ++ rest) side (own_side (net_of plant n))
          ring (sym fixed) (sym net) tt tt
          (ties-across n bridge seen rest side ring none long t.ties);
      keeps = subst (λ (p : BridgePlan). EndKeepsOn p (net_of plant n) n (seen ++ rest) ring true)
          fixed (subst (λ (k : NetPlan). EndKeepsOn gate.fixed k n (seen ++ rest) ring true) net
          (end-across gate.fixed side.net n seen rest ring true t.plan t.ties.end long none
          t.keeps));
      unspent = t.unspent;
    })

pub bridge-came : {R Q : Type 0} (r : ring_sides.Ghosts R Q) (plant : Plant) (plan : BridgePlan)
    (gate : GateFacts BridgeEntry BridgePlan) (ends : Ends R) (p : PassFacts BridgeEntry)
    (all : List BridgeEntry) → gate.name.opening ≡ [] → gate.fixed ≡ plan
    → (r.side ends.left).net ≡ net_of plant plan.left
    → (r.side ends.right).net ≡ net_of plant plan.right → AreBothBack r gate plan ends p true
    → All (StartsWith all) p.heard → Owns side_of p all → IsBridgeHistory plan all
    → BridgeCameToEnd plant plan (record { left = plan.left; right = plan.right; entries = all })
    (r.known ends.left) (r.known ends.right)
bridge-came r plant plan gate ends p all unopened fixed left_net right_net b heard owns legal =
    record {
      legal = (refl, refl, legal);
      left_end = end-came plant plan gate plan.left (r.side ends.left) (r.known ends.left) all
          b.left_seen fixed left_net (begins 0 [] (omega arith))
          (owned 0 (0, []) (omega arith) ∙ ap (made_by side_of plan.left) (sym made_is)) legal
          (b.left refl);
      right_end = end-came plant plan gate plan.right (r.side ends.right) (r.known ends.right) all
          b.right_seen fixed right_net (begins 1 [] (omega arith))
          (owned 1 (0, []) (omega arith) ∙ ap (made_by side_of plan.right) (sym made_is)) legal
          (b.right refl);
    }
  where
    begins : All (StartsWith all) (b.left_seen ∷ b.right_seen ∷ [])
    begins = subst (All (StartsWith all)) b.heard_is heard

    made_is : all ≡ owns.made
    made_is = owns.all_is ∙ ap (λ l. l ++ owns.made) (ap (λ x. x.opening) b.gate_is ∙ unopened)

    owned : All (λ (q : ℕ × List BridgeEntry). q.1 ≡ made_by side_of q.0 owns.made)
        ((plan.left, made_by side_of plan.left b.left_seen)
        ∷ (plan.right, made_by side_of plan.right b.right_seen) ∷ [])
    owned = subst (All (λ q. q.1 ≡ made_by side_of q.0 owns.made)) b.joined_is owns.joined_are
