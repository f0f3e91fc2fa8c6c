-- Ends of bridges before anything happens: each stands on a ring with a host.
use Rattle.std.proofs.Common.{◌≡◌, ℕ, ◌<◌, Bool, true, List, [], ◌∷◌, All, Contains, zero, suc}
use Rattle.std.proofs.Common.{refl, sym, ap, ◌∙◌, subst, arith}
use Rattle.plant_types.specs.declared.net.NetPlan.{NetPlan}
use Rattle.plant_types.specs.declared.net.BridgePlan.{BridgePlan}
use Rattle.ring_core.specs.Machine.{addresses, is_here, opening_nodes, part_of}
use Rattle.ring_core.specs.declared.entry.RingEntry.{RingEntry}
use Rattle.bridge_relay.specs.Bridge.{BridgeIs}
use Rattle.bridge_relay.specs.Legal.{IsEnd}
use Rattle.bridge_port.specs.EndTurns.{BridgeWorkerIs}
use Rattle.bridge_port.specs.Stands.{EndIsReady}
use Rattle.bridge_port.proofs.Standings.{ready-new}

-- a ring of a host and an end, on which nothing has happened
pub record IsNewRing (node side : ℕ) (net : NetPlan) (ring : List RingEntry) : Type 0 where
  pub members : net.members ≡ node ∷ side ∷ []
  pub answer : 0 < net.answer
  pub empty : ring ≡ []

pub new-ring : (node side : ℕ) (net plan : NetPlan) (ring : List RingEntry) → net ≡ plan
    → plan.members ≡ node ∷ side ∷ [] → plan.answer ≡ 9 → ring ≡ [] → IsNewRing node side net ring
new-ring node side net plan ring same members answer empty = record {
  members = ap (λ (n : NetPlan). n.members) same ∙ members;
  answer = let is = ap (λ (n : NetPlan). n.answer) same ∙ answer in omega (arith, is);
  empty = empty;
}

low-pair : (node side : ℕ) → node < addresses → side < addresses
    → All (λ m. m < addresses) (node ∷ side ∷ [])
low-pair node side one two zero d range = one
low-pair node side one two (suc zero) d range = two
low-pair node side one two (suc (suc k)) d range = absurd (omega (arith, range))

pub end-starts : (node n : ℕ) (w : BridgeWorkerIs) (left : Bool) (bridge : BridgeIs)
    (plan : BridgePlan) (net : NetPlan) (ring : List RingEntry) → node < addresses → n < addresses
    → is_here (part_of (opening_nodes (node ∷ n ∷ [])) n) ≡ true
    → IsNewRing node n net ring → w.side ≡ n → bridge ≡ record { plan = plan; history = [] }
    → IsEnd plan n → EndIsReady n w left bridge net ring
end-starts node n w left bridge plan net ring low low' here new side is end =
    subst (λ (r : List RingEntry). EndIsReady n w left bridge net r) (sym new.empty)
    (subst (λ (b : BridgeIs). EndIsReady n w left b net []) (sym is)
    (ready-new n w left plan net side end
    (subst (All (λ m. m < addresses)) (sym new.members) (low-pair node n low low'))
    (subst (λ (l : List ℕ). Contains l n) (sym new.members) (1, omega arith, refl))
    new.answer
    (ap (λ (l : List ℕ). is_here (part_of (opening_nodes l) n)) new.members ∙ here)))
