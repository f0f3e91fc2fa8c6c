-- The sides of nodes at the gates of their rings, before and after a run.
use Rattle.std.proofs.Common.{◌≡◌, ◌≢◌, ℕ, List, [], ◌∷◌, map, Option, Some, None, refl}
use Rattle.std.proofs.Common.{sym, ap, subst, ◌∙◌}
use Rattle.std.specs.Prelude.{flat_map}
use Rattle.std.specs.List.{All, AllZip, Contains}
use Rattle.std.proofs.lemmas.Bool.{eqb-true}
use Rattle.std.proofs.lemmas.List.Elements.{All-contains, All-contains_itself}
use Rattle.plant_types.specs.declared.net.BridgePlan.{BridgePlan}
use Rattle.plant_types.specs.declared.net.NetPlan.{NetPlan}
use Rattle.plant_types.specs.declared.plan.Plant.{Plant}
use Rattle.plant_types.specs.Plans.{IsNetPlan, IsPlant, net_of}
use Rattle.ring_core.specs.declared.entry.RingEntry.{RingEntry}
use Rattle.ring_core.specs.Legal.{IsMember}
use Rattle.comm_port.specs.Sides.{RingSideIs}
use Rattle.comm_port.specs.Turns.{IsNoBridge}
use Rattle.net_laws.proofs.On.{IsOn, left-on, net-same, right-on}
use Rattle.gated_sides.specs.Sides.{GatedRingIs}
use Rattle.live_workers.specs.Stations.{AreBridgesFresh, AreFresh, IsBridgeFresh, IsFresh}
use Rattle.live_workers.specs.Stations.{IsUnusedEnd, ends_side, sides_of}
use Rattle.live_run.specs.Closing.{net_of_gate}
use Rattle.live_run.specs.Dealing.{AreSeatsAt, IsFreshSeat, IsFreshSide, Key, Seat, key_of}
use Rattle.live_run.specs.Dealing.{side_of_seat}
use Rattle.live_run.specs.Ends.{AreEndsAt, Crossing, IsFreshBridge, sides_of_ends}
use Rattle.live_run.specs.Homes.{IsAtHome, IsHomeOf, RingGate, is_ring_of, place_of_ring}
use Rattle.live_run.proofs.Places.{find-there, zip-weaker}
use Rattle.live_run.proofs.Zipped.{contains-at, contains-map, zip-with}

-- what a worker sees of a side at the gate of a ring
abbrev pub seat_side : GatedRingIs → RingSideIs RingGate
seat_side s = record { net = s.gate.fixed; writer = Some s.number; place = s.gate }

abbrev pub seat_seen : GatedRingIs → List RingEntry
seat_seen s = s.seen

-- ---- before the run

-- a node is on the ring of its network, and no end of a bridge there
pub record IsStationOn (plant : Plant) (network node : ℕ) : Type 0 where
  pub on : IsOn plant network node
  pub no_bridge : IsNoBridge (net_of plant node) node

module _ (plant : Plant) (sound : IsPlant plant) (gates : List RingGate)
    (nets : map net_of_gate gates ≡ plant.nets)
    (unused : All (λ (g : RingGate). g.name.opening ≡ []) gates) where
  unused-end : (network node : ℕ) (side : GatedRingIs) → IsOn plant network node
      → IsFreshSide gates network node side
      → IsUnusedEnd plant node (seat_side side) (seat_seen side)
  unused-end network node side on fresh =
      let found = find-there (is_ring_of network) gates fresh.gate fresh.home in
      let there : Contains gates fresh.gate =
      contains-at gates (place_of_ring gates network) fresh.gate found.0 in
      let named : Contains plant.nets fresh.gate.fixed =
      subst (λ (l : List NetPlan). Contains l fresh.gate.fixed) nets
      (contains-map net_of_gate gates fresh.gate there) in
      let same : fresh.gate.fixed ≡ on.net =
      net-same plant fresh.gate.fixed on.net sound named on.there
      (eqb-true fresh.gate.fixed.number network found.1 ∙ sym on.number) in
      record {
        sound = subst IsNetPlan (sym on.is) on.sound;
        member = subst (λ (net : NetPlan). IsMember net node) (sym on.is) on.member;
        net = ap (λ (s : GatedRingIs). s.gate.fixed) fresh.is ∙ (same ∙ sym on.is);
        writer = ap (λ (s : GatedRingIs). Some s.number) fresh.is;
        nothing = ap (λ (s : GatedRingIs). s.seen) fresh.is
            ∙ All-contains (λ (g : RingGate). g.name.opening ≡ []) gates fresh.gate unused there;
      }

  -- stations as they were dealt have not run
  pub seats-fresh : {P L : Type 0} (network_of node_of : P → ℕ) (plans : List P)
      (seats : List (Seat L))
      → All (λ plan. IsStationOn plant (network_of plan) (node_of plan)) plans
      → AllZip (λ plan. IsFreshSeat gates (network_of plan) (node_of plan)) plans seats
      → AreFresh seat_side seat_seen plant node_of plans seats
  seats-fresh {P} {L} network_of node_of plans seats on all =
      zip-with (λ (plan : P). IsStationOn plant (network_of plan) (node_of plan))
      (λ (plan : P) (seat : Seat L). IsFreshSeat gates (network_of plan) (node_of plan) seat)
      (λ (plan : P) (seat : Seat L). IsFresh seat_side seat_seen plant (node_of plan) seat)
      (λ plan seat is fresh. record {
        unused = record {
          unused = unused-end (network_of plan) (node_of plan) seat.ring is.on fresh.side;
          no_bridge = is.no_bridge;
        };
        unlogged = fresh.unlogged;
      })
      plans seats on all

  pub bridges-fresh : (stations : List Crossing)
      → AllZip (IsFreshBridge gates) plant.bridges stations
      → AreBridgesFresh seat_side seat_seen plant plant.bridges stations
  bridges-fresh stations all =
      zip-with (Contains plant.bridges) (IsFreshBridge gates)
      (IsBridgeFresh seat_side seat_seen plant)
      (λ plan station there fresh. record {
        left = unused-end plan.left_net plan.left station.ring.left (left-on plant plan sound there)
            fresh.left;
        right = unused-end plan.right_net plan.right station.ring.right
            (right-on plant plan sound there) fresh.right;
        unlogged = fresh.unlogged;
      })
      plant.bridges stations (All-contains_itself plant.bridges) all

-- ---- after the run

-- the side of a node at the gate of the ring of its network
pub record IsSideOf (gates : List RingGate) (network node : ℕ) (side : GatedRingIs)
    : Type 0 where
  pub home : IsHomeOf gates network side.gate
  pub number : side.number ≡ node
  pub some : node ≢ 0

side-of : (gates : List RingGate) (network node : ℕ) (old new : GatedRingIs)
    → IsFreshSide gates network node old → seat_side new ≡ seat_side old
    → IsSideOf gates network node new
side-of gates network node old new fresh same =
    let gate : new.gate ≡ fresh.gate = ap (λ (v : RingSideIs RingGate). v.place) same
    ∙ ap (λ (s : GatedRingIs). s.gate) fresh.is in
    let writer : Some new.number ≡ Some old.number =
    ap (λ (v : RingSideIs RingGate). v.writer) same in
    let number : new.number ≡ old.number = cc in
    record {
      home = subst (IsHomeOf gates network) (sym gate) fresh.home;
      number = number ∙ ap (λ (s : GatedRingIs). s.number) fresh.is;
      some = fresh.some;
    }

at-home : (gates : List RingGate) (network node : ℕ) (side : GatedRingIs)
    → IsSideOf gates network node side → IsAtHome gates network side
at-home gates network node side is =
    record { home = is.home; number = λ none. is.some (sym is.number ∙ none) }

module _ {P L : Type 0} (gates : List RingGate) (network_of node_of : P → ℕ) where
  pub seats-after : (plans : List P) (old new : List (Seat L))
      → AllZip (λ plan. IsFreshSeat gates (network_of plan) (node_of plan)) plans old
      → sides_of seat_side new ≡ sides_of seat_side old
      → AllZip (λ plan (seat : Seat L). IsSideOf gates (network_of plan) (node_of plan) seat.ring)
      plans new
  seats-after [] [] [] all same = tt
  seats-after [] [] (s ∷ new) all same = absurd (cc)
  seats-after [] (o ∷ old) new all same = absurd all
  seats-after (p ∷ plans) [] new all same = absurd all
  seats-after (p ∷ plans) (o ∷ old) [] all same = absurd (cc)
  seats-after (p ∷ plans) (o ∷ old) (s ∷ new) all same =
      let one : seat_side s.ring ≡ seat_side o.ring = cc in
      let rest : sides_of seat_side new ≡ sides_of seat_side old = cc in (
        side-of gates (network_of p) (node_of p) o.ring s.ring all.0.side one,
        seats-after plans old new all.1 rest,
      )

  pub seats-at : (plans : List P) (seats : List (Seat L))
      → AllZip (λ plan (seat : Seat L). IsSideOf gates (network_of plan) (node_of plan) seat.ring)
      plans seats → AreSeatsAt gates network_of plans seats
  seats-at plans seats all =
      zip-weaker (λ (plan : P) (seat : Seat L).
      IsSideOf gates (network_of plan) (node_of plan) seat.ring)
      (λ (plan : P) (seat : Seat L). IsAtHome gates (network_of plan) seat.ring) plans seats
      (λ plan seat is. at-home gates (network_of plan) (node_of plan) seat.ring is) all

-- the sides of both ends of a bridge
pub record AreEndsOf (gates : List RingGate) (plan : BridgePlan) (station : Crossing)
    : Type 0 where
  pub left : IsSideOf gates plan.left_net plan.left station.ring.left
  pub right : IsSideOf gates plan.right_net plan.right station.ring.right

abbrev pub both_sides : Crossing → RingSideIs RingGate × RingSideIs RingGate
both_sides station = ends_side seat_side station.ring

pub ends-after : (gates : List RingGate) (plans : List BridgePlan) (old new : List Crossing)
    → AllZip (IsFreshBridge gates) plans old
    → map both_sides new ≡ map both_sides old → AllZip (AreEndsOf gates) plans new
ends-after gates [] [] [] all same = tt
ends-after gates [] [] (s ∷ new) all same = absurd (cc)
ends-after gates [] (o ∷ old) new all same = absurd all
ends-after gates (p ∷ plans) [] new all same = absurd all
ends-after gates (p ∷ plans) (o ∷ old) [] all same = absurd (cc)
ends-after gates (p ∷ plans) (o ∷ old) (s ∷ new) all same =
    let one : both_sides s ≡ both_sides o = cc in
    let rest : map both_sides new ≡ map both_sides old = cc in (
      record {
        left = side-of gates p.left_net p.left o.ring.left s.ring.left all.0.left
            (ap (λ (v : RingSideIs RingGate × RingSideIs RingGate). v.0) one);
        right = side-of gates p.right_net p.right o.ring.right s.ring.right all.0.right
            (ap (λ (v : RingSideIs RingGate × RingSideIs RingGate). v.1) one);
      },
      ends-after gates plans old new all.1 rest,
    )

pub ends-at : (gates : List RingGate) (plans : List BridgePlan) (stations : List Crossing)
    → AllZip (AreEndsOf gates) plans stations → AreEndsAt gates plans stations
ends-at gates plans stations all =
    zip-weaker (AreEndsOf gates)
    (λ (plan : BridgePlan) (station : Crossing). IsAtHome gates plan.left_net station.ring.left
    × IsAtHome gates plan.right_net station.ring.right) plans stations
    (λ plan station is. (
      at-home gates plan.left_net plan.left station.ring.left is.left,
      at-home gates plan.right_net plan.right station.ring.right is.right,
    )) all

-- ---- the same gates and numbers

abbrev number_in : Option ℕ → ℕ
number_in None = 0
number_in (Some n) = n

abbrev key_at : RingSideIs RingGate → Key
key_at v = (v.place, number_in v.writer)

keys-are : {L : Type 0} (seats : List (Seat L))
    → map key_of (map side_of_seat seats) ≡ map key_at (sides_of seat_side seats)
keys-are [] = refl
keys-are (s ∷ seats) = λ i. key_of s.ring ∷ keys-are seats i

pub keys-kept : {L : Type 0} (old new : List (Seat L))
    → sides_of seat_side new ≡ sides_of seat_side old
    → map key_of (map side_of_seat new) ≡ map key_of (map side_of_seat old)
keys-kept old new same = keys-are new ∙ (ap (map key_at) same ∙ sym (keys-are old))

abbrev keys_at : RingSideIs RingGate × RingSideIs RingGate → List Key
keys_at both = key_at both.0 ∷ key_at both.1 ∷ []

end-keys-are : (stations : List Crossing)
    → map key_of (flat_map sides_of_ends stations) ≡ flat_map keys_at (map both_sides stations)
end-keys-are [] = refl
end-keys-are (s ∷ stations) =
    λ i. key_of s.ring.left ∷ key_of s.ring.right ∷ end-keys-are stations i

pub end-keys-kept : (old new : List Crossing) → map both_sides new ≡ map both_sides old
    → map key_of (flat_map sides_of_ends new) ≡ map key_of (flat_map sides_of_ends old)
end-keys-kept old new same =
    end-keys-are new ∙ (ap (flat_map keys_at) same ∙ sym (end-keys-are old))

-- ---- as they are read from where they stand

-- stations that ran where they stand are at their gates
pub seats-back : {P L : Type 0} (gates : List RingGate) (network_of node_of : P → ℕ)
    (plans : List P) (items old new back : List (Seat L)) → old ≡ items
    → sides_of seat_side new ≡ sides_of seat_side old → back ≡ new
    → AllZip (λ plan. IsFreshSeat gates (network_of plan) (node_of plan)) plans items
    → AreSeatsAt gates network_of plans back
seats-back {P} {L} gates network_of node_of plans items old new back value same whole all =
    subst (λ (l : List (Seat L)). AreSeatsAt gates network_of plans l) (sym whole)
    (seats-at gates network_of node_of plans new
    (seats-after gates network_of node_of plans items new all
    (same ∙ ap (λ (l : List (Seat L)). sides_of seat_side l) value)))

pub ends-back : (gates : List RingGate) (plans : List BridgePlan)
    (items old new back : List Crossing) → old ≡ items → map both_sides new ≡ map both_sides old
    → back ≡ new → AllZip (IsFreshBridge gates) plans items → AreEndsAt gates plans back
ends-back gates plans items old new back value same whole all =
    subst (λ (l : List Crossing). AreEndsAt gates plans l) (sym whole)
    (ends-at gates plans new
    (ends-after gates plans items new all (same ∙ ap (map both_sides) value)))
