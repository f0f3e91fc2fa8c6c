-- The gates of the rings while their passes are dealt and gathered. This project's own.
use Rattle.std.specs.Prelude.{◌≡◌, ◌≢◌, ◌⊎◌, ℕ, true, false, List, [], ◌∷◌, ◌++◌, Option, Some}
use Rattle.std.specs.Prelude.{None, Contains, map, reverse}
use Rattle.std.specs.List.{AllZip}
use Rattle.turn_gate.specs.Known.{PassFacts, first_pass, is_among, made_by, numbers}
use Rattle.ring_core.specs.declared.entry.RingEntry.{RingEntry}
use Rattle.ring_core.specs.Words.{maker}
use Rattle.live_workers.specs.declared.stations.Station.{Station}
use Rattle.live_run.specs.Homes.{IsAtHome, IsHomeOf, IsZero, Purse, RingGate}
use Rattle.gated_sides.specs.Sides.{GatedRingIs}

-- Numbers that are new one after another, and none of them 0.
abbrev pub AreNew : List ℕ → List ℕ → Type 0
AreNew given [] = Unit {0}
AreNew given (n ∷ ns) = (n ≢ 0) × (is_among n given ≡ false) × AreNew (n ∷ given) ns

-- A station of a ring's gate.
abbrev pub Seat : Type 0 → Type 0
Seat L = Station GatedRingIs L

abbrev pub side_of_seat : {L : Type 0} → Seat L → GatedRingIs
side_of_seat seat = seat.ring

-- The gate of a side, and the number of its pass.
abbrev pub Key : Type 0
Key = RingGate × ℕ

abbrev pub key_of : GatedRingIs → Key
key_of side = (side.gate, side.number)

-- ---- Passes are dealt.

-- From pass 0 of a gate passes alone were split off: their numbers are among these, and their sides
-- too.
pub record DealsAt (dealt : List ℕ) (out : List Key) (gate : RingGate) (purse : Purse)
    : Type 0 where
  pub pass : PassFacts RingEntry
  pub kept : purse ≡ Some pass
  pub first : pass ≡ record (first_pass gate.name) { given = pass.given }
  pub among : (n : ℕ) → is_among n pass.given ≡ true → is_among n dealt ≡ true
  pub sides : (n : ℕ) → is_among n pass.given ≡ true → Contains out (gate, n)

-- Passes of these numbers can be dealt.
pub record CanDeal (gates : List RingGate) (purses : List Purse) (nodes : List ℕ) : Type 0 where
  pub dealt : List ℕ
  pub out : List Key
  pub deals : AllZip (DealsAt dealt out) gates purses
  pub new : AreNew dealt nodes

-- Passes of these numbers were dealt, and these are their sides.
abbrev pub IsDealt : List RingGate → List Purse → List Purse → List ℕ → List Key → Type 0
IsDealt gates old new nodes keys = (dealt : List ℕ) (out : List Key)
    → AllZip (DealsAt dealt out) gates old
    → AllZip (DealsAt (reverse nodes ++ dealt) (out ++ keys)) gates new

-- A side of a node of a network, as it was dealt.
pub record IsFreshSide (gates : List RingGate) (network node : ℕ) (side : GatedRingIs)
    : Type 0 where
  pub gate : RingGate
  pub home : IsHomeOf gates network gate
  pub some : node ≢ 0
  pub is : side ≡ record { gate = gate; number = node; seen = gate.name.opening }

-- The station of a node before the run.
pub record IsFreshSeat {L : Type 0} (gates : List RingGate) (network node : ℕ) (seat : Seat L)
    : Type 0 where
  pub side : IsFreshSide gates network node seat.ring
  pub unlogged : seat.log ≡ None

-- ---- Passes are gathered.

-- What a side's pass brought back: its number with its entries, and all that it has seen.
pub record HasBrought (pass : PassFacts RingEntry) (side : GatedRingIs) : Type 0 where
  pub own_is : Contains pass.joined (side.number, made_by maker side.number side.seen)
  pub heard_is : Contains pass.heard side.seen

-- Into pass 0 of a gate those of these sides were joined; of those that it gave these others are
-- still out.
pub record GathersAt (out : List Key) (back : List GatedRingIs) (gate : RingGate) (purse : Purse)
    : Type 0 where
  pub pass : PassFacts RingEntry
  pub kept : purse ≡ Some pass
  pub zero : IsZero gate pass
  pub owed : (n : ℕ) → is_among n pass.given ≡ true
      → (is_among n (numbers pass) ≡ true) ⊎ Contains out (gate, n)
  pub brought : (side : GatedRingIs) → Contains back side → side.gate ≡ gate
      → HasBrought pass side

-- The passes of these sides were joined.
abbrev pub AreGathered : List RingGate → List Purse → List Purse → List GatedRingIs → Type 0
AreGathered gates old new sides = (out : List Key) (back : List GatedRingIs)
    → AllZip (GathersAt (map key_of sides ++ out) back) gates old
    → AllZip (GathersAt out (back ++ sides)) gates new

-- Each station is one of the ring of its plan's network.
abbrev pub AreSeatsAt : {P L : Type 0} → List RingGate → (P → ℕ) → List P → List (Seat L) → Type 0
AreSeatsAt gates network_of plans seats =
    AllZip (λ plan (seat : Seat _). IsAtHome gates (network_of plan) seat.ring) plans seats

-- A history that was there now stands last.
pub record IsLogged {L : Type 0} (log : Option L) (old new : List L) : Type 0 where
  pub item : L
  pub log_is : log ≡ Some item
  pub grown : new ≡ old ++ item ∷ []

abbrev pub HasLog : {S L : Type 0} → Station S L → L → Type 0
HasLog station log = station.log ≡ Some log
