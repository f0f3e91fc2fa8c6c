-- The rings of a run behind their gates, and what pass 0 of each gate keeps. This project's own.
use Rattle.std.specs.Prelude.{◌≡◌, ◌≢◌, ◌≤◌, ℕ, ◌==◌, Bool, false, List, ◌∷◌, Option, Some, set}
use Rattle.std.specs.Prelude.{slice_get}
use Rattle.std.specs.List.{count_by, find, position_or_len}
use Rattle.turn_gate.specs.Known.{GateFacts, IsOutside, IsPassReady, PassFacts, is_among, with_pass}
use Rattle.plant_types.specs.declared.net.NetPlan.{NetPlan}
use Rattle.ring_core.specs.declared.entry.RingEntry.{RingEntry}
use Rattle.ring_core.specs.Words.{maker}
use Rattle.gated_sides.specs.Sides.{GatedRingIs}

-- The gate of a ring.
abbrev pub RingGate : Type 0
RingGate = GateFacts RingEntry NetPlan

-- Where pass 0 of a ring's gate is kept; it is empty while the pass is in use.
abbrev pub Purse : Type 0
Purse = Option (PassFacts RingEntry)

-- The gate is that of the ring of a network.
abbrev pub is_ring_of : ℕ → RingGate → Bool
is_ring_of network gate = gate.fixed.number == network

-- A gate is that of the ring of a network.
abbrev pub IsHomeOf : List RingGate → ℕ → RingGate → Type 0
IsHomeOf gates network gate = find (is_ring_of network) gates ≡ Some gate

-- A network has its ring among these.
abbrev pub HasRing : List RingGate → ℕ → Type 0
HasRing gates network = (gate : RingGate) × IsHomeOf gates network gate

-- The place of that gate.
abbrev pub place_of_ring : List RingGate → ℕ → ℕ
place_of_ring gates network = position_or_len (is_ring_of network) gates

-- No two of these gates are of one network.
abbrev pub AreRingsApart : List RingGate → Type 0
AreRingsApart gates = (network : ℕ) → count_by (is_ring_of network) gates ≤ 1

-- A pass is pass 0 of a gate, and outside.
pub record IsZero (gate : RingGate) (pass : PassFacts RingEntry) : Type 0 where
  pub gate_is : pass.gate ≡ gate.name
  pub outside : IsOutside pass
  pub number : pass.number ≡ 0

-- Pass 0 of a gate is kept.
pub record KeepsZero (gate : RingGate) (purse : Purse) : Type 0 where
  pub pass : PassFacts RingEntry
  pub kept : purse ≡ Some pass
  pub zero : IsZero gate pass

-- Pass 0 of a gate is kept, and it can give this number.
pub record KeepsFor (node : ℕ) (gate : RingGate) (purse : Purse) : Type 0 where
  pub keeps : KeepsZero gate purse
  pub fresh : (node ≢ 0) × (is_among node keeps.pass.given ≡ false)

-- A node's pass was split off from pass 0 of the ring of its network.
pub record IsSeated (gates : List RingGate) (old new : List Purse) (network node : ℕ)
    (side : GatedRingIs) : Type 0 where
  pub gate : RingGate
  pub home : IsHomeOf gates network gate
  pub pass : PassFacts RingEntry
  pub was : slice_get old (place_of_ring gates network) ≡ Some (Some pass)
  pub now : new ≡ set old (place_of_ring gates network)
      (Some (record pass { given = node ∷ pass.given }))
  pub side_is : side ≡ record { gate = gate; number = node; seen = pass.seen }

-- A side is one of the ring of a network.
pub record IsAtHome (gates : List RingGate) (network : ℕ) (side : GatedRingIs) : Type 0 where
  pub home : IsHomeOf gates network side.gate
  pub number : side.number ≢ 0

-- A node's pass was joined into pass 0 of the ring of its network.
pub record IsUnseated (gates : List RingGate) (old new : List Purse) (network : ℕ)
    (side : GatedRingIs) : Type 0 where
  pub pass : PassFacts RingEntry
  pub was : slice_get old (place_of_ring gates network) ≡ Some (Some pass)
  pub joins : PassFacts RingEntry
  pub ready : IsPassReady maker side.number side.gate.name joins
  pub seen : joins.seen ≡ side.seen
  pub now : new ≡ set old (place_of_ring gates network) (Some (with_pass pass joins))
