-- The gates of rings as they are made, and as they are closed. This project's own.
use Rattle.std.specs.Prelude.{◌≡◌, ℕ, List, [], ◌∷◌, All, Some, true, vec_len, vec_capacity}
use Rattle.turn_gate.specs.Known.{HasAllBack, Owns, PassFacts, StartsWith, first_pass}
use Rattle.plant_types.specs.declared.net.NetPlan.{NetPlan}
use Rattle.ring_core.specs.declared.entry.RingEntry.{RingEntry}
use Rattle.ring_core.specs.Legal.{IsLegalRing}
use Rattle.ring_core.specs.Words.{maker}
use Rattle.joint_history.specs.declared.joint.RingLog.{RingLog}
use Rattle.live_run.specs.Homes.{IsZero, Purse, RingGate}
use Rattle.live_run.specs.declared.rings.Rings.{Rings}

-- The plan of a gate's ring.
abbrev pub net_of_gate : RingGate → NetPlan
net_of_gate gate = gate.fixed

-- No ring is there yet, and there is room for so many.
pub record IsRoomFor (count : ℕ) (rings : Rings) : Type 0 where
  pub no_home : rings.homes.items ≡ []
  pub no_purse : rings.purses.items ≡ []
  pub none : (vec_len rings.homes ≡ 0) × (vec_len rings.purses ≡ 0)
  pub room : (vec_capacity rings.homes ≡ count) × (vec_capacity rings.purses ≡ count)
  pub whole : rings.whole ≡ true

-- Nothing came through the gate of a ring, and its pass 0 is kept.
pub record IsOpened (gate : RingGate) (purse : Purse) : Type 0 where
  pub unused : gate.name.opening ≡ []
  pub kept : purse ≡ Some (first_pass gate.name)

-- The gate of a ring can be closed: all passes that it gave are back.
pub record IsClosable (gate : RingGate) (purse : Purse) : Type 0 where
  pub pass : PassFacts RingEntry
  pub kept : purse ≡ Some pass
  pub zero : IsZero gate pass
  pub all_back : HasAllBack pass

-- What was noted on a ring, as its gate was closed: a legal list of its network, of which all that
-- came back had seen the beginning, each with all entries of its own.
pub record ClosedTo (gate : RingGate) (purse : Purse) (ring : RingLog) : Type 0 where
  pub pass : PassFacts RingEntry
  pub kept : purse ≡ Some pass
  pub network : ring.network ≡ gate.fixed.number
  pub legal : IsLegalRing gate.fixed ring.entries
  pub own : Owns maker pass ring.entries
  pub heard : All (StartsWith ring.entries) pass.heard

-- What was noted on each ring, as its gate was closed: a legal list of its network, of which all
-- that came back had seen the beginning.
abbrev pub AllClosed : List RingGate → List Purse → List RingLog → Type 0
AllClosed [] [] [] = Unit {0}
AllClosed (gate ∷ gates) (purse ∷ purses) (ring ∷ rings) =
    ClosedTo gate purse ring × AllClosed gates purses rings
AllClosed gates purses rings = ⊥
