-- What all nodes noted on their rings, with the places of each there. This project's own.
use Rattle.std.specs.Prelude.{◌≡◌, ◌⊎◌, ℕ, ◌<◌, List, [], ◌∷◌, ◌++◌, length, get_or}
use Rattle.ring_core.specs.declared.entry.RingEntry.{RingEntry}
use Rattle.tied_lists.specs.Own.{own}
use Rattle.joint_history.specs.declared.joint.Joint.{Joint}
use Rattle.joint_history.specs.declared.joint.RingLog.{RingLog}
use Rattle.joint_history.specs.Nets.{entries_of_rings, noted_on_rings}
use Rattle.own_places.specs.Places.{ArePlaces}
use Rattle.station_laws.specs.Picked.{AreOfNode}
use Rattle.joint_law.specs.declared.on_rings.OfNode.{OfNode}
use Rattle.joint_law.specs.declared.on_rings.OnRings.{OnRings}

-- For each ring there are the places of each node's entries.
pub record ArePlacesOn (rings : List RingLog) (own : List (List (List ℕ))) : Type 0 where
  pub count : length own ≡ length rings
  pub each : (k : ℕ) (d : RingLog) → k < length rings
      → ArePlaces (get_or rings k d).entries (get_or own k [])

-- A node noted something on one ring at most: where it did so on one it noted nothing after that.
abbrev pub IsOnOne : ℕ → List RingLog → Type 0
IsOnOne node rings = (before after : List RingLog) (ring : RingLog)
    → rings ≡ before ++ ring ∷ after
    → (own node ring.entries ≡ []) ⊎ (own node (entries_of_rings after) ≡ [])

-- The rings have all that the nodes of a joint history noted, each node on one of them.
pub record AreOnRings (joint : Joint) (on : OnRings) : Type 0 where
  pub places : ArePlacesOn on.rings.now on.own.now
  pub one : (node : ℕ) → IsOnOne node on.rings.now
  pub noted_is : entries_of_rings on.rings.now ≡ noted_on_rings joint

-- A node's ring and its places there: the entries at these places are all that the ring has of the
-- node, and all that was noted of it.
pub record IsOfNode (noted : List RingEntry) (node : ℕ) (of : OfNode) : Type 0 where
  pub places : AreOfNode of.ring.now node of.places.now
  pub own_is : own node of.ring.now ≡ own node noted

-- One ring that has the entries of all these.
pub record IsJoined (rings joined : List RingLog) : Type 0 where
  pub ring : RingLog
  pub is : joined ≡ ring ∷ []
  pub entries : ring.entries ≡ entries_of_rings rings
