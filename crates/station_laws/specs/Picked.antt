-- The entries of a list at some places. This project's own.
use Rattle.std.specs.Prelude.{◌≡◌, ℕ, ◌<◌, List, length, get_or, map}
use Rattle.std.specs.List.{All}
use Rattle.ring_core.specs.declared.entry.LeaveCause.TheVariants.{Ended}
use Rattle.ring_core.specs.declared.entry.RingEntry.{RingEntry}
use Rattle.ring_core.specs.declared.entry.RingEntry.TheVariants.{Leave}
use Rattle.tied_lists.specs.Own.{own}

-- All places are places of the list.
abbrev pub AreWithin : List RingEntry → List ℕ → Type 0
AreWithin ring places = All (λ p. p < length ring) places

-- The entry at a place.
abbrev pub entry_at : List RingEntry → ℕ → RingEntry
entry_at ring place = get_or ring place (Leave 0 Ended)

-- The entries at some places.
abbrev pub picked : List RingEntry → List ℕ → List RingEntry
picked ring places = map (entry_at ring) places

-- The entries at these places of the ring are those of a node.
pub record AreOfNode (ring : List RingEntry) (node : ℕ) (places : List ℕ) : Type 0 where
  pub within : AreWithin ring places
  pub own_is : picked ring places ≡ own node ring
