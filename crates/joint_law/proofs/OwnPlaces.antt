-- The places of a node's entries on the ring.
use Rattle.std.proofs.Common.{◌≡◌, ℕ, ◌<◌, List, [], length, get_or, sym, subst}
use Rattle.std.proofs.lemmas.List.Elements.{All-from_recursion}
use Rattle.ring_core.specs.declared.entry.LeaveCause.TheVariants.{Ended}
use Rattle.ring_core.specs.declared.entry.RingEntry.{RingEntry}
use Rattle.ring_core.specs.declared.entry.RingEntry.TheVariants.{Leave}
use Rattle.own_places.specs.Places.{ArePlaces, node_numbers}
use Rattle.own_places.proofs.Own.{entries-own, within}
use Rattle.station_laws.specs.Picked.{AreOfNode}

-- the places that were found for a node are those of its entries
pub of-node : (whole ring : List RingEntry) (lists : List (List ℕ)) (places : List ℕ) (node : ℕ)
    → ArePlaces whole lists → node < node_numbers → ring ≡ whole → places ≡ get_or lists node []
    → AreOfNode ring node places
of-node whole ring lists places node found low same are =
    subst (λ (l : List RingEntry). AreOfNode l node places) (sym same)
    (subst (AreOfNode whole node) (sym are) (record {
      within = All-from_recursion (λ (p : ℕ). p < length whole) (get_or lists node [])
          (within whole lists node (Leave 0 Ended) found low);
      own_is = entries-own whole lists node (Leave 0 Ended) found low;
    }))
