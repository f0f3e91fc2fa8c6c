-- The entries at a node's places are its own.
use Rattle.std.proofs.Common.{◌≡◌, ℕ, ◌<◌, List, [], length, get_or, ap, subst, sym, ◌∙◌}
use Rattle.std.specs.List.{AllByRecursion as Each}
use Rattle.ring_core.specs.Words.{maker}
use Rattle.ring_core.specs.declared.entry.RingEntry.{RingEntry}
use Rattle.one_order.specs.Fronts.{entries_at}
use Rattle.one_order.specs.Orders.{own_of}
use Rattle.one_order.proofs.Fronts.{places-within, places-own}
use Rattle.own_places.specs.Places.{ArePlaces, node_numbers}

pub entries-own : (ring : List RingEntry) (lists : List (List ℕ)) (node : ℕ) (other : RingEntry)
    → ArePlaces ring lists → node < node_numbers
    → entries_at other ring (get_or lists node []) ≡ own_of maker node ring
entries-own ring lists node other s low =
    ap (entries_at other ring) (s.each node low) ∙ places-own maker node ring other

pub within : (ring : List RingEntry) (lists : List (List ℕ)) (node : ℕ) (other : RingEntry)
    → ArePlaces ring lists → node < node_numbers
    → Each (λ (p : ℕ). p < length ring) (get_or lists node [])
within ring lists node other s low =
    subst (Each (λ (p : ℕ). p < length ring)) (sym (s.each node low))
    (places-within maker node ring other)
