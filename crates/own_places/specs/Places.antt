-- The places of the entries of all nodes. This project's own.
use Rattle.std.specs.Prelude.{◌≡◌, ℕ, ◌<◌, List, [], length, get_or}
use Rattle.ring_core.specs.Words.{maker}
use Rattle.ring_core.specs.declared.entry.RingEntry.{RingEntry}
use Rattle.one_order.specs.Fronts.{places_of}

-- How many numbers a node can have: those that a byte can say.
abbrev pub node_numbers : ℕ
node_numbers = 256

-- For each node there is the list of the places of its entries.
pub record ArePlaces (ring : List RingEntry) (lists : List (List ℕ)) : Type 0 where
  pub count : length lists ≡ node_numbers
  pub each : (node : ℕ) → node < node_numbers → get_or lists node [] ≡ places_of maker node ring
