-- Parts of a turn, by what they add to a station's list and to the ring's. This project's own.
use Rattle.std.specs.Prelude.{◌≡◌, ℕ, Bool, true, List, [], ◌∷◌, ◌++◌, filter_map}
use Rattle.mstr_block.specs.Table.{network_paths}
use Rattle.mstr_block.specs.declared.call.CallId.{CallId}
use Rattle.ring_core.specs.declared.entry.RingEntry.{RingEntry}
use Rattle.tied_lists.specs.Own.{is_of, own, Grew}
use Rattle.tied_lists.specs.Waits.{waiting}
use Rattle.comm_port.specs.Waiting.{id_of}

-- To each of these, one after another, both lists get what is due to it.
abbrev pub InOrder : {X A : Type 0} → (X → List A → List RingEntry → Type 0) → List X → List A
    → List RingEntry → Type 0
InOrder Due [] noted done = (noted ≡ []) × (done ≡ [])
InOrder {X} {A} Due (x ∷ xs) noted done = (first rest : List A) × (now later : List RingEntry)
    × (noted ≡ first ++ rest) × (done ≡ now ++ later) × Due x first now
    × InOrder Due xs rest later

-- A node's part of a turn: the station's list went on by entries of its own, and the ring's by
-- entries of the node, and these are what is due.
pub record PartOf {A : Type 0} (alone_station alone_ring : Bool) (ours : A → Bool) (n : ℕ)
    (Due : List A → List RingEntry → Type 0) (known new_known : List A)
    (ring new_ring : List RingEntry) : Type 0 where
  pub noted : List A
  pub done : List RingEntry
  pub due : Due noted done
  pub station : Grew alone_station ours known noted new_known
  pub node : Grew alone_ring (is_of n) ring done new_ring

-- The calls of a node that wait, by rising path.
abbrev pub calls_waiting : ℕ → List RingEntry → List CallId
calls_waiting n ring = filter_map (λ path. id_of (waiting path (own n ring))) network_paths

-- Each entry of a node by which a list went on is so after what stands before it.
pub record EachNext (n : ℕ) (IsNext : List RingEntry → RingEntry → Type 0)
    (ring new_ring : List RingEntry) : Type 0 where
  pub more : List RingEntry
  pub after_is : new_ring ≡ ring ++ more
  pub each : (before after : List RingEntry) (e : RingEntry) → more ≡ before ++ e ∷ after
      → is_of n e ≡ true → IsNext (ring ++ before) e
