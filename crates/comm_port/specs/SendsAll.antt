-- How a node sends until its outbox is empty. This project's own.
use Rattle.std.specs.Prelude.{◌≡◌, ℕ, Bool, true, List, []}
use Rattle.plant_types.specs.declared.net.NetPlan.{NetPlan}
use Rattle.ring_core.specs.Machine.{awaited_number, path_of}
use Rattle.ring_core.specs.declared.entry.RingEntry.{RingEntry}
use Rattle.ring_core.specs.declared.entry.RingEntry.TheVariants.{Send, GiveUp}
use Rattle.tied_lists.specs.Own.{is_of, Grew}
use Rattle.comm_port.specs.Giving.{part_at, outbox_of, HasFailed, NoneFailed}
use Rattle.comm_port.specs.Parts.{EachNext}

-- What a node does next while it sends and gives up the calls on these paths that failed: it sends
-- where none of them has, and gives up one that has.
abbrev pub IsNextSending : NetPlan → ℕ → (ℕ → Bool) → List RingEntry → RingEntry → Type 0
IsNextSending net n on past (Send m heard) = NoneFailed on (part_at net n past)
IsNextSending net n on past (GiveUp id word) =
    (on id.path ≡ true) × HasFailed (path_of (part_at net n past) id.path).awaits
    × (awaited_number (path_of (part_at net n past) id.path).awaits ≡ id.seq)
IsNextSending net n on past _ = ⊥

-- A node sends until its outbox is empty, and gives up at once each call on these paths that fails.
pub record SendsFrames (alone : Bool) (net : NetPlan) (n : ℕ) (on : ℕ → Bool)
    (ring new_ring : List RingEntry) : Type 0 where
  pub done : List RingEntry
  pub grew : Grew alone (is_of n) ring done new_ring
  pub each : EachNext n (IsNextSending net n on) ring new_ring
  pub all_sent : outbox_of net n new_ring ≡ []
  pub none_failed : NoneFailed on (part_at net n new_ring)
