-- Sends, and calls that are given up. This project's own.
use Rattle.std.specs.Prelude.{◌≡◌, ℕ, ◌*◌, ◌-◌, ◌<◌, ◌≤◌, Bool, List, [], ◌∷◌, length, Option, Some}
use Rattle.std.specs.Prelude.{None}
use Rattle.plant_types.specs.declared.net.NetPlan.{NetPlan}
use Rattle.mstr_block.specs.declared.call.CallId.{CallId}
use Rattle.ring_core.specs.Machine.{NodeIs, ring_after, ring_node}
use Rattle.ring_core.specs.declared.entry.Heard.{Heard}
use Rattle.ring_core.specs.declared.entry.RingEntry.{RingEntry}
use Rattle.ring_core.specs.declared.entry.RingEntry.TheVariants.{Send, GiveUp}
use Rattle.tied_lists.specs.Own.{is_of, Grew}
use Rattle.tied_lists.specs.Waits.{HasLeft}
use Rattle.ring_core.specs.Machine.{heard_by}
use Rattle.ring_core.specs.declared.frame.Frame.{Frame}
use Rattle.ring_core.specs.declared.refusal.RingNo.{RingNo}
use Rattle.comm_port.specs.Giving.{part_at, part_no, given_part}
use Rattle.comm_port.specs.Parts.{EachNext}
use Rattle.comm_port.specs.Turns.{KeepsInbox}

-- How many Sends a node's outbox takes at most: three for each frame, less those that its first
-- frame had.
abbrev pub sends_of : NodeIs → ℕ
sends_of c = 3 * length c.outbox - c.tries

abbrev pub sends_left : NetPlan → List RingEntry → ℕ → ℕ
sends_left net ring n = sends_of (ring_node (ring_after net ring) n)

-- An entry was added while its node's part was as it had been.
abbrev pub IsThis : NetPlan → ℕ → RingEntry → List RingEntry → List RingEntry → RingEntry
    → Type 0
IsThis net n entry old past e = (e ≡ entry) × (part_at net n past ≡ part_at net n old)

-- A frame was sent.
pub record SentNext (alone : Bool) (net : NetPlan) (n : ℕ) (heard : Heard)
    (old new : List RingEntry) : Type 0 where
  pub grew : Grew alone (is_of n) old (Send n heard ∷ []) new
  pub kept : KeepsInbox net n old new
  pub less : sends_left net new n < sends_left net old n
  pub frame : Frame
  pub left : List Frame
  pub there : Bool
  pub first : (part_at net n old).outbox ≡ frame ∷ left
  pub part_is : part_at net n new
      ≡ heard_by (part_at net n old) frame.kind frame.id there heard
  pub each : EachNext n (IsThis net n (Send n heard) old) old new

-- Nothing is left to be sent.
pub record AllSent (alone : Bool) (net : NetPlan) (n : ℕ) (old new : List RingEntry)
    : Type 0 where
  pub grew : Grew alone (is_of n) old [] new
  pub kept : KeepsInbox net n old new
  pub empty : (ring_node (ring_after net new) n).outbox ≡ []
  pub part_is : part_at net n new ≡ part_at net n old

abbrev pub SentOrAll : Bool → NetPlan → ℕ → List RingEntry → List RingEntry → Option Heard
    → Type 0
SentOrAll alone net n old new (Some heard) = SentNext alone net n heard old new
SentOrAll alone net n old new None = AllSent alone net n old new

-- The entry of a call that was given up; none where it was not.
abbrev pub give_up_entries : CallId → Option ℕ → List RingEntry
give_up_entries id (Some word) = GiveUp id word ∷ []
give_up_entries id None = []

-- The entry of a GiveUp was added while its node's part was as it had been.
abbrev pub IsThisGiveUp : NetPlan → CallId → List RingEntry → List RingEntry → RingEntry → Type 0
IsThisGiveUp net id old past e = (word : ℕ) × IsThis net id.node (GiveUp id word) old past e

-- A call was given up, exactly where the ring lets it.
pub record GaveUp (alone : Bool) (net : NetPlan) (id : CallId) (old new : List RingEntry)
    (word : Option ℕ) : Type 0 where
  pub grew : Grew alone (is_of id.node) old (give_up_entries id word) new
  pub kept : KeepsInbox net id.node old new
  pub less : sends_left net new id.node ≤ sends_left net old id.node
  pub left : HasLeft net old id.node → HasLeft net new id.node
  pub may : (w : ℕ) → word ≡ Some w → part_no net (part_at net id.node old) id ≡ None
  pub never : word ≡ None → (why : RingNo) × (part_no net (part_at net id.node old) id ≡ Some why)
  pub part_is : part_at net id.node new ≡ given_part (part_at net id.node old) id word
  pub each : EachNext id.node (IsThisGiveUp net id old) old new
