-- Stations in time between two holds of the token. This project's own.
use Rattle.std.specs.Prelude.{◌≡◌, ℕ, List}
use Rattle.controller_core.specs.declared.entry.Entry.{Entry}
use Rattle.host_port.specs.declared.entry.HostEntry.{HostEntry}
use Rattle.ring_core.specs.declared.entry.RingEntry.{RingEntry}
use Rattle.tied_lists.specs.Own.{own}
use Rattle.one_order.specs.Merges.{tally}
use Rattle.entry_causes.specs.Causes.{Noted, Done, AllAnswered, no_deeds, no_notes, deed, ready}
use Rattle.entry_causes.specs.Causes.{note_entry, note_host}
use Rattle.entry_causes.specs.InTime.{InTime, HostInTime}

-- Each Request that a node took was answered, and each Reply that was due to them was posted.
pub record OwesNoReply (s : Noted) (d : Done) : Type 0 where
  pub answered : AllAnswered d.requests s.answers d.answered_port
  pub posted : d.replies ≡ ready d.requests s.answers d.answered_port

-- What a node did, as its entries on the ring tell.
abbrev pub done_by : ℕ → List RingEntry → Done
done_by n ring = tally deed no_deeds (own n ring)

-- A controller's list is in time with its node, which has replied to all that it took.
pub record StaysInTime (n : ℕ) (list : List Entry) (ring : List RingEntry) : Type 0 where
  pub timely : InTime list (own n ring)
  pub replied : OwesNoReply (tally note_entry no_notes list) (done_by n ring)

-- A host's is.
pub record HostStaysInTime (n : ℕ) (list : List HostEntry) (ring : List RingEntry) : Type 0 where
  pub timely : HostInTime list (own n ring)
  pub replied : OwesNoReply (tally note_host no_notes list) (done_by n ring)
