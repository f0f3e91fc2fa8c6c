-- Which entry of a bridge's list for one of its ends stands after which entry of that end's node
-- on its ring, as counts. This project's own.
use Rattle.std.specs.Prelude.{ℕ, ◌+◌, ◌≤◌, Bool, true, false}
use Rattle.bridge_relay.specs.declared.entry.BridgeEntry.{BridgeEntry}
use Rattle.bridge_relay.specs.declared.entry.BridgeEntry.TheVariants as notes
use Rattle.ring_core.specs.Statistics.{is_for_stats}
use Rattle.ring_core.specs.declared.frame.FrameKind.{FrameKind}
use Rattle.ring_core.specs.declared.frame.FrameKind.TheVariants.{Request, Reply}
use Rattle.ring_core.specs.declared.entry.LeaveCause.{LeaveCause}
use Rattle.ring_core.specs.declared.entry.LeaveCause.TheVariants.{Down}
use Rattle.ring_core.specs.declared.entry.RingEntry.{RingEntry}
use Rattle.ring_core.specs.declared.entry.RingEntry.TheVariants.{Post, Take, Local}
use Rattle.ring_core.specs.declared.entry.RingEntry.TheVariants.{GiveUp, Leave}

-- ---- What the bridge notes at an end.

-- Of a bridge's entries at an end: Requests accepted, Requests sent on, replies given back, calls
-- ended, and how often the end was gone.
pub record EndNoted : Type 0 where
  pub accepted : ℕ
  pub sent_on : ℕ
  pub given_back : ℕ
  pub ended : ℕ
  pub gone : ℕ

abbrev pub no_end_notes : EndNoted
no_end_notes = record { accepted = 0; sent_on = 0; given_back = 0; ended = 0; gone = 0 }

abbrev pub end_note : EndNoted → BridgeEntry → EndNoted
end_note s (notes.Accept side id route request) = record s { accepted = s.accepted + 1 }
end_note s (notes.Forward side old id route request) = record s { sent_on = s.sent_on + 1 }
end_note s (notes.Finish side id result) = record s { ended = s.ended + 1 }
end_note s (notes.Back side id reply) = record s { given_back = s.given_back + 1 }
end_note s (notes.Gone side) = record s { gone = s.gone + 1 }

-- ---- What the node of an end does on its ring.

-- Of a node's entries: Requests posted, Requests taken for the bridge and for the port, those that
-- the port answered, Replies posted, calls over, and how often the node left for good.
pub record EndDone : Type 0 where
  pub posted : ℕ
  pub taken : ℕ
  pub taken_port : ℕ
  pub answered_port : ℕ
  pub replies : ℕ
  pub over : ℕ
  pub left : ℕ

abbrev pub no_end_deeds : EndDone
no_end_deeds = record {
  posted = 0;
  taken = 0;
  taken_port = 0;
  answered_port = 0;
  replies = 0;
  over = 0;
  left = 0;
}

abbrev pub end_posts : EndDone → FrameKind → EndDone
end_posts d Request = record d { posted = d.posted + 1 }
end_posts d Reply = record d { replies = d.replies + 1 }

-- A Request is taken for the port or for the bridge; a Reply that is taken ends the wait for it.
abbrev pub end_takes : EndDone → FrameKind → Bool → EndDone
end_takes d Request true = record d { taken_port = d.taken_port + 1 }
end_takes d Request false = record d { taken = d.taken + 1 }
end_takes d Reply stats = record d { over = d.over + 1 }

-- A node that leaves as power failed has not left for good.
abbrev pub end_leaves : EndDone → LeaveCause → EndDone
end_leaves d (Down number) = d
end_leaves d _ = record d { left = d.left + 1 }

-- A bridge asks nothing of the ports of its ends: what such a port does is an answer.
abbrev pub end_deed : EndDone → RingEntry → EndDone
end_deed d (Post n f) = end_posts d f.kind
end_deed d (Take n f) = end_takes d f.kind (is_for_stats f)
end_deed d (Local n id op result) = record d { answered_port = d.answered_port + 1 }
end_deed d (GiveUp id word) = record d { over = d.over + 1 }
end_deed d (Leave n cause) = end_leaves d cause
end_deed d _ = d

-- ---- What waits for what.

-- Nothing came before its cause: no Request was accepted before it was taken, none was posted
-- before it was sent on, and none was answered at the port before it was taken for it; no Reply
-- was posted before it was given back or answered at the port; no call ended before it was over;
-- and the end was not gone before its node had left.
pub record AreEndCaused (s : EndNoted) (d : EndDone) : Type 0 where
  pub accepts : s.accepted ≤ d.taken
  pub posts : d.posted ≤ s.sent_on
  pub port_answers : d.answered_port ≤ d.taken_port
  pub replies : d.replies ≤ s.given_back + d.answered_port
  pub ends : s.ended ≤ d.over
  pub goes : s.gone ≤ d.left
