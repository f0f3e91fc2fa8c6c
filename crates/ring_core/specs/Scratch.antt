-- Global words and statistics, from the whole history. This project's own.
use Rattle.std.specs.Prelude.{ℕ, ◌==◌, Bool, true, false, nat_lt, if◌then◌else◌, List, [], ◌∷◌}
use Rattle.std.specs.Prelude.{◌++◌, length, take, count_by, Option, Some, None}
use Rattle.ring_core.specs.Words.{CallId, FrameKind, Request, Reply, Frame, MstrResult, Good, Bad}
use Rattle.ring_core.specs.Words.{LocalOp, GetStats, ClearStats, PutGlobal, GetGlobal, RemoteGet}
use Rattle.ring_core.specs.Words.{RemoteClear, Heard, Acked, Silent, Busy, Fate, NetPlan, RingEntry}
use Rattle.ring_core.specs.Words.{Post, Send, Take, Local, GiveUp, Pass, Leave, Join, Fell}
use Rattle.ring_core.specs.Words.{LeaveCause, Ended, Spent, Down}
use Rattle.ring_core.specs.Words.{AcceptedRequest, RepeatedRequest, CrowdedOut, AcceptedReply}
use Rattle.ring_core.specs.Words.{DroppedReply}
use Rattle.ring_core.specs.Machine.{NodeIs, RingIs, ring_node, fate_at, arrival, heard_of, after}
use Rattle.ring_core.specs.Machine.{opening, ring_after, is_here}
use Rattle.station_stats.specs.declared.event.StatEvent.{StatEvent}
use Rattle.station_stats.specs.declared.event.StatEvent.TheVariants as stat
use Rattle.station_stats.specs.Counts.{StatNote, since_clear, counts_of, stats_words}
use Rattle.station_stats.specs.Counts.StatNote.{Counted, Cleared}

-- A node that leaves as its power fails loses its words.
abbrev pub words_after_leave : ℕ → ℕ → LeaveCause → List ℕ → List ℕ
words_after_leave n node Ended words = words
words_after_leave n node Spent words = words
words_after_leave n node (Down number) words = if node == n then [] else words

-- The words that a node put last, after its latest Down.
abbrev pub put_by_local : ℕ → ℕ → LocalOp → List ℕ → List ℕ
put_by_local n node (PutGlobal words) put = if node == n then words else put
put_by_local n node _ put = put

abbrev pub put_with : ℕ → List ℕ → RingEntry → List ℕ
put_with n put (Local node id op result) = put_by_local n node op put
put_with n put (Leave node cause) = words_after_leave n node cause put
put_with n put _ = put

abbrev pub put_after : ℕ → List ℕ → List RingEntry → List ℕ
put_after n put [] = put
put_after n put (e ∷ es) = put_after n (put_with n put e) es

abbrev pub words_put : ℕ → List RingEntry → List ℕ
words_put n history = put_after n [] history

-- The heard words of a node: those that its last Pass after its latest Down carried, or none.
abbrev pub heard_in : ℕ → List ℕ → RingEntry → List ℕ
heard_in n heard (Pass node done words) = if node == n then words else heard
heard_in n heard (Leave node cause) = words_after_leave n node cause heard
heard_in n heard _ = heard

abbrev pub heard_after : ℕ → List ℕ → List RingEntry → List ℕ
heard_after n heard [] = heard
heard_after n heard (e ∷ es) = heard_after n (heard_in n heard e) es

abbrev pub heard_words : ℕ → List RingEntry → List ℕ
heard_words n history = heard_after n [] history

-- What an entry counts, and where.
pub record Note : Type 0 where
  pub node : ℕ
  pub what : StatNote

abbrev pub counts : ℕ → StatEvent → Note
counts n event = record { node = n; what = Counted event }

abbrev pub post_event : FrameKind → StatEvent
post_event Request = stat.RequestPosted
post_event Reply = stat.ReplyPosted

abbrev pub take_event : FrameKind → StatEvent
take_event Request = stat.RequestTaken
take_event Reply = stat.ReplyTaken

-- What a sender counts.
abbrev pub heard_event : Heard → StatEvent
heard_event Acked = stat.Acked
heard_event Silent = stat.Silent
heard_event Busy = stat.Busy

-- What a frame counts at its target. A full inbox counts at the sender alone.
abbrev pub arrival_event : Fell → Option StatEvent
arrival_event AcceptedRequest = Some stat.RequestAccepted
arrival_event RepeatedRequest = Some stat.RequestRepeated
arrival_event CrowdedOut = None
arrival_event AcceptedReply = Some stat.ReplyAccepted
arrival_event DroppedReply = Some stat.ReplyDropped

abbrev pub event_notes : ℕ → Option StatEvent → List Note
event_notes to None = []
event_notes to (Some event) = counts to event ∷ []

abbrev pub arrival_notes : ℕ → Option Fell → List Note
arrival_notes to None = []
arrival_notes to (Some fall) = event_notes to (arrival_event fall)

abbrev pub sent_notes : ℕ → ℕ → Fate → Option Fell → List Note
sent_notes n to fate fall =
    arrival_notes to fall ++ counts n (heard_event (heard_of fate fall)) ∷ []

abbrev pub send_notes : NetPlan → RingIs → ℕ → List Frame → List Note
send_notes net r n [] = []
send_notes net r n (f ∷ fs) =
    let fate = fate_at net.fates r.sent in
    sent_notes n f.to fate (arrival net r.nodes fate f)

-- A clear is not counted; every other Local is the own one or one for another node.
abbrev pub owner_event : Bool → StatEvent
owner_event true = stat.OwnLocal
owner_event false = stat.OtherLocal

abbrev pub local_note : ℕ → CallId → LocalOp → StatNote
local_note n id ClearStats = Cleared
local_note n id RemoteClear = Cleared
local_note n id _ = Counted (owner_event (id.node == n))

abbrev pub local_counts : ℕ → CallId → LocalOp → Note
local_counts n id op = record { node = n; what = local_note n id op }

abbrev pub ring_notes : NetPlan → RingIs → RingEntry → List Note
ring_notes net r (Post n f) = counts n (post_event f.kind) ∷ []
ring_notes net r (Send n heard) = send_notes net r n (ring_node r n).outbox
ring_notes net r (Take n f) = counts n (take_event f.kind) ∷ []
ring_notes net r (Local n id op result) = local_counts n id op ∷ []
ring_notes net r (GiveUp id word) = counts id.node stat.GiveUp ∷ []
ring_notes net r (Pass n done words) = counts n stat.Pass ∷ []
ring_notes net r (Leave n cause) = []
ring_notes net r (Join n) = []

-- All that was to be counted in a list of entries.
abbrev pub all_notes : NetPlan → RingIs → List RingEntry → List Note
all_notes net r [] = []
all_notes net r (e ∷ es) = ring_notes net r e ++ all_notes net (after net r e) es

-- Of these notes those that one station counts.
abbrev pub notes_at : ℕ → List Note → List StatNote
notes_at n [] = []
notes_at n (note ∷ notes) =
    if note.node == n then note.what ∷ notes_at n notes else notes_at n notes

-- The fifteen counts of a station since its last clear.
abbrev pub station_counts : NetPlan → List RingEntry → ℕ → List ℕ
station_counts net history n =
    counts_of (since_clear [] (notes_at n (all_notes net (opening net) history)))

-- How many members there are.
abbrev pub count_members : List NodeIs → ℕ
count_members nodes = count_by is_here nodes

abbrev pub members_now : RingIs → ℕ
members_now r = count_members r.nodes

-- The twenty statistics words of a station.
abbrev pub statistics : NetPlan → List RingEntry → ℕ → List ℕ
statistics net history n = stats_words
    (record { node = n; counts = station_counts net history n })
    (members_now (ring_after net history))
    (length (heard_words n history))

-- The answer of GetGlobal: how many words were heard, and the first of them.
abbrev pub global_answer : List ℕ → ℕ → MstrResult
global_answer heard size =
    if nat_lt (length heard) size then Bad 0x200a else Good (length heard ∷ take size heard)

-- The result of a Local.
abbrev pub local_result : NetPlan → List RingEntry → ℕ → LocalOp → MstrResult
local_result net history n GetStats = Good (statistics net history n)
local_result net history n RemoteGet = Good (statistics net history n)
local_result net history n (GetGlobal node size) = global_answer (heard_words node history) size
local_result net history n _ = Good []
