-- The one table of causes: which entry of a station's list or of the ring stands after which.
-- A kind of entry that comes later is one row more of `notings` or `doings`. This project's own.
use Rattle.std.specs.Prelude.{ℕ, zero, suc, ◌+◌, ◌≤◌, ◌==◌, max, Bool, true, false, List, []}
use Rattle.std.specs.Prelude.{◌∷◌, ◌++◌, map}
use Rattle.controller_core.specs.declared.call.Call.{Call}
use Rattle.controller_core.specs.declared.call.CallKind.{CallKind}
use Rattle.controller_core.specs.declared.call.CallKind.TheVariants as call_kinds
use Rattle.controller_core.specs.declared.entry.Entry.{Entry}
use Rattle.controller_core.specs.declared.entry.Entry.TheVariants as entries
use Rattle.host_port.specs.declared.entry.HostEntry.{HostEntry}
use Rattle.host_port.specs.declared.entry.HostEntry.TheVariants as hosts
use Rattle.ring_core.specs.Statistics.{is_for_stats}
use Rattle.ring_core.specs.declared.frame.FrameKind.{FrameKind}
use Rattle.ring_core.specs.declared.frame.FrameKind.TheVariants.{Request, Reply}
use Rattle.ring_core.specs.declared.entry.RingEntry.{RingEntry}
use Rattle.ring_core.specs.declared.entry.RingEntry.TheVariants.{Post, Take, Local}
use Rattle.ring_core.specs.declared.entry.RingEntry.TheVariants.{GiveUp, Leave, Join}
use Rattle.ring_core.specs.declared.entry.LeaveCause.{LeaveCause}
use Rattle.ring_core.specs.declared.entry.LeaveCause.TheVariants.{Down}
use Rattle.one_order.specs.Merges.{tally}

-- An entry of a station of either sort.
pub data StationEntry : Type 0 where
  ByController : (e : Entry) → StationEntry
  ByHost : (e : HostEntry) → StationEntry

-- ---- The rows: what each entry is.

-- What a station notes: it asks another node, or its own port, answers a Request, or lets one go by
-- without power, a call ends, its power fails, or it has power.
pub data Noting : Type 0 where
  Asks : Noting
  AsksPort : Noting
  Serves : Noting
  Declines : Noting
  Ends : Noting
  Fails : Noting
  HasPower : Noting

abbrev pub asking : CallKind → Noting
asking (call_kinds.Net route pdu) = Asks
asking (call_kinds.Local op) = AsksPort

abbrev pub asking_of : Call → Noting
asking_of call = asking call.kind

abbrev pub notings : Entry → List Noting
notings (entries.Collect calls) = map asking_of calls
notings (entries.Peer id request reply) = Serves ∷ []
notings (entries.Off id request) = Declines ∷ []
notings (entries.Finish id result) = Ends ∷ []
notings entries.Fail = Fails ∷ []
notings entries.Begin = HasPower ∷ []
notings _ = []

abbrev pub host_notings : HostEntry → List Noting
host_notings (hosts.Ask id route pdu) = Asks ∷ []
host_notings (hosts.Served id request reply) = Serves ∷ []
host_notings (hosts.Answer id result) = Ends ∷ []

-- What a node does on the ring: it posts a Request, does what its own station asked the port for,
-- takes a Request for its station, or one for its port, answers that, posts a Reply, a call is
-- over, or it leaves as power failed, for the time of that number, or asks to come in again.
pub data Doing : Type 0 where
  PostsRequest : Doing
  WorksPort : Doing
  TakesRequest : Doing
  TakesForPort : Doing
  AnswersAtPort : Doing
  PostsReply : Doing
  IsOver : Doing
  GoesDown : (number : ℕ) → Doing
  ComesBack : Doing

abbrev pub posting : FrameKind → Doing
posting Request = PostsRequest
posting Reply = PostsReply

-- A Reply that is taken ends the wait for it.
abbrev pub taking : FrameKind → Bool → Doing
taking Request true = TakesForPort
taking Request false = TakesRequest
taking Reply stats = IsOver

-- What a port does for another node is the answer to its Request.
abbrev pub working : Bool → List Doing
working true = WorksPort ∷ IsOver ∷ []
working false = AnswersAtPort ∷ []

abbrev pub leaving : LeaveCause → List Doing
leaving (Down number) = GoesDown number ∷ []
leaving _ = []

abbrev pub doings : RingEntry → List Doing
doings (Post n f) = posting f.kind ∷ []
doings (Take n f) = taking f.kind (is_for_stats f) ∷ []
doings (Local n id op result) = working (id.node == n)
doings (GiveUp id word) = IsOver ∷ []
doings (Leave n cause) = leaving cause
doings (Join n) = ComesBack ∷ []
doings _ = []

-- ---- The counts.

-- Of a station's list: calls of other nodes, calls of the own port, Requests answered, of each in
-- order whether with a Reply, calls ended, power failures, and how many of them were over when it
-- last had power.
pub record Noted : Type 0 where
  pub asked : ℕ
  pub asked_port : ℕ
  pub served : ℕ
  pub answers : List Bool
  pub ended : ℕ
  pub failed : ℕ
  pub returned : ℕ

-- Of what its node did: Requests posted, operations of the port for its own station, Requests taken
-- for the station and for the port, of each in order whether for the station, those that the port
-- answered, Replies posted, calls over, the number of the failure as which it left last, and that
-- as which it had left when it last came back.
pub record Done : Type 0 where
  pub posted : ℕ
  pub worked_port : ℕ
  pub taken : ℕ
  pub taken_port : ℕ
  pub requests : List Bool
  pub answered_port : ℕ
  pub replies : ℕ
  pub over : ℕ
  pub down : ℕ
  pub joined : ℕ

abbrev pub no_notes : Noted
no_notes = record {
  asked = 0;
  asked_port = 0;
  served = 0;
  answers = [];
  ended = 0;
  failed = 0;
  returned = 0;
}

abbrev pub no_deeds : Done
no_deeds = record {
  posted = 0;
  worked_port = 0;
  taken = 0;
  taken_port = 0;
  requests = [];
  answered_port = 0;
  replies = 0;
  over = 0;
  down = 0;
  joined = 0;
}

abbrev pub noted_next : Noted → Noting → Noted
noted_next s Asks = record s { asked = s.asked + 1 }
noted_next s AsksPort = record s { asked_port = s.asked_port + 1 }
noted_next s Serves = record s { served = s.served + 1; answers = s.answers ++ true ∷ [] }
noted_next s Declines = record s { served = s.served + 1; answers = s.answers ++ false ∷ [] }
noted_next s Ends = record s { ended = s.ended + 1 }
noted_next s Fails = record s { failed = s.failed + 1 }
noted_next s HasPower = record s { returned = max s.returned s.failed }

abbrev pub done_next : Done → Doing → Done
done_next d PostsRequest = record d { posted = d.posted + 1 }
done_next d WorksPort = record d { worked_port = d.worked_port + 1 }
done_next d TakesRequest = record d { taken = d.taken + 1; requests = d.requests ++ true ∷ [] }
done_next d TakesForPort =
    record d { taken_port = d.taken_port + 1; requests = d.requests ++ false ∷ [] }
done_next d AnswersAtPort = record d { answered_port = d.answered_port + 1 }
done_next d PostsReply = record d { replies = d.replies + 1 }
done_next d IsOver = record d { over = d.over + 1 }
done_next d (GoesDown number) = record d { down = number }
done_next d ComesBack = record d { joined = d.down }

abbrev pub note_entry : Noted → Entry → Noted
note_entry s e = tally noted_next s (notings e)

abbrev pub note_host : Noted → HostEntry → Noted
note_host s e = tally noted_next s (host_notings e)

abbrev pub note : Noted → StationEntry → Noted
note s (ByController e) = note_entry s e
note s (ByHost e) = note_host s e

abbrev pub deed : Done → RingEntry → Done
deed d e = tally done_next d (doings e)

-- ---- What waits for what.

-- How many Replies may be posted: in the order of the Requests taken, each after its answer, by
-- the station or by the port, until one is missing; none to what came without power.
abbrev pub ready : List Bool → List Bool → ℕ → ℕ
ready [] answers port = 0
ready (true ∷ requests) [] port = 0
ready (true ∷ requests) (true ∷ answers) port = 1 + ready requests answers port
ready (true ∷ requests) (false ∷ answers) port = ready requests answers port
ready (false ∷ requests) answers zero = 0
ready (false ∷ requests) answers (suc port) = 1 + ready requests answers port

-- Each Request that was taken was answered, by the station or by the port.
abbrev pub AllAnswered : List Bool → List Bool → ℕ → Type 0
AllAnswered [] [] zero = Unit {0}
AllAnswered [] [] (suc port) = ⊥
AllAnswered [] (with_reply ∷ answers) port = ⊥
AllAnswered (true ∷ requests) [] port = ⊥
AllAnswered (true ∷ requests) (with_reply ∷ answers) port = AllAnswered requests answers port
AllAnswered (false ∷ requests) answers zero = ⊥
AllAnswered (false ∷ requests) answers (suc port) = AllAnswered requests answers port

-- Nothing came before its cause: no Request was posted, and no port worked for its station, before
-- the call was asked; no Request was answered, by the station or by the port, before it was taken;
-- no Reply was posted before the Request that it is to was taken, and none before its answer; no
-- call ended before it was over; no node left before power failed so often, and none came back
-- before there was power again.
pub record AreCaused (s : Noted) (d : Done) : Type 0 where
  pub posts : d.posted ≤ s.asked
  pub port_works : d.worked_port ≤ s.asked_port
  pub answers : s.served ≤ d.taken
  pub port_answers : d.answered_port ≤ d.taken_port
  pub replies : d.replies ≤ ready d.requests s.answers d.answered_port
  pub ends : s.ended ≤ d.over
  pub downs : d.down ≤ s.failed
  pub joins : d.joined ≤ s.returned
