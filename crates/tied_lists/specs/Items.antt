-- What the laws read: calls asked for, requests answered and calls ended, of a station's list and
-- of its node's list on the ring. This project's own.
use Rattle.std.specs.Prelude.{ℕ, ◌==◌, if◌then◌else◌, List, [], ◌∷◌, ◌++◌}
use Rattle.std.specs.Prelude.{map, filter_map, Option, Some, None}
use Rattle.std.specs.List.{cons_option}
use Rattle.modbus_pdu.specs.Spelling.{reply_bytes}
use Rattle.modbus_pdu.specs.declared.reply.Reply.TheVariants as replies
pub use Rattle.ring_core.specs.MstrBlock.{words_told}
use Rattle.ring_core.specs.Words.{is_same_call, frame_route}
use Rattle.tied_lists.specs.Words.{CallId, MstrResult, Bad, FrameKind, Request, Reply, Frame}
use Rattle.tied_lists.specs.Words.{LocalOp, RemoteGet, RemoteClear, RingEntry, Post, Take, Local}
use Rattle.tied_lists.specs.Words.{GiveUp, LeaveCause, Ended as AllDone, Spent, Down, Leave}
use Rattle.ring_core.specs.Statistics.{get_statistics, clear_statistics, is_for_stats}
use Rattle.reply_laws.specs.Result.{no_result, result_of}

-- A request that a station asks another for, and the route by which it goes.
pub record Asked : Type 0 where
  pub id : CallId
  pub route : List ℕ
  pub pdu : List ℕ

-- What a call is: a request by a route to another node, or an operation at the own one.
pub data CallSort : Type 0 where
  OverNet : (route pdu : List ℕ) → CallSort
  AtHome : (op : LocalOp) → CallSort

-- A call that a station made.
pub record Called : Type 0 where
  pub id : CallId
  pub sort : CallSort

-- A request that was answered, with the addresses behind the station to which it was still to go;
-- no request where nobody can have asked for it, and no reply where it came without power.
pub record Answered : Type 0 where
  pub id : CallId
  pub rest : List ℕ
  pub request : Option (List ℕ)
  pub reply : Option (List ℕ)

-- The kind of a call that ended.
pub data Kind : Type 0 where
  NetCall : Kind
  LocalCall : (op : LocalOp) → Kind

-- What a call ended with: at a controller a result, at a host or a bridge a reply or a word.
pub data Outcome : Type 0 where
  Came : (result : MstrResult) → Outcome
  Replied : (pdu : List ℕ) → Outcome
  Lacked : (word : ℕ) → Outcome

-- A call that ended; no kind where its station never made it.
pub record Ended : Type 0 where
  pub id : CallId
  pub kind : Option Kind
  pub outcome : Outcome

-- What a station is.
pub data Station : Type 0 where
  AController : Station
  AHost : Station
  ABridge : Station

-- What the laws read of a station's list, with how often its power failed.
pub record Items : Type 0 where
  pub calls : List Called
  pub answers : List Answered
  pub ends : List Ended
  pub fails : ℕ

-- The request of a call, if it asks another node.
abbrev pub net_ask : Called → Option Asked
net_ask c = asks_as c.id c.sort where
  asks_as : CallId → CallSort → Option Asked
  asks_as id (OverNet route pdu) = Some (record { id = id; route = route; pdu = pdu })
  asks_as id (AtHome op) = None

abbrev pub kind_of_sort : CallSort → Kind
kind_of_sort (OverNet route pdu) = NetCall
kind_of_sort (AtHome op) = LocalCall op

-- The kind of the call of this name.
abbrev pub kind_in : List Called → CallId → Option Kind
kind_in [] id = None
kind_in (c ∷ cs) id = if is_same_call c.id id then Some (kind_of_sort c.sort) else kind_in cs id

-- A Request that is posted.
abbrev pub asked_in : FrameKind → Frame → Option Asked
asked_in Request f = Some (record { id = f.id; route = frame_route f; pdu = f.pdu })
asked_in Reply f = None

abbrev pub asked_of : RingEntry → Option Asked
asked_of (Post n f) = asked_in f.kind f
asked_of _ = None

abbrev pub asked_by : List RingEntry → List Asked
asked_by b = filter_map asked_of b

-- The Request that was posted last with this name, or none.
abbrev pub or_some : {X : Type 0} → Option X → Option X → Option X
or_some (Some x) other = Some x
or_some None other = other

abbrev pub last_asked : CallId → List Asked → Option (List ℕ)
last_asked id [] = None
last_asked id (a ∷ rest) =
    or_some (last_asked id rest) (if is_same_call a.id id then Some a.pdu else None)

-- A Request that is taken: for the statistics of the station, or for its controller, host or bridge,
-- which reads the addresses behind the station too.
pub data Taken : Type 0 where
  Plain : (id : CallId) (rest pdu : List ℕ) → Taken
  ForStats : (id : CallId) (pdu : List ℕ) → Taken

abbrev pub taken_in : FrameKind → Frame → Option Taken
taken_in Request f =
    Some (if is_for_stats f then ForStats f.id f.pdu else Plain f.id f.rest f.pdu)
taken_in Reply f = None

abbrev pub taken_of : RingEntry → Option Taken
taken_of (Take n f) = taken_in f.kind f
taken_of _ = None

abbrev pub taken_by : List RingEntry → List Taken
taken_by b = filter_map taken_of b

-- A request under its name, with the addresses behind the station; none where it is missing.
pub record RequestItem : Type 0 where
  pub id : CallId
  pub rest : List ℕ
  pub request : Option (List ℕ)

abbrev pub item_of : Answered → RequestItem
item_of a = record { id = a.id; rest = a.rest; request = a.request }

abbrev pub plain_items : List Taken → List RequestItem
plain_items [] = []
plain_items (Plain id rest pdu ∷ ts) =
    record { id = id; rest = rest; request = Some pdu } ∷ plain_items ts
plain_items (ForStats id pdu ∷ ts) = plain_items ts

abbrev pub stats_items : List Taken → List RequestItem
stats_items [] = []
stats_items (Plain id rest pdu ∷ ts) = stats_items ts
stats_items (ForStats id pdu ∷ ts) =
    record { id = id; rest = []; request = Some pdu } ∷ stats_items ts

-- The request that an operation for another node answers; none where it answers nobody's.
abbrev pub request_of : LocalOp → Option (List ℕ)
request_of RemoteGet = Some get_statistics
request_of RemoteClear = Some clear_statistics
request_of _ = None

-- The reply that tells what an operation for another node came to. Modicon Modbus Protocol
-- Reference Guide.
abbrev pub reply_of : MstrResult → List ℕ
reply_of result = reply_bytes (replies.Stats (words_told result))

-- A Local for another node.
abbrev pub answered_for : ℕ → CallId → LocalOp → MstrResult → Option Answered
answered_for n id op result = if id.node == n then None else Some (record {
  id = id;
  rest = [];
  request = request_of op;
  reply = Some (reply_of result);
})

abbrev pub answered_of : RingEntry → Option Answered
answered_of (Local n id op result) = answered_for n id op result
answered_of _ = None

-- What the port itself answered: statistics.
abbrev pub port_answers : List RingEntry → List Answered
port_answers b = filter_map answered_of b

-- A name with a reply; none where it is missing.
abbrev pub Item : Type 0
Item = CallId × Option (List ℕ)

-- A Reply that is posted.
abbrev pub replied_in : FrameKind → Frame → Option Item
replied_in Request f = None
replied_in Reply f = Some (f.id, Some f.pdu)

abbrev pub replied_of : RingEntry → Option Item
replied_of (Post n f) = replied_in f.kind f
replied_of _ = None

abbrev pub replied_by : List RingEntry → List Item
replied_by b = filter_map replied_of b

abbrev pub replies_in : List Answered → List (Option (List ℕ))
replies_in answers = map (λ (a : Answered). a.reply) answers

abbrev pub first_reply : List (Option (List ℕ)) → Option (Option (List ℕ))
first_reply [] = None
first_reply (x ∷ xs) = Some x

abbrev pub rest_of : List (Option (List ℕ)) → List (Option (List ℕ))
rest_of [] = []
rest_of (x ∷ xs) = xs

-- The Reply that is due for an answer: none where there was no power, and one that nobody can post
-- where the answer is missing.
abbrev pub due_reply : CallId → Option (Option (List ℕ)) → Option Item
due_reply id None = Some (id, None)
due_reply id (Some None) = None
due_reply id (Some (Some reply)) = Some (id, Some reply)

-- The Replies that are due, in the order of the Requests taken: to each what its answer makes due,
-- which is the next answer of its sort.
abbrev pub due_replies : List Taken → List (Option (List ℕ)) → List (Option (List ℕ)) → List Item
due_replies [] peers locals = []
due_replies (Plain id rest pdu ∷ ts) peers locals =
    cons_option (due_reply id (first_reply peers)) (due_replies ts (rest_of peers) locals)
due_replies (ForStats id pdu ∷ ts) peers locals =
    cons_option (due_reply id (first_reply locals)) (due_replies ts peers (rest_of locals))

-- The result of a Reply, where the Request of its name was posted.
abbrev pub result_for : Option (List ℕ) → List ℕ → MstrResult
result_for None reply = no_result
result_for (Some request) reply = result_of request reply

-- What a Reply, a word and an operation at home come to at a station.
abbrev pub outcome_of_reply : Station → Option (List ℕ) → List ℕ → Outcome
outcome_of_reply AController request reply = Came (result_for request reply)
outcome_of_reply AHost request reply = Replied reply
outcome_of_reply ABridge request reply = Replied reply

abbrev pub outcome_of_word : Station → ℕ → Outcome
outcome_of_word AController word = Came (Bad word)
outcome_of_word AHost word = Lacked word
outcome_of_word ABridge word = Lacked word

abbrev pub ended_in : Station → List Asked → FrameKind → Frame → Option Ended
ended_in station asked Request f = None
ended_in station asked Reply f = Some (record {
  id = f.id;
  kind = Some NetCall;
  outcome = outcome_of_reply station (last_asked f.id asked) f.pdu;
})

abbrev pub ended_at_home : ℕ → CallId → LocalOp → MstrResult → Option Ended
ended_at_home n id op result = if id.node == n then Some (record {
  id = id;
  kind = Some (LocalCall op);
  outcome = Came result;
}) else None

-- What an entry ends, after these Requests were posted.
abbrev pub ended_of : Station → List Asked → RingEntry → Option Ended
ended_of station asked (Take n f) = ended_in station asked f.kind f
ended_of station asked (Local n id op result) = ended_at_home n id op result
ended_of station asked (GiveUp id word) = Some (record {
  id = id;
  kind = Some NetCall;
  outcome = outcome_of_word station word;
})
ended_of station asked _ = None

abbrev pub ended_by : Station → List Asked → List RingEntry → List Ended
ended_by station asked [] = []
ended_by station asked (e ∷ es) =
    cons_option (ended_of station asked e)
    (ended_by station (asked ++ cons_option (asked_of e) []) es)

-- The number of a Down: how often power had failed when the node left by it.
abbrev pub down_in : LeaveCause → Option ℕ
down_in AllDone = None
down_in Spent = None
down_in (Down number) = Some number

abbrev pub down_of : RingEntry → Option ℕ
down_of (Leave n cause) = down_in cause
down_of _ = None

-- The numbers of the Downs, in order.
abbrev pub downs_by : List RingEntry → List ℕ
downs_by b = filter_map down_of b

-- The number of the latest Down; this one where there is none.
abbrev pub last_from : ℕ → List ℕ → ℕ
last_from number [] = number
last_from number (k ∷ ks) = last_from k ks

-- The number of the latest Down; 0 for none.
abbrev pub latest_down : List RingEntry → ℕ
latest_down b = last_from 0 (downs_by b)

-- Items that go on by calls, an answer, an end or a power failure.
abbrev pub no_items : Items
no_items = record { calls = []; answers = []; ends = []; fails = 0 }

abbrev pub with_calls : Items → List Called → Items
with_calls a calls = record a { calls = a.calls ++ calls }

abbrev pub with_answer : Items → Answered → Items
with_answer a answer = record a { answers = a.answers ++ answer ∷ [] }

abbrev pub with_end : Items → CallId → Outcome → Items
with_end a id outcome = record a {
  ends = a.ends ++ record { id = id; kind = kind_in a.calls id; outcome = outcome } ∷ [];
}

-- The same items, where power failed so often.
abbrev pub with_fails : Items → ℕ → Items
with_fails a fails = record a { fails = fails }
