-- The calls of a host, as its history tells them. All but the four paths, which are those of the
-- Modbus Plus Network Planning and Installation Guide, is this project's own.
use Rattle.std.specs.Prelude.{ℕ, ◌+◌, ◌==◌, Bool, not, List, Option, Some, None, option_map}
use Rattle.std.specs.Prelude.{is_some, count_by}
use Rattle.std.specs.List.{filter, filter_map, find, list_any}
use Rattle.plant_types.specs.declared.net.HostPlan.{HostPlan}
use Rattle.ring_core.specs.MstrBlock.{is_same_call, network_paths, CallId}
use Rattle.ring_core.specs.declared.frame.Frame.{Frame}
use Rattle.ring_core.specs.Words.{request_along}
use Rattle.host_port.specs.declared.entry.HostEntry.{HostEntry}
use Rattle.host_port.specs.declared.entry.HostEntry.TheVariants.{Ask, Answer, Served}

-- The Request that an entry makes: only an Ask makes one.
abbrev pub request_by : HostEntry → Option Frame
request_by (Ask id route pdu) = Some (request_along id route pdu)
request_by (Answer id result) = None
request_by (Served id request reply) = None

abbrev pub is_ask : HostEntry → Bool
is_ask entry = is_some (request_by entry)

-- The call that an entry ends: only an Answer ends one.
abbrev pub call_answered_by : HostEntry → Option CallId
call_answered_by (Ask id route pdu) = None
call_answered_by (Answer id result) = Some id
call_answered_by (Served id request reply) = None

-- The Requests that were made, and the calls that have ended, each in their order.
abbrev pub requests_in : List HostEntry → List Frame
requests_in history = filter_map request_by history

abbrev pub answered_calls : List HostEntry → List CallId
answered_calls history = filter_map call_answered_by history

-- A call has ended.
abbrev pub has_answer : List HostEntry → CallId → Bool
has_answer history id = list_any (is_same_call id) (answered_calls history)

-- The Requests that have no answer.
abbrev pub unanswered_in : List HostEntry → List Frame
unanswered_in history =
    filter (λ request. not (has_answer history request.id)) (requests_in history)

-- A Request is that of this call.
abbrev pub is_request_of : CallId → Frame → Bool
is_request_of id request = is_same_call request.id id

-- A call was made and has no answer.
abbrev pub is_unanswered : List HostEntry → CallId → Bool
is_unanswered history id = list_any (is_request_of id) (unanswered_in history)

-- A Request goes on this path.
abbrev pub goes_on_path : ℕ → Frame → Bool
goes_on_path path request = request.id.path == path

-- The Request of a path that has no answer.
abbrev pub open_on : List HostEntry → ℕ → Option Frame
open_on history path = find (goes_on_path path) (unanswered_in history)

-- A path has no Request without an answer.
abbrev pub path_is_free : List HostEntry → ℕ → Bool
path_is_free history path = not (list_any (goes_on_path path) (unanswered_in history))

-- The least free path.
abbrev pub free_path : List HostEntry → Option ℕ
free_path history = find (path_is_free history) network_paths

-- How many Requests were made on a path.
abbrev pub asked_on : List HostEntry → ℕ → ℕ
asked_on history path = count_by (goes_on_path path) (requests_in history)

-- The name of the next call: the least free path, and the next number of this path, from 1 on.
abbrev pub call_on : HostPlan → List HostEntry → ℕ → CallId
call_on plan history path =
    record { node = plan.node; path = path; seq = asked_on history path + 1 }

abbrev pub next_host_call : HostPlan → List HostEntry → Option CallId
next_host_call plan history = option_map (call_on plan history) (free_path history)
