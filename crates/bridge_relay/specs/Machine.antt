-- A bridge as a machine: what each of its ends has, and what each entry makes of it. The form of an
-- exception is that of the Modicon Modbus Protocol Reference Guide; all else is this project's own.
use Rattle.std.specs.Prelude.{ℕ, ◌-◌, ◌==◌, ◌&&◌, ◌||◌, nat_le, nat_lt, Bool, true, false}
use Rattle.std.specs.Prelude.{not, if◌then◌else◌, List, [], ◌∷◌, ◌++◌, length, map, drop, set}
use Rattle.std.specs.Prelude.{get_or, replicate, fold, slice_index, Option, Some, None, is_some}
use Rattle.std.specs.List.{find, list_all}
use Rattle.plant_types.specs.declared.net.BridgePlan.{BridgePlan}
use Rattle.modbus_pdu.specs.Exceptions.{illegal_function}
use Rattle.modbus_pdu.specs.Spelling.{reply_bytes}
use Rattle.modbus_pdu.specs.declared.reply.Reply.TheVariants.{Exception}
use Rattle.ring_core.specs.MstrBlock.{last_call_number, network_paths, CallId}
use Rattle.bridge_relay.specs.declared.entry.BridgeEntry.{BridgeEntry}
use Rattle.bridge_relay.specs.declared.entry.BridgeEntry.TheVariants.{Accept, Forward, Finish}
use Rattle.bridge_relay.specs.declared.entry.BridgeEntry.TheVariants.{Back, Gone}
use Rattle.bridge_relay.specs.declared.entry.RelayResult.{RelayResult}
use Rattle.bridge_relay.specs.declared.entry.RelayResult.TheVariants.{Reply, Bad}
use Rattle.bridge_relay.specs.declared.end.Waiting as waitings
use Rattle.bridge_relay.specs.declared.end.Returned as returneds
use Rattle.bridge_relay.specs.declared.end.OutCall as calls
use Rattle.bridge_relay.specs.declared.end.RelayPath as paths

-- A request that waits, a reply that waits, a call that is out, and a path.
abbrev pub Waiting : Type 0
Waiting = waitings.Waiting

abbrev pub Returned : Type 0
Returned = returneds.Returned

abbrev pub OutCall : Type 0
OutCall = calls.OutCall

abbrev pub RelayPath : Type 0
RelayPath = paths.RelayPath

-- An end: what it has to send and to give back, each in its order, its four paths, and whether it
-- has left for good.
pub record EndIs : Type 0 where
  pub to_send : List Waiting
  pub to_give : List Returned
  pub paths : List RelayPath
  pub gone : Bool

-- Both ends.
pub record RelayIs : Type 0 where
  pub left : EndIs
  pub right : EndIs

-- How many requests an end has to send at most.
abbrev pub waiting_limit : ℕ
waiting_limit = 16

-- ---- The ends.

-- A path that was not used yet.
abbrev pub unused_path : RelayPath
unused_path = record { last = 0; out = None }

abbrev pub new_end : EndIs
new_end = record {
  to_send = [];
  to_give = [];
  paths = replicate (length network_paths) unused_path;
  gone = false;
}

abbrev pub new_relay : RelayIs
new_relay = record { left = new_end; right = new_end }

-- The end of an address, and the one across the bridge from it.
abbrev pub near_end : BridgePlan → RelayIs → ℕ → EndIs
near_end plan relay side = if side == plan.left then relay.left else relay.right

abbrev pub far_end : BridgePlan → RelayIs → ℕ → EndIs
far_end plan relay side = if side == plan.left then relay.right else relay.left

-- The address across the bridge.
abbrev pub far_side : BridgePlan → ℕ → ℕ
far_side plan side = if side == plan.left then plan.right else plan.left

-- Both ends, given that of an address and the one across.
abbrev pub with_ends : BridgePlan → ℕ → EndIs → EndIs → RelayIs
with_ends plan side near far =
    if side == plan.left then record { left = near; right = far }
    else record { left = far; right = near }

-- A path of an end, which is found by its number, from 1 on.
abbrev pub relay_path : EndIs → ℕ → RelayPath
relay_path end path = get_or end.paths (path - 1) unused_path

abbrev pub with_path : EndIs → ℕ → RelayPath → EndIs
with_path end path now = record end { paths = set end.paths (path - 1) now }

-- The call of this name is out on a path.
abbrev pub is_out_on : RelayPath → CallId → Bool
is_out_on path id = is_some path.out && (path.last == id.seq)

-- A path of an end is free: no call is out on it, and it can give a number.
abbrev pub is_free_relay_path : EndIs → ℕ → Bool
is_free_relay_path end path =
    not (is_some (relay_path end path).out) && nat_lt (relay_path end path).last last_call_number

-- The least free path.
abbrev pub free_relay_path : EndIs → Option ℕ
free_relay_path end = find (is_free_relay_path end) network_paths

-- No call of an end is out.
abbrev pub none_out : EndIs → Bool
none_out end = list_all (λ path. not (is_some path.out)) end.paths

-- An end has nothing to send, out or to give back.
abbrev pub is_idle_end : EndIs → Bool
is_idle_end end = ((length end.to_send == 0) && (length end.to_give == 0)) && none_out end

-- ---- What a request is answered with where it goes no further.

-- The path is not there; the target gave no answer; the bridge has no room.
abbrev pub no_path_code : ℕ
no_path_code = 10

abbrev pub no_answer_code : ℕ
no_answer_code = 11

abbrev pub busy_code : ℕ
busy_code = 6

-- The exception that answers a request of a function: its code with the highest bit set, and why.
abbrev pub exception_of : ℕ → ℕ → List ℕ
exception_of function code = reply_bytes (Exception function code)

-- The exception that answers a request, whose first byte is its function code.
abbrev pub exception_to : List ℕ → ℕ → List ℕ
exception_to request code = exception_of (slice_index request 0) code

-- The code with which a request by this route is answered at once; none where it waits to go on.
abbrev pub code_at_once : BridgePlan → RelayIs → ℕ → List ℕ → Option ℕ
code_at_once plan relay side [] = Some illegal_function
code_at_once plan relay side (next ∷ rest) =
    if (far_end plan relay side).gone || (next == far_side plan side) then Some no_path_code
    else if nat_le waiting_limit (length (far_end plan relay side).to_send) then Some busy_code
    else None

-- The code for a word: 6103 says that nobody is there.
abbrev pub code_of_word : ℕ → ℕ
code_of_word word = if word == 0x6103 then no_path_code else no_answer_code

-- The reply to a request of a function whose call came to this.
abbrev pub reply_of : ℕ → RelayResult → List ℕ
reply_of function (Reply reply) = reply
reply_of function (Bad word) = exception_of function (code_of_word word)

-- The reply to a request whose call came to this.
abbrev pub reply_for : List ℕ → RelayResult → List ℕ
reply_for request result = reply_of (slice_index request 0) result

-- ---- What each entry makes of the ends.

-- An end with one more request to send, or replies to give back.
abbrev pub queues : EndIs → Waiting → EndIs
queues end item = record end { to_send = end.to_send ++ item ∷ [] }

abbrev pub gives : EndIs → List Returned → EndIs
gives end more = record end { to_give = end.to_give ++ more }

-- Accept: the request waits at the other end, or its reply waits at this one.
abbrev pub accepted : BridgePlan → RelayIs → ℕ → Waiting → Option ℕ → RelayIs
accepted plan relay side item None =
    with_ends plan side (near_end plan relay side) (queues (far_end plan relay side) item)
accepted plan relay side item (Some code) =
    let refused : Returned = record { id = item.id; reply = exception_to item.request code } in
    with_ends plan side (gives (near_end plan relay side) (refused ∷ [])) (far_end plan relay side)

-- The call that sends a request on, which came under this name.
abbrev pub out_call : CallId → List ℕ → OutCall
out_call old request = record { old = old; function = slice_index request 0 }

-- Forward: the first request that waits goes out on a path, under the next number of that path.
abbrev pub sent_on : EndIs → CallId → OutCall → EndIs
sent_on end id call = with_path (record end { to_send = drop 1 end.to_send }) id.path
    (record { last = id.seq; out = Some call })

-- Finish: the path is free again.
abbrev pub freed : EndIs → ℕ → EndIs
freed end path = with_path end path (record (relay_path end path) { out = None })

-- The reply that a call which came to this gives back at the other end.
abbrev pub returned : Option OutCall → RelayResult → List Returned
returned None result = []
returned (Some call) result =
    record { id = call.old; reply = reply_of call.function result } ∷ []

abbrev pub relay_finished : BridgePlan → RelayIs → ℕ → CallId → RelayResult → RelayIs
relay_finished plan relay side id result =
    let near = near_end plan relay side in
    with_ends plan side (freed near id.path)
    (gives (far_end plan relay side) (returned (relay_path near id.path).out result))

-- Back: the first reply leaves.
abbrev pub given_back : EndIs → EndIs
given_back end = record end { to_give = drop 1 end.to_give }

-- Gone: the other end gives back, for each request that waited, that the path is not there.
abbrev pub unsent : Waiting → Returned
unsent item = record { id = item.id; reply = exception_to item.request no_path_code }

abbrev pub left_for_good : EndIs → EndIs
left_for_good end = record end { to_send = []; gone = true }

-- The side that makes an entry.
abbrev pub side_of : BridgeEntry → ℕ
side_of (Accept side id route request) = side
side_of (Forward side old id route request) = side
side_of (Finish side id result) = side
side_of (Back side id reply) = side
side_of (Gone side) = side

-- What an entry makes of both ends.
abbrev pub relay_step : BridgePlan → RelayIs → BridgeEntry → RelayIs
relay_step plan relay (Accept side id route request) =
    accepted plan relay side (record { id = id; route = route; request = request })
    (code_at_once plan relay side route)
relay_step plan relay (Forward side old id route request) =
    with_ends plan side
    (sent_on (near_end plan relay side) id (out_call old request)) (far_end plan relay side)
relay_step plan relay (Finish side id result) = relay_finished plan relay side id result
relay_step plan relay (Back side id reply) =
    with_ends plan side (given_back (near_end plan relay side)) (far_end plan relay side)
relay_step plan relay (Gone side) =
    with_ends plan side (left_for_good (near_end plan relay side))
    (gives (far_end plan relay side) (map unsent (near_end plan relay side).to_send))

-- Both ends after entries.
abbrev pub relay_after : BridgePlan → List BridgeEntry → RelayIs
relay_after plan history = fold (relay_step plan) new_relay history
