-- What the laws read of a controller's and of a host's list. This project's own.
use Rattle.std.specs.Prelude.{ℕ, ◌+◌, Bool, true, false, List, [], ◌∷◌, map, Option, Some, None}
use Rattle.mstr_block.specs.declared.call.CallId.{CallId}
use Rattle.controller_core.specs.declared.fixed.Fixed.{Fixed}
use Rattle.controller_core.specs.declared.call.Call.{Call}
use Rattle.controller_core.specs.declared.call.CallKind.{CallKind}
use Rattle.controller_core.specs.declared.call.CallKind.TheVariants as kinds
use Rattle.controller_core.specs.declared.entry.Entry.{Entry}
use Rattle.controller_core.specs.declared.entry.Entry.TheVariants as entries
use Rattle.controller_core.specs.Controller.{ControllerIs, has_started, has_ended, is_off, state_of}
use Rattle.host_port.specs.declared.entry.HostEntry.{HostEntry}
use Rattle.host_port.specs.declared.entry.HostEntry.TheVariants as host_entries
use Rattle.host_port.specs.declared.entry.HostResult.{HostResult}
use Rattle.host_port.specs.declared.entry.HostResult.TheVariants as host_results
use Rattle.tied_lists.specs.Items.{Called, CallSort, OverNet, AtHome, Outcome, Came, Replied}
use Rattle.tied_lists.specs.Items.{Lacked, Answered, Items, no_items, with_calls, with_answer}
use Rattle.tied_lists.specs.Items.{with_end}
use Rattle.tied_lists.specs.Items.{with_fails}

-- An entry of a controller that its communication makes.
abbrev pub is_ours : Entry → Bool
is_ours (entries.Collect calls) = true
is_ours (entries.Peer id request reply) = true
is_ours (entries.Off id request) = true
is_ours (entries.Finish id result) = true
is_ours _ = false

-- A call as the laws read it.
abbrev pub sort_of : CallKind → CallSort
sort_of (kinds.Net route pdu) = OverNet route pdu
sort_of (kinds.Local op) = AtHome op

abbrev pub called_of : Call → Called
called_of c = record { id = c.id; sort = sort_of c.kind }

-- A controller and a host answer what goes no further.
abbrev pub answered_here : CallId → List ℕ → Option (List ℕ) → Answered
answered_here id request reply =
    record { id = id; rest = []; request = Some request; reply = reply }

-- What an entry of a controller adds to the items: a request that comes where there is no power is
-- answered with no reply.
abbrev pub item_next : Items → Entry → Items
item_next a (entries.Collect calls) = with_calls a (map called_of calls)
item_next a (entries.Peer id request reply) =
    with_answer a (answered_here id request (Some reply))
item_next a (entries.Off id request) = with_answer a (answered_here id request None)
item_next a (entries.Finish id result) = with_end a id (Came result)
item_next a entries.Fail = with_fails a (a.fails + 1)
item_next a _ = a

abbrev pub items_after : Items → List Entry → Items
items_after a [] = a
items_after a (e ∷ es) = items_after (item_next a e) es

-- The items of a controller's list.
abbrev pub items_of : List Entry → Items
items_of entries = items_after no_items entries

-- What an entry of a host adds to the items.
abbrev pub outcome_of : HostResult → Outcome
outcome_of (host_results.Reply pdu) = Replied pdu
outcome_of (host_results.Bad word) = Lacked word

abbrev pub host_item_next : Items → HostEntry → Items
host_item_next a (host_entries.Ask id route pdu) =
    with_calls a (record { id = id; sort = OverNet route pdu } ∷ [])
host_item_next a (host_entries.Answer id result) = with_end a id (outcome_of result)
host_item_next a (host_entries.Served id request reply) =
    with_answer a (answered_here id request (Some reply))

abbrev pub host_items_after : Items → List HostEntry → Items
host_items_after a [] = a
host_items_after a (e ∷ es) = host_items_after (host_item_next a e) es

-- The items of a host's list.
abbrev pub host_items_of : List HostEntry → Items
host_items_of entries = host_items_after no_items entries

-- What a controller with this history would say of its scans, its calls and its power.
abbrev pub controller_at : Fixed → List Entry → ControllerIs
controller_at fixed history = record { fixed = fixed; history = history; reserved = false }

abbrev pub has_ended_at : Fixed → List Entry → Bool
has_ended_at fixed history = has_ended (controller_at fixed history)

abbrev pub has_started_at : Fixed → List Entry → Bool
has_started_at fixed history = has_started (controller_at fixed history)

abbrev pub is_off_at : Fixed → List Entry → Bool
is_off_at fixed history = is_off (controller_at fixed history)

abbrev pub failures_at : Fixed → List Entry → ℕ
failures_at fixed history = (state_of (controller_at fixed history)).failures
