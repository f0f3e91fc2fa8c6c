-- What each entry of a station's list adds to what the laws read of it. This project's own.
use Rattle.std.specs.Prelude.{ℕ, ◌==◌, if◌then◌else◌, List, [], map, Option, Some, None, ◌∷◌}
use Rattle.std.specs.List.{cons_option}
use Rattle.controller_core.specs.declared.entry.Entry.{Entry}
use Rattle.controller_core.specs.declared.entry.Entry.TheVariants as entries
use Rattle.host_port.specs.declared.entry.HostEntry.{HostEntry}
use Rattle.host_port.specs.declared.entry.HostEntry.TheVariants as host_entries
use Rattle.bridge_relay.specs.declared.entry.BridgeEntry.{BridgeEntry}
use Rattle.bridge_relay.specs.declared.entry.BridgeEntry.TheVariants as bridge_entries
use Rattle.tied_lists.specs.Items.{Answered, Called, Item, OverNet, replies_in}
use Rattle.joint_history.specs.Reading.{answered_here, called_of}

-- The calls that an entry of a controller adds.
abbrev pub calls_in : Entry → List Called
calls_in (entries.Collect calls) = map called_of calls
calls_in _ = []

-- The call that an entry of a host adds.
abbrev pub host_call_in : HostEntry → Option Called
host_call_in (host_entries.Ask id route pdu) =
    Some (record { id = id; sort = OverNet route pdu })
host_call_in _ = None

-- The answer that an entry of a controller adds.
abbrev pub answer_in : Entry → Option Answered
answer_in (entries.Peer id request reply) =
    Some (answered_here id request (Some reply))
answer_in (entries.Off id request) = Some (answered_here id request None)
answer_in _ = None

-- The answer that an entry of a host adds.
abbrev pub host_answer_in : HostEntry → Option Answered
host_answer_in (host_entries.Served id request reply) =
    Some (answered_here id request (Some reply))
host_answer_in _ = None

-- The call that an entry of a bridge adds for one of its ends.
abbrev pub side_call_in : ℕ → BridgeEntry → Option Called
side_call_in side (bridge_entries.Forward near old id route request) =
    if near == side then Some (record { id = id; sort = OverNet route request }) else None
side_call_in side _ = None

-- The answer that an entry of a bridge adds for one of its ends.
abbrev pub side_answer_in : ℕ → BridgeEntry → Option Answered
side_answer_in side (bridge_entries.Accept near id route request) =
    if near == side then Some (record {
      id = id;
      rest = route;
      request = Some request;
      reply = None;
    }) else None
side_answer_in side _ = None

-- The reply that an entry of a bridge gives back for one of its ends.
abbrev pub side_back_in : ℕ → BridgeEntry → Option Item
side_back_in side (bridge_entries.Back near id reply) =
    if near == side then Some (id, Some reply) else None
side_back_in side _ = None

-- The call that an entry makes for an end of a bridge, or for a host, as a list of one or of none.
abbrev pub side_calls_in : ℕ → BridgeEntry → List Called
side_calls_in side e = cons_option (side_call_in side e) []

abbrev pub host_calls_in : HostEntry → List Called
host_calls_in e = cons_option (host_call_in e) []

-- The reply of an answer, if there is one.
abbrev pub replies_if : Option Answered → List (Option (List ℕ))
replies_if answer = replies_in (cons_option answer [])

-- A route by its first address and those after it, or none.
abbrev pub route_by : Option (ℕ × List ℕ) → List ℕ
route_by None = []
route_by (Some parts) = parts.0 ∷ parts.1
