-- The lines of a journal, one of each entry. This project's own.
use Rattle.std.specs.Prelude.{codes, ◌≢◌, Bool, true, false, ℕ, List, [], ◌∷◌, ◌++◌}
use Rattle.std.specs.Fmt.{decimal}
use Rattle.std.specs.List.{All, flat_map}
use Rattle.mstr_block.specs.declared.call.CallId.{CallId}
use Rattle.ring_core.specs.Words.{frame_route}
use Rattle.ring_core.specs.declared.frame.Frame.{Frame}
use Rattle.ring_core.specs.declared.frame.FrameKind.{FrameKind}
use Rattle.ring_core.specs.declared.frame.FrameKind.TheVariants.{Request, Reply}
use Rattle.ring_core.specs.declared.entry.Heard.{Heard}
use Rattle.ring_core.specs.declared.entry.Heard.TheVariants.{Acked, Silent, Busy}
use Rattle.ring_core.specs.declared.entry.LeaveCause.{LeaveCause}
use Rattle.ring_core.specs.declared.entry.LeaveCause.TheVariants.{Ended, Spent, Down}
use Rattle.ring_core.specs.declared.entry.RingEntry.{RingEntry}
use Rattle.ring_core.specs.declared.entry.RingEntry.TheVariants as ring
use Rattle.controller_core.specs.declared.call.Call.{Call}
use Rattle.controller_core.specs.declared.call.CallKind.{CallKind}
use Rattle.controller_core.specs.declared.call.CallKind.TheVariants.{Net, Local}
use Rattle.controller_core.specs.declared.entry.Entry.{Entry}
use Rattle.controller_core.specs.declared.entry.Entry.TheVariants as entries
use Rattle.host_port.specs.declared.entry.HostResult.{HostResult}
use Rattle.host_port.specs.declared.entry.HostResult.TheVariants as host_results
use Rattle.host_port.specs.declared.entry.HostEntry.{HostEntry}
use Rattle.host_port.specs.declared.entry.HostEntry.TheVariants as host_entries
use Rattle.bridge_relay.specs.declared.entry.RelayResult.{RelayResult}
use Rattle.bridge_relay.specs.declared.entry.RelayResult.TheVariants as relay_results
use Rattle.bridge_relay.specs.declared.entry.BridgeEntry.{BridgeEntry}
use Rattle.bridge_relay.specs.declared.entry.BridgeEntry.TheVariants as bridge_entries
use Rattle.journal_lines.specs.Fields.{hex_word, hex_bytes, hex_words, id_text, op_text}
use Rattle.journal_lines.specs.Fields.{call_result_text, route_text, route_or_dash}

-- A call that a controller hands on: by a route to another node, or to its own port.
abbrev pub kind_text : CallKind → List ℕ
kind_text (Net route pdu) = route_text route ++ codes ":" ++ hex_bytes pdu
kind_text (Local op) = op_text op

abbrev pub call_text : Call → List ℕ
call_text call = codes " " ++ id_text call.id ++ codes "=" ++ kind_text call.kind

-- A request that was served, with the reply.
abbrev pub peer_line : CallId → List ℕ → List ℕ → List ℕ
peer_line id request reply =
    codes "P " ++ id_text id ++ codes " " ++ hex_bytes request ++ codes " " ++ hex_bytes reply
    ++ codes "\n"

-- An event of a controller.
abbrev pub controller_line : Entry → List ℕ
controller_line entries.Begin = codes "B\n"
controller_line (entries.Input row) = codes "I " ++ decimal row ++ codes "\n"
controller_line (entries.Solve row) = codes "S " ++ decimal row ++ codes "\n"
controller_line (entries.Output row words) =
    codes "O " ++ decimal row ++ codes " " ++ hex_words words ++ codes "\n"
controller_line entries.End = codes "E\n"
controller_line entries.Fail = codes "X\n"
controller_line entries.Dark = codes "K\n"
controller_line (entries.Collect calls) = codes "L" ++ flat_map call_text calls ++ codes "\n"
controller_line (entries.Peer id request reply) = peer_line id request reply
controller_line (entries.Off id request) =
    codes "N " ++ id_text id ++ codes " " ++ hex_bytes request ++ codes "\n"
controller_line (entries.Finish id result) =
    codes "F " ++ id_text id ++ codes " " ++ call_result_text result ++ codes "\n"

-- What came of a host's request.
abbrev pub answer_text : HostResult → List ℕ
answer_text (host_results.Reply pdu) = codes "R " ++ hex_bytes pdu
answer_text (host_results.Bad word) = codes "B " ++ hex_word word

-- A request to another node: its name, its route and its bytes.
abbrev pub request_text : CallId → List ℕ → List ℕ → List ℕ
request_text id route pdu =
    codes "Q " ++ id_text id ++ codes " " ++ route_text route ++ codes " " ++ hex_bytes pdu

-- An event of a host.
abbrev pub host_line : HostEntry → List ℕ
host_line (host_entries.Ask id route pdu) = request_text id route pdu ++ codes "\n"
host_line (host_entries.Answer id result) =
    codes "A " ++ id_text id ++ codes " " ++ answer_text result ++ codes "\n"
host_line (host_entries.Served id request reply) = peer_line id request reply

-- What came of a request that a bridge sent on.
abbrev pub relay_text : RelayResult → List ℕ
relay_text (relay_results.Reply pdu) = codes "R " ++ hex_bytes pdu
relay_text (relay_results.Bad word) = codes "B " ++ hex_word word

-- An event of a bridge, with the end that makes it.
abbrev pub bridge_line : BridgeEntry → List ℕ
bridge_line (bridge_entries.Accept side id route request) =
    codes "T " ++ decimal side ++ codes " " ++ id_text id ++ codes " " ++ route_or_dash route
    ++ codes " " ++ hex_bytes request ++ codes "\n"
bridge_line (bridge_entries.Forward side old id route request) =
    codes "U " ++ decimal side ++ codes " " ++ id_text old ++ codes " " ++ id_text id ++ codes " "
    ++ route_text route ++ codes " " ++ hex_bytes request ++ codes "\n"
bridge_line (bridge_entries.Finish side id result) =
    codes "A " ++ decimal side ++ codes " " ++ id_text id ++ codes " " ++ relay_text result
    ++ codes "\n"
bridge_line (bridge_entries.Back side id reply) =
    codes "V " ++ decimal side ++ codes " " ++ id_text id ++ codes " " ++ hex_bytes reply
    ++ codes "\n"
bridge_line (bridge_entries.Gone side) = codes "G " ++ decimal side ++ codes "\n"

-- A frame by its letter, its name and its bytes.
abbrev pub named_text : List ℕ → Frame → List ℕ
named_text letter frame =
    letter ++ codes " " ++ id_text frame.id ++ codes " " ++ hex_bytes frame.pdu

-- A frame that is posted: the route of a Request is its target, and the addresses after that.
abbrev pub sent_text : FrameKind → Frame → List ℕ
sent_text Request frame = request_text frame.id (frame_route frame) frame.pdu
sent_text Reply frame = named_text (codes "R") frame

-- The addresses to which a frame is still to go.
abbrev pub onward_text : List ℕ → List ℕ
onward_text [] = []
onward_text (to ∷ rest) = codes " " ++ route_text (to ∷ rest)

-- A frame that is taken: the node that takes a Request is its target.
abbrev pub got_text : FrameKind → Frame → List ℕ
got_text Request frame = named_text (codes "Q") frame ++ onward_text frame.rest
got_text Reply frame = named_text (codes "R") frame

-- What a sender is told, why a node leaves, and whether it is done.
abbrev pub heard_text : Heard → List ℕ
heard_text Acked = codes "A"
heard_text Silent = codes "S"
heard_text Busy = codes "B"

abbrev pub cause_text : LeaveCause → List ℕ
cause_text Ended = codes "E"
cause_text Spent = codes "S"
cause_text (Down number) = codes "D" ++ decimal number

abbrev pub done_text : Bool → List ℕ
done_text true = codes "1"
done_text false = codes "0"

-- An entry of a ring.
abbrev pub ring_line : RingEntry → List ℕ
ring_line (ring.Post node frame) =
    codes "PO " ++ decimal node ++ codes " " ++ sent_text frame.kind frame ++ codes "\n"
ring_line (ring.Send node heard) =
    codes "SE " ++ decimal node ++ codes " " ++ heard_text heard ++ codes "\n"
ring_line (ring.Take node frame) =
    codes "TA " ++ decimal node ++ codes " " ++ got_text frame.kind frame ++ codes "\n"
ring_line (ring.Local node id op result) =
    codes "LO " ++ decimal node ++ codes " " ++ id_text id ++ codes " " ++ op_text op
    ++ codes " " ++ call_result_text result ++ codes "\n"
ring_line (ring.GiveUp id word) = codes "GU " ++ id_text id ++ codes " " ++ hex_word word ++ codes
    "\n"
ring_line (ring.Pass node done words) =
    codes "PA " ++ decimal node ++ codes " " ++ done_text done ++ codes " " ++ hex_words words
    ++ codes "\n"
ring_line (ring.Leave node cause) =
    codes "LE " ++ decimal node ++ codes " " ++ cause_text cause ++ codes "\n"
ring_line (ring.Join node) = codes "JN " ++ decimal node ++ codes "\n"

-- A line has no line feed but the one after it.
abbrev pub line_feed : ℕ
line_feed = 10

abbrev pub IsLine : List ℕ → Type 0
IsLine line = All (λ byte. byte ≢ line_feed) line

abbrev pub with_feed : List ℕ → List ℕ
with_feed line = line ++ line_feed ∷ []
