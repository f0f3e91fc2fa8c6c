-- What the lines of a journal are read as. This project's own.
use Rattle.std.specs.Prelude.{ℕ, Bool, true, false, if◌then◌else◌, codes, List, [], ◌∷◌}
use Rattle.std.specs.Prelude.{slice_index, Option, Some, None}
use Rattle.std.specs.Str.{bytes_eq}
use Rattle.plant_types.specs.Numerals.{is_digit}
use Rattle.mstr_block.specs.declared.call.CallId.{CallId}
use Rattle.mstr_block.specs.declared.call.MstrResult.{MstrResult}
use Rattle.mstr_block.specs.declared.call.MstrResult.TheVariants.{Good, Bad}
use Rattle.ring_core.specs.declared.frame.FrameKind.{FrameKind}
use Rattle.ring_core.specs.declared.frame.FrameKind.TheVariants.{Request, Reply}
use Rattle.ring_core.specs.declared.frame.Frame.{Frame}
use Rattle.ring_core.specs.declared.entry.LocalOp.{LocalOp}
use Rattle.ring_core.specs.declared.entry.LocalOp.TheVariants as ops
use Rattle.ring_core.specs.declared.entry.Heard.{Heard}
use Rattle.ring_core.specs.declared.entry.Heard.TheVariants.{Acked, Silent, Busy}
use Rattle.ring_core.specs.declared.entry.LeaveCause.{LeaveCause}
use Rattle.ring_core.specs.declared.entry.LeaveCause.TheVariants.{Ended, Spent, Down}
use Rattle.ring_core.specs.declared.entry.RingEntry.{RingEntry}
use Rattle.ring_core.specs.declared.entry.RingEntry.TheVariants as ring
use Rattle.controller_core.specs.declared.call.Call.{Call}
use Rattle.controller_core.specs.declared.call.CallKind.{CallKind}
use Rattle.controller_core.specs.declared.call.CallKind.TheVariants.{Net, Local}
use Rattle.controller_core.specs.declared.entry.Entry.{Entry}
use Rattle.controller_core.specs.declared.entry.Entry.TheVariants as entries
use Rattle.host_port.specs.declared.entry.HostResult.{HostResult}
use Rattle.host_port.specs.declared.entry.HostResult.TheVariants as host_results
use Rattle.host_port.specs.declared.entry.HostEntry.{HostEntry}
use Rattle.host_port.specs.declared.entry.HostEntry.TheVariants as host_entries
use Rattle.bridge_relay.specs.declared.entry.RelayResult.{RelayResult}
use Rattle.bridge_relay.specs.declared.entry.RelayResult.TheVariants as relay_results
use Rattle.bridge_relay.specs.declared.entry.BridgeEntry.{BridgeEntry}
use Rattle.bridge_relay.specs.declared.entry.BridgeEntry.TheVariants as bridge_entries
use Rattle.journal_reading.specs.Reading.{◌>>=◌, Form, cut, read_or, read_first, read_as, read_pair}
use Rattle.journal_reading.specs.Reading.{read_parts, read_route, read_way, read_small, read_word}
use Rattle.journal_reading.specs.Reading.{read_id, read_pdu, read_hex_words, read_hex_word}
use Rattle.journal_reading.specs.Reading.{read_block, read_long, read_route_or_dash}

-- What is asked of a port: for the own station, and for another one too.
abbrev pub read_put_global : List ℕ → Option LocalOp
read_put_global text = read_as (λ words. ops.PutGlobal words) read_hex_words text

abbrev pub read_get_global : List ℕ → Option LocalOp
read_get_global text =
    read_as (λ parts. ops.GetGlobal parts.0 parts.1) (read_pair read_small read_word 58) text

abbrev pub own_op_forms : List (Form LocalOp)
own_op_forms = (codes "PG:", read_put_global) ∷ (codes "GG:", read_get_global) ∷ []

abbrev pub read_bare_op : List ℕ → Option LocalOp
read_bare_op text =
    if bytes_eq text (codes "GS") then Some ops.GetStats
    else if bytes_eq text (codes "CS") then Some ops.ClearStats
    else None

unfoldable pub read_own_op : List ℕ → Option LocalOp
read_own_op text = read_first own_op_forms (read_bare_op text) text

unfoldable pub read_op : List ℕ → Option LocalOp
read_op text =
    if bytes_eq text (codes "RG") then Some ops.RemoteGet
    else if bytes_eq text (codes "RC") then Some ops.RemoteClear
    else read_own_op text

-- What a call came to.
abbrev pub result_forms : List (Form MstrResult)
result_forms =
    (codes "G ", read_as (λ words. Good words) read_block)
    ∷ (codes "B ", read_as (λ word. Bad word) read_hex_word)
    ∷ []

unfoldable pub read_result : List ℕ → Option MstrResult
read_result text = read_first result_forms None text

-- A call that a controller hands on: to another node where it begins with a digit.
abbrev pub read_net_kind : List ℕ → Option CallKind
read_net_kind text = read_as (λ parts. Net parts.0 parts.1) (read_pair read_route read_pdu 58) text

abbrev pub read_local_kind : List ℕ → Option CallKind
read_local_kind text = read_as (λ op. Local op) read_own_op text

unfoldable pub read_kind : List ℕ → Option CallKind
read_kind text = if is_digit (slice_index text 0) then read_net_kind text else read_local_kind text

abbrev pub call_from : CallId × CallKind → Call
call_from parts = record { id = parts.0; kind = parts.1 }

unfoldable pub read_call : List ℕ → Option Call
read_call text = read_as call_from (read_pair read_id read_kind 61) text

-- Calls, separated by one space.
unfoldable pub read_calls : List ℕ → Option (List Call)
read_calls text = read_parts read_call 32 text

-- A request that was served with its reply, one with its route, one that is posted, and a request
-- or a reply alone: each after its name.
unfoldable pub read_served : List ℕ → Option (CallId × (List ℕ × List ℕ))
read_served text = read_pair read_id (read_pair read_pdu read_pdu 32) 32 text

unfoldable pub read_asked : List ℕ → Option (CallId × (List ℕ × List ℕ))
read_asked text = read_pair read_id (read_pair read_route read_pdu 32) 32 text

unfoldable pub read_posted : List ℕ → Option (CallId × ((ℕ × List ℕ) × List ℕ))
read_posted text = read_pair read_id (read_pair read_way read_pdu 32) 32 text

unfoldable pub read_named : List ℕ → Option (CallId × List ℕ)
read_named text = read_pair read_id read_pdu 32 text

-- The lines of a controller.
abbrev pub read_output : List ℕ → Option Entry
read_output text =
    read_as (λ parts. entries.Output parts.0 parts.1) (read_pair read_word read_block 32) text

abbrev pub read_peer : List ℕ → Option Entry
read_peer text = read_as (λ parts. entries.Peer parts.0 parts.1.0 parts.1.1) read_served text

abbrev pub read_off : List ℕ → Option Entry
read_off text = read_as (λ parts. entries.Off parts.0 parts.1) read_named text

abbrev pub read_finish : List ℕ → Option Entry
read_finish text =
    read_as (λ parts. entries.Finish parts.0 parts.1) (read_pair read_id read_result 32) text

abbrev pub entry_forms : List (Form Entry)
entry_forms =
    (codes "I ", read_as (λ row. entries.Input row) read_word)
    ∷ (codes "S ", read_as (λ row. entries.Solve row) read_word)
    ∷ (codes "O ", read_output)
    ∷ (codes "L ", read_as (λ calls. entries.Collect calls) read_calls)
    ∷ (codes "P ", read_peer)
    ∷ (codes "N ", read_off)
    ∷ (codes "F ", read_finish)
    ∷ []

abbrev pub read_bare_entry : List ℕ → Option Entry
read_bare_entry line =
    if bytes_eq line (codes "B") then Some entries.Begin
    else if bytes_eq line (codes "E") then Some entries.End
    else if bytes_eq line (codes "X") then Some entries.Fail
    else if bytes_eq line (codes "K") then Some entries.Dark
    else None

unfoldable pub read_entry : List ℕ → Option Entry
read_entry line = read_first entry_forms (read_bare_entry line) line

-- The lines of a host.
abbrev pub outcome_forms : List (Form HostResult)
outcome_forms =
    (codes "R ", read_as (λ pdu. host_results.Reply pdu) read_pdu)
    ∷ (codes "B ", read_as (λ word. host_results.Bad word) read_hex_word)
    ∷ []

unfoldable pub read_outcome : List ℕ → Option HostResult
read_outcome text = read_first outcome_forms None text

abbrev pub read_ask : List ℕ → Option HostEntry
read_ask text = read_as (λ parts. host_entries.Ask parts.0 parts.1.0 parts.1.1) read_asked text

abbrev pub read_answer : List ℕ → Option HostEntry
read_answer text =
    read_as (λ parts. host_entries.Answer parts.0 parts.1) (read_pair read_id read_outcome 32) text

abbrev pub read_host_served : List ℕ → Option HostEntry
read_host_served text =
    read_as (λ parts. host_entries.Served parts.0 parts.1.0 parts.1.1) read_served text

abbrev pub host_forms : List (Form HostEntry)
host_forms =
    (codes "Q ", read_ask) ∷ (codes "A ", read_answer) ∷ (codes "P ", read_host_served) ∷ []

unfoldable pub read_host_entry : List ℕ → Option HostEntry
read_host_entry line = read_first host_forms None line

-- The lines of a bridge.
abbrev pub relay_forms : List (Form RelayResult)
relay_forms =
    (codes "R ", read_as (λ pdu. relay_results.Reply pdu) read_pdu)
    ∷ (codes "B ", read_as (λ word. relay_results.Bad word) read_hex_word)
    ∷ []

unfoldable pub read_relay : List ℕ → Option RelayResult
read_relay text = read_first relay_forms None text

-- A request that a bridge takes: its name, what is left of its route, and its bytes.
unfoldable pub read_coming : List ℕ → Option (CallId × (List ℕ × List ℕ))
read_coming text = read_pair read_id (read_pair read_route_or_dash read_pdu 32) 32 text

abbrev pub read_accept : List ℕ → Option BridgeEntry
read_accept text =
    read_as (λ parts. bridge_entries.Accept parts.0 parts.1.0 parts.1.1.0 parts.1.1.1)
    (read_pair read_small read_coming 32) text

abbrev pub read_forward : List ℕ → Option BridgeEntry
read_forward text =
    read_as (λ parts.
    bridge_entries.Forward parts.0 parts.1.0 parts.1.1.0 parts.1.1.1.0 parts.1.1.1.1)
    (read_pair read_small (read_pair read_id read_asked 32) 32) text

abbrev pub read_relayed : List ℕ → Option BridgeEntry
read_relayed text =
    read_as (λ parts. bridge_entries.Finish parts.0 parts.1.0 parts.1.1)
    (read_pair read_small (read_pair read_id read_relay 32) 32) text

abbrev pub read_back : List ℕ → Option BridgeEntry
read_back text =
    read_as (λ parts. bridge_entries.Back parts.0 parts.1.0 parts.1.1)
    (read_pair read_small read_named 32) text

abbrev pub bridge_forms : List (Form BridgeEntry)
bridge_forms =
    (codes "T ", read_accept)
    ∷ (codes "U ", read_forward)
    ∷ (codes "A ", read_relayed)
    ∷ (codes "V ", read_back)
    ∷ (codes "G ", read_as (λ side. bridge_entries.Gone side) read_small)
    ∷ []

unfoldable pub read_bridge_entry : List ℕ → Option BridgeEntry
read_bridge_entry line = read_first bridge_forms None line

-- The frames that are posted and taken: a Reply goes to the node that asked, and a Request is taken
-- by its target.
abbrev pub sent_request : CallId × ((ℕ × List ℕ) × List ℕ) → Frame
sent_request parts = record {
  kind = Request;
  to = parts.1.0.0;
  rest = parts.1.0.1;
  id = parts.0;
  pdu = parts.1.1;
}

abbrev pub sent_reply : CallId × List ℕ → Frame
sent_reply parts =
    record { kind = Reply; to = parts.0.node; rest = []; id = parts.0; pdu = parts.1 }

abbrev pub sent_forms : List (Form Frame)
sent_forms =
    (codes "Q ", read_as sent_request read_posted)
    ∷ (codes "R ", read_as sent_reply read_named)
    ∷ []

unfoldable pub read_sent : List ℕ → Option Frame
read_sent text = read_first sent_forms None text

-- The bytes of a Request that is taken, and the route on which it is still to go, if that stands
-- after them.
abbrev pub read_going : List ℕ × List ℕ → Option (List ℕ × List ℕ)
read_going parts = do
  pdu ← read_pdu parts.0
  rest ← read_route parts.1
  Some (pdu, rest)

unfoldable pub read_onward : List ℕ → Option (List ℕ × List ℕ)
read_onward text = read_or (cut 32 text) read_going (read_as (λ pdu. (pdu, [])) read_pdu text)

-- A frame that is taken, but for its target.
abbrev pub Got : Type 0
Got = FrameKind × (CallId × (List ℕ × List ℕ))

abbrev pub got_request : CallId × (List ℕ × List ℕ) → Got
got_request parts = (Request, parts)

abbrev pub got_reply : CallId × List ℕ → Got
got_reply named = (Reply, (named.0, (named.1, [])))

abbrev pub got_forms : List (Form Got)
got_forms =
    (codes "Q ", read_as got_request (read_pair read_id read_onward 32))
    ∷ (codes "R ", read_as got_reply read_named)
    ∷ []

unfoldable pub read_got : List ℕ → Option Got
read_got text = read_first got_forms None text

abbrev pub target_of : FrameKind → ℕ → CallId → ℕ
target_of Request node id = node
target_of Reply node id = id.node

abbrev pub taken : ℕ → Got → RingEntry
taken node got = ring.Take node (record {
  kind = got.0;
  to = target_of got.0 node got.1.0;
  rest = got.1.1.1;
  id = got.1.0;
  pdu = got.1.1.0;
})

-- What a sender was told, why a node leaves, and whether it is done.
unfoldable pub read_heard : List ℕ → Option Heard
read_heard text =
    if bytes_eq text (codes "A") then Some Acked
    else if bytes_eq text (codes "S") then Some Silent
    else if bytes_eq text (codes "B") then Some Busy
    else None

abbrev pub read_bare_cause : List ℕ → Option LeaveCause
read_bare_cause text =
    if bytes_eq text (codes "E") then Some Ended
    else if bytes_eq text (codes "S") then Some Spent
    else None

abbrev pub cause_forms : List (Form LeaveCause)
cause_forms = (codes "D", read_as (λ number. Down number) read_long) ∷ []

unfoldable pub read_cause : List ℕ → Option LeaveCause
read_cause text = read_first cause_forms (read_bare_cause text) text

unfoldable pub read_done : List ℕ → Option Bool
read_done text =
    if bytes_eq text (codes "1") then Some true
    else if bytes_eq text (codes "0") then Some false
    else None

-- The lines of a ring.
abbrev pub read_post : List ℕ → Option RingEntry
read_post text =
    read_as (λ parts. ring.Post parts.0 parts.1) (read_pair read_small read_sent 32) text

abbrev pub read_send : List ℕ → Option RingEntry
read_send text =
    read_as (λ parts. ring.Send parts.0 parts.1) (read_pair read_small read_heard 32) text

abbrev pub read_take : List ℕ → Option RingEntry
read_take text = read_as (λ parts. taken parts.0 parts.1) (read_pair read_small read_got 32) text

abbrev pub read_local : List ℕ → Option RingEntry
read_local text =
    read_as (λ parts. ring.Local parts.0 parts.1.0 parts.1.1.0 parts.1.1.1)
    (read_pair read_small (read_pair read_id (read_pair read_op read_result 32) 32) 32) text

abbrev pub read_give_up : List ℕ → Option RingEntry
read_give_up text =
    read_as (λ parts. ring.GiveUp parts.0 parts.1) (read_pair read_id read_hex_word 32) text

abbrev pub read_pass : List ℕ → Option RingEntry
read_pass text =
    read_as (λ parts. ring.Pass parts.0 parts.1.0 parts.1.1)
    (read_pair read_small (read_pair read_done read_hex_words 32) 32) text

abbrev pub read_leave : List ℕ → Option RingEntry
read_leave text =
    read_as (λ parts. ring.Leave parts.0 parts.1) (read_pair read_small read_cause 32) text

abbrev pub ring_forms : List (Form RingEntry)
ring_forms =
    (codes "PO ", read_post)
    ∷ (codes "SE ", read_send)
    ∷ (codes "TA ", read_take)
    ∷ (codes "LO ", read_local)
    ∷ (codes "GU ", read_give_up)
    ∷ (codes "PA ", read_pass)
    ∷ (codes "LE ", read_leave)
    ∷ (codes "JN ", read_as (λ node. ring.Join node) read_small)
    ∷ []

unfoldable pub read_ring_entry : List ℕ → Option RingEntry
read_ring_entry line = read_first ring_forms None line
