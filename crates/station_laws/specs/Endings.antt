-- Ends of calls, where calls and requests are found by their names. This project's own.
use Rattle.std.specs.Prelude.{◌≡◌, ◌==◌, ℕ, if◌then◌else◌, List, [], Option, Some, None}
use Rattle.std.specs.List.{cons_option}
use Rattle.std.specs.Option.{option_map}
use Rattle.mstr_block.specs.Call.{is_same_call}
use Rattle.mstr_block.specs.declared.call.CallId.{CallId}
use Rattle.ring_core.specs.declared.frame.FrameKind.{FrameKind}
use Rattle.ring_core.specs.declared.frame.FrameKind.TheVariants.{Request, Reply}
use Rattle.ring_core.specs.declared.frame.Frame.{Frame}
use Rattle.ring_core.specs.declared.entry.RingEntry.{RingEntry}
use Rattle.ring_core.specs.declared.entry.RingEntry.TheVariants.{Take, Local, GiveUp}
use Rattle.controller_core.specs.declared.entry.Entry.{Entry}
use Rattle.controller_core.specs.declared.entry.Entry.TheVariants as entries
use Rattle.host_port.specs.declared.entry.HostEntry.{HostEntry}
use Rattle.host_port.specs.declared.entry.HostEntry.TheVariants as host_entries
use Rattle.bridge_relay.specs.declared.entry.BridgeEntry.{BridgeEntry}
use Rattle.bridge_relay.specs.declared.entry.BridgeEntry.TheVariants as bridge_entries
use Rattle.tied_lists.specs.Items.{Asked, Called, Came, Ended, Kind, NetCall, Outcome, Station}
use Rattle.tied_lists.specs.Items.{ended_at_home, kind_in, outcome_of_reply}
use Rattle.tied_lists.specs.Items.{or_some, outcome_of_word}
use Rattle.joint_history.specs.Bridges.{relay_outcome}
use Rattle.joint_history.specs.Reading.{outcome_of}
use Rattle.station_laws.specs.declared.by_call.ByCall.{ByCall}
use Rattle.station_laws.specs.declared.ending.EndKind.{EndKind}
use Rattle.station_laws.specs.declared.ending.Sort.{Sort}
use Rattle.station_laws.specs.Kinds.{kind_as, station_of}
use Rattle.station_laws.specs.Named.{value_of_call}

-- The kind of a call that was noted.
abbrev pub kind_at : ByCall EndKind → CallId → Option Kind
kind_at kinds id = option_map kind_as (value_of_call kinds id)

-- The first of two.
abbrev pub or_kind : Option Kind → Option Kind → Option Kind
or_kind (Some kind) other = Some kind
or_kind None other = other

-- A call was noted, unless one of its name was before.
abbrev pub NotesKind : ByCall EndKind → CallId → Kind → ByCall EndKind → Type 0
NotesKind old id kind new = (q : CallId)
    → kind_at new q ≡ or_kind (kind_at old q) (if is_same_call id q then Some kind else None)

-- Calls were noted, one after another.
abbrev pub NotesCalls : ByCall EndKind → List Called → ByCall EndKind → Type 0
NotesCalls old calls new =
    (q : CallId) → kind_at new q ≡ or_kind (kind_at old q) (kind_in calls q)

-- A request was noted, in place of an earlier one of its name.
abbrev pub pdu_for : CallId → Option Asked → Option (List ℕ)
pdu_for id None = None
pdu_for id (Some a) = if is_same_call a.id id then Some a.pdu else None

-- A request was noted, if there is one.
abbrev pub NotesAsk : ByCall (List ℕ) → Option Asked → ByCall (List ℕ) → Type 0
NotesAsk old asked new =
    (q : CallId) → value_of_call new q ≡ or_some (pdu_for q asked) (value_of_call old q)

-- The end that an entry tells.
abbrev pub end_with : (CallId → Option Kind) → Entry → Option Ended
end_with kinds (entries.Finish id result) =
    Some (record { id = id; kind = kinds id; outcome = Came result })
end_with kinds _ = None

-- The end that an entry of a host tells.
abbrev pub host_end_with : (CallId → Option Kind) → HostEntry → Option Ended
host_end_with kinds (host_entries.Answer id result) =
    Some (record { id = id; kind = kinds id; outcome = outcome_of result })
host_end_with kinds _ = None

-- The end that an entry of a bridge tells for one of its ends.
abbrev pub side_end_with : ℕ → (CallId → Option Kind) → BridgeEntry → Option Ended
side_end_with side kinds (bridge_entries.Finish near id result) =
    if near == side then Some (record {
      id = id;
      kind = kinds id;
      outcome = relay_outcome result;
    }) else None
side_end_with side kinds _ = None

-- The end that a frame gives which was taken.
abbrev pub frame_end_with : Station → (CallId → Option (List ℕ))
    → FrameKind → Frame → Option Ended
frame_end_with station asked Request f = None
frame_end_with station asked Reply f = Some (record {
  id = f.id;
  kind = Some NetCall;
  outcome = outcome_of_reply station (asked f.id) f.pdu;
})

-- The end that an entry of the ring gives.
abbrev pub ring_end_with : Station → (CallId → Option (List ℕ)) → RingEntry → Option Ended
ring_end_with station asked (Take n f) = frame_end_with station asked f.kind f
ring_end_with station asked (Local n id op result) = ended_at_home n id op result
ring_end_with station asked (GiveUp id word) = Some (record {
  id = id;
  kind = Some NetCall;
  outcome = outcome_of_word station word;
})
ring_end_with station asked _ = None

-- The end that an entry tells, by the calls that were noted before it, if it tells one.
abbrev pub told_ends : ByCall EndKind → Entry → List Ended
told_ends kinds e = cons_option (end_with (kind_at kinds) e) []

-- The end that an entry of a host tells, by the calls that were noted before it.
abbrev pub host_told_ends : ByCall EndKind → HostEntry → List Ended
host_told_ends kinds e = cons_option (host_end_with (kind_at kinds) e) []

-- The end that an entry of a bridge tells for one of its ends, by the calls that were noted before.
abbrev pub side_told_ends : ℕ → ByCall EndKind → BridgeEntry → List Ended
side_told_ends side kinds e = cons_option (side_end_with side (kind_at kinds) e) []

-- The end that an entry of the ring gives, by the requests that were noted before it.
abbrev pub ring_ends : Sort → ByCall (List ℕ) → RingEntry → List Ended
ring_ends sort asked e = cons_option (ring_end_with (station_of sort) (value_of_call asked) e) []

-- The end that a frame gives which was taken, by the requests that were noted.
abbrev pub frame_end : Sort → ByCall (List ℕ) → Frame → Option Ended
frame_end sort asked f = frame_end_with (station_of sort) (value_of_call asked) f.kind f

-- What a reply comes to, by the request of its name that was noted.
abbrev pub reply_outcome : Sort → ByCall (List ℕ) → CallId → List ℕ → Outcome
reply_outcome sort asked id reply =
    outcome_of_reply (station_of sort) (value_of_call asked id) reply
