-- How often calls have ended, by their names. This project's own.
use Rattle.std.specs.Prelude.{◌≡◌, ℕ, ◌==◌, Bool, if◌then◌else◌, List, Option, Some, None}
use Rattle.std.specs.Prelude.{count_by, is_none}
use Rattle.mstr_block.specs.Call.{is_same_call}
use Rattle.mstr_block.specs.declared.call.CallId.{CallId}
use Rattle.controller_core.specs.declared.entry.Entry.{Entry}
use Rattle.controller_core.specs.declared.entry.Entry.TheVariants.{Finish}
use Rattle.host_port.specs.declared.entry.HostEntry.{HostEntry}
use Rattle.host_port.specs.declared.entry.HostEntry.TheVariants.{Answer}
use Rattle.bridge_relay.specs.declared.entry.BridgeEntry.{BridgeEntry}
use Rattle.bridge_relay.specs.declared.entry.BridgeEntry.TheVariants as bridge_entries
use Rattle.tied_lists.specs.Items.{Called, Ended}
use Rattle.station_laws.specs.Named.{value_of_call}
use Rattle.station_laws.specs.declared.by_call.ByCall.{ByCall}

-- The name of a call.
abbrev pub id_of_call : Called → CallId
id_of_call call = call.id

-- The name of a call that ended.
abbrev pub id_of_end : Ended → CallId
id_of_end end = end.id

-- The call that an entry of a controller ends.
abbrev pub end_id_in : Entry → Option CallId
end_id_in (Finish id result) = Some id
end_id_in _ = None

-- The call that an entry of a host ends.
abbrev pub host_end_id_in : HostEntry → Option CallId
host_end_id_in (Answer id result) = Some id
host_end_id_in _ = None

-- The call that an entry of a bridge ends for one of its ends.
abbrev pub side_end_id_in : ℕ → BridgeEntry → Option CallId
side_end_id_in side (bridge_entries.Finish near id result) =
    if near == side then Some id else None
side_end_id_in side _ = None

-- How often a call ends.
abbrev pub times_ended : List CallId → CallId → ℕ
times_ended ends call = count_by (λ (id : CallId). is_same_call id call) ends

-- A call ends once.
abbrev pub EndsOnce : List CallId → CallId → Type 0
EndsOnce ends call = times_ended ends call ≡ 1

-- Whether a call that has ended did so once.
abbrev pub once_of : ℕ → Option Bool
once_of count = if count == 0 then None else Some (count == 1)

-- A table says of each call that has ended whether it ended once, as in a list of ends.
abbrev pub CountsEnds : List CallId → ByCall Bool → Type 0
CountsEnds ends once = (q : CallId) → value_of_call once q ≡ once_of (times_ended ends q)

-- A table of ended calls goes on by one end more.
abbrev pub NotesEnd : ByCall Bool → CallId → ByCall Bool → Type 0
NotesEnd old id new = (q : CallId) → value_of_call new q
    ≡ (if is_same_call id q then Some (is_none (value_of_call old id)) else value_of_call old q)
