-- Ends of bridges in time with their nodes. This project's own.
use Rattle.std.specs.Prelude.{ℕ, List}
use Rattle.bridge_relay.specs.declared.entry.BridgeEntry.{BridgeEntry}
use Rattle.ring_core.specs.declared.entry.RingEntry.{RingEntry}
use Rattle.tied_lists.specs.Own.{own}
use Rattle.bridge_port.specs.CommPort.{made_at_end}
use Rattle.one_order.specs.Merges.{InTimeFrom}
use Rattle.end_times.specs.EndCauses.{EndNoted, EndDone, no_end_notes, no_end_deeds, end_note}
use Rattle.end_times.specs.EndCauses.{end_deed, AreEndCaused}

-- After these counts, some merge of a bridge's entries at an end and of those of the end's node
-- has each entry after its cause.
abbrev pub EndInTimeAfter : EndNoted → EndDone → List BridgeEntry → List RingEntry → Type 0
EndInTimeAfter s d noted done = InTimeFrom end_note end_deed AreEndCaused s d noted done

-- A bridge's list is in time, for one of its ends, with what the node of this end did.
abbrev pub EndInTime : ℕ → List BridgeEntry → List RingEntry → Type 0
EndInTime side list ring_own =
    EndInTimeAfter no_end_notes no_end_deeds (made_at_end side list) ring_own

-- A bridge's list is in time, for one of its ends, with what this end's node did on the whole ring.
abbrev pub IsEndInTime : ℕ → List BridgeEntry → List RingEntry → Type 0
IsEndInTime side list ring = EndInTime side list (own side ring)
