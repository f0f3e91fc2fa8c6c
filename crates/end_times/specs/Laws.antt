-- Laws of ends of bridges in time, whoever else writes between their entries. This project's own.
use Rattle.std.specs.Prelude.{◌≡◌, ℕ, Bool, List, [], ◌++◌, filter}
use Rattle.plant_types.specs.declared.net.BridgePlan.{BridgePlan}
use Rattle.plant_types.specs.declared.net.NetPlan.{NetPlan}
use Rattle.bridge_relay.specs.declared.entry.BridgeEntry.{BridgeEntry}
use Rattle.bridge_relay.specs.Laws.{is_by}
use Rattle.ring_core.specs.declared.entry.RingEntry.{RingEntry}
use Rattle.tied_lists.specs.Own.{own}
use Rattle.bridge_port.specs.EndParts.{HoldsEndTurn}
use Rattle.bridge_port.specs.CommPort.{made_at_end}
use Rattle.end_times.specs.EndTimes.{IsEndInTime}

-- A hold of the token by an end keeps it in time with its node.
abbrev pub EndTurnsStayInTime : Type 0
EndTurnsStayInTime =
    (alone_bridge alone_ring : Bool) (plan : BridgePlan) (net : NetPlan) (side : ℕ)
    (budget left : Bool) (list new_list : List BridgeEntry) (ring new_ring : List RingEntry)
    → HoldsEndTurn alone_bridge alone_ring plan net side budget list new_list ring new_ring left
    → IsEndInTime side list ring → IsEndInTime side new_list new_ring

-- Entries of the other end, and of other nodes, keep an end in time.
abbrev pub EndOthersStayInTime : Type 0
EndOthersStayInTime =
    (side : ℕ) (list more : List BridgeEntry) (ring others : List RingEntry)
    → filter (is_by side) more ≡ [] → own side others ≡ []
    → IsEndInTime side list ring → IsEndInTime side (list ++ more) (ring ++ others)

-- An end of which nothing stands in either list is in time.
abbrev pub EndsStartInTime : Type 0
EndsStartInTime =
    (side : ℕ) (list : List BridgeEntry) (ring : List RingEntry)
    → made_at_end side list ≡ [] → own side ring ≡ [] → IsEndInTime side list ring
