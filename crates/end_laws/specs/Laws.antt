-- The laws of the turns of a bridge's end, whoever else writes between their entries. This
-- project's own.
use Rattle.std.specs.Prelude.{◌≡◌, ℕ, Bool, true, false, List, [], ◌++◌, filter}
use Rattle.plant_types.specs.declared.net.BridgePlan.{BridgePlan}
use Rattle.plant_types.specs.declared.net.NetPlan.{NetPlan}
use Rattle.plant_types.specs.Plans.{IsBridgePlan}
use Rattle.bridge_relay.specs.declared.entry.BridgeEntry.{BridgeEntry}
use Rattle.bridge_relay.specs.Laws.{is_by}
use Rattle.bridge_relay.specs.Legal.{IsBridgeHistory, IsEnd, IsOpenEnd}
use Rattle.ring_core.specs.declared.entry.RingEntry.{RingEntry}
use Rattle.tied_lists.specs.Own.{own}
use Rattle.tied_lists.specs.Waits.{IsOnRing}
use Rattle.turn_laws.specs.CommPort.{own_side}
use Rattle.end_times.specs.BridgePort.{own_bridge, EndTies, HoldsEndTurn}
use Rattle.joint_history.specs.Bridges.{made_at_end}
use Rattle.joint_history.specs.Complete.{EndIsComplete}
use Rattle.turn_laws.specs.KeepsOn.{NoneSpent}
use Rattle.end_laws.specs.EndKeeps.{EndKeepsOn}

-- An end of which nothing stands in either list has all that turns keep.
abbrev pub EndsStartKeep : Type 0
EndsStartKeep = (plan : BridgePlan) (net : NetPlan) (side : ℕ) (list : List BridgeEntry)
    (ring : List RingEntry) → made_at_end side list ≡ [] → own side ring ≡ []
    → EndKeepsOn plan net side list ring false

-- A hold of the token by a bridge's end keeps all that its turns keep.
abbrev pub EndTurnsKeepOn : Type 0
EndTurnsKeepOn =
    (alone_bridge alone_ring : Bool) (plan : BridgePlan) (net : NetPlan) (side : ℕ)
    (budget left : Bool) (list new_list : List BridgeEntry) (ring new_ring : List RingEntry)
    → IsBridgePlan plan → IsOpenEnd plan list side
    → HoldsEndTurn alone_bridge alone_ring plan net side budget list new_list ring new_ring left
    → EndTies side (own_bridge plan) list (own_side net) ring
    → EndTies side (own_bridge plan) new_list (own_side net) new_ring
    → EndKeepsOn plan net side list ring false
    → EndKeepsOn plan net side new_list new_ring left

-- In a hold of the token by an end without a budget its node does not leave because its Passes are
-- spent.
abbrev pub EndTurnsSpendNothing : Type 0
EndTurnsSpendNothing =
    (alone_bridge alone_ring : Bool) (plan : BridgePlan) (net : NetPlan) (side : ℕ) (left : Bool)
    (list new_list : List BridgeEntry) (ring new_ring : List RingEntry) → IsOnRing net ring side
    → HoldsEndTurn alone_bridge alone_ring plan net side false list new_list ring new_ring left
    → NoneSpent (own side ring) → NoneSpent (own side new_ring)

-- Entries of other nodes keep all that an end's turns keep.
abbrev pub EndOthersKeepOn : Type 0
EndOthersKeepOn =
    (plan : BridgePlan) (net : NetPlan) (side : ℕ) (list : List BridgeEntry)
    (ring more : List RingEntry) (left : Bool) → own side more ≡ []
    → EndKeepsOn plan net side list ring left
    → EndKeepsOn plan net side list (ring ++ more) left

-- Entries of the other end of the bridge keep all that an end's turns keep.
abbrev pub EndsAcrossKeepOn : Type 0
EndsAcrossKeepOn =
    (plan : BridgePlan) (net : NetPlan) (side : ℕ) (list more : List BridgeEntry)
    (ring : List RingEntry) (left : Bool) → IsBridgePlan plan → IsEnd plan side
    → IsBridgeHistory plan (list ++ more) → filter (is_by side) more ≡ []
    → EndKeepsOn plan net side list ring left
    → EndKeepsOn plan net side (list ++ more) ring left

-- An end that has left is complete.
abbrev pub EndsComplete : Type 0
EndsComplete =
    (plan : BridgePlan) (net : NetPlan) (side : ℕ) (list : List BridgeEntry)
    (ring : List RingEntry) → IsBridgePlan plan
    → EndTies side (own_bridge plan) list (own_side net) ring
    → EndKeepsOn plan net side list ring true → EndIsComplete net ring list side
