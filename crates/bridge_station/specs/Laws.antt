-- The laws of a bridge whose ends stand on their rings. This project's own.
use Rattle.std.specs.Prelude.{◌≡◌, ℕ, true, false, List, [], ◌++◌}
use Rattle.plant_types.specs.declared.net.NetPlan.{NetPlan}
use Rattle.plant_types.specs.Plans.{IsBridgePlan}
use Rattle.ring_core.specs.declared.entry.RingEntry.{RingEntry}
use Rattle.ring_core.specs.Kept.{KeptRing}
use Rattle.ring_core.specs.Legal.{IsLegalRing}
use Rattle.tied_lists.specs.Own.{own}
use Rattle.tied_lists.specs.Waits.{Holds, has_left, status_at}
use Rattle.end_laws.specs.JointHistory.{EndIsComplete, IsTiedBridge}
use Rattle.bridge_station.specs.Station.{BridgeStationIs, end_has_left, log_of_bridge}
use Rattle.bridge_station.specs.Stands.{HeldByEnd, MovedByEnd, StandsBridge, StandsEnd}

-- An end still stands where other nodes had their turns on its ring.
abbrev pub EndsStandBesideOthers : Type 0
EndsStandBesideOthers =
    (side : ℕ) (station : BridgeStationIs) (net : NetPlan) (ring more : List RingEntry)
    → own side more ≡ [] → IsLegalRing net (ring ++ more)
    → StandsEnd side station net ring → StandsEnd side station net (ring ++ more)

-- An end knows whether its node has left the ring.
abbrev pub EndsKnowWhetherTheyLeft : Type 0
EndsKnowWhetherTheyLeft =
    (side : ℕ) (station : BridgeStationIs) (net : NetPlan) (ring : List RingEntry)
    → StandsEnd side station net ring
    → end_has_left side station ≡ has_left (status_at net ring side)

-- An end that holds the token has not left.
abbrev pub HoldingEndsAreThere : Type 0
HoldingEndsAreThere =
    (side : ℕ) (station : BridgeStationIs) (net : NetPlan) (ring : List RingEntry)
    → StandsEnd side station net ring → Holds net ring side
    → end_has_left side station ≡ false

-- A bridge stands on both of its rings after a hold by one of its ends, as the other end stood.
pub record StandsBehindHolds (old new : BridgeStationIs) (ring new_ring : KeptRing)
    (net : NetPlan) (entries : List RingEntry) : Type 0 where
  pub left : HeldByEnd old.bridge.plan.left old new ring new_ring
      → MovedByEnd old.bridge.plan.left old new ring new_ring
      → StandsEnd old.bridge.plan.right old net entries
      → StandsBridge new new_ring.net new_ring.history net entries
  pub right : HeldByEnd old.bridge.plan.right old new ring new_ring
      → MovedByEnd old.bridge.plan.right old new ring new_ring
      → StandsEnd old.bridge.plan.left old net entries
      → StandsBridge new net entries new_ring.net new_ring.history

abbrev pub BridgesStandBehindHolds : Type 0
BridgesStandBehindHolds =
    (old new : BridgeStationIs) (ring new_ring : KeptRing) (net : NetPlan)
    (entries : List RingEntry) → IsBridgePlan old.bridge.plan
    → StandsBehindHolds old new ring new_ring net entries

-- A bridge is complete: each of its two ends is, on the ring of its network.
pub record IsCompleteBetween (station : BridgeStationIs) (left_net : NetPlan)
    (left_ring : List RingEntry) (right_net : NetPlan) (right_ring : List RingEntry)
    : Type 0 where
  pub left : EndIsComplete left_net left_ring station.bridge.history station.bridge.plan.left
  pub right : EndIsComplete right_net right_ring station.bridge.history station.bridge.plan.right

-- A bridge both of whose ends have left is complete.
abbrev pub LeftBridgesAreComplete : Type 0
LeftBridgesAreComplete =
    (station : BridgeStationIs) (left_net : NetPlan) (left_ring : List RingEntry)
    (right_net : NetPlan) (right_ring : List RingEntry) → IsBridgePlan station.bridge.plan
    → StandsBridge station left_net left_ring right_net right_ring
    → end_has_left station.bridge.plan.left station ≡ true
    → end_has_left station.bridge.plan.right station ≡ true
    → IsCompleteBetween station left_net left_ring right_net right_ring

-- A bridge whose ends stand on their rings is tied to the entries of all rings, where each of its
-- addresses has entries on its own ring alone.
abbrev pub StandingBridgesAreTied : Type 0
StandingBridgesAreTied =
    (station : BridgeStationIs) (left_net : NetPlan) (left_ring : List RingEntry)
    (right_net : NetPlan) (right_ring rings : List RingEntry)
    → StandsBridge station left_net left_ring right_net right_ring
    → own station.bridge.plan.left rings ≡ own station.bridge.plan.left left_ring
    → own station.bridge.plan.right rings ≡ own station.bridge.plan.right right_ring
    → IsTiedBridge rings (log_of_bridge station)
