-- How the ends of a bridge stand on their rings between turns, and what a turn makes of them. This
-- project's own.
use Rattle.std.specs.Prelude.{◌≡◌, ◌≢◌, ℕ, Bool, true, false, List, []}
use Rattle.plant_types.specs.declared.net.BridgePlan.{BridgePlan}
use Rattle.plant_types.specs.declared.net.NetPlan.{NetPlan}
use Rattle.ring_core.specs.declared.entry.RingEntry.{RingEntry}
use Rattle.ring_core.specs.Kept.{KeptRing}
use Rattle.bridge_relay.specs.Bridge.{BridgeIs}
use Rattle.bridge_relay.specs.Laws.{is_by}
use Rattle.bridge_relay.specs.Legal.{IsBridgeHistory}
use Rattle.end_laws.specs.BridgePort.{EndIsReady, HasGrown, HoldsEndTurn, RingStands}
use Rattle.end_laws.specs.EndKeeps.{EndKeepsOn}
use Rattle.bridge_station.specs.Station.{BridgeStationIs, EndStationIs, end_station}

-- ---- One end.

-- An end of a bridge with its worker stands on a ring of its network: it is tied to its node's
-- entries there, and has all that turns keep.
pub record EndStands (side : ℕ) (end : EndStationIs) (bridge : BridgeIs) (net : NetPlan)
    (ring : List RingEntry) : Type 0 where
  pub ready : EndIsReady side end.worker end.left bridge net ring
  pub keeps : EndKeepsOn bridge.plan net side bridge.history ring end.left

-- What a hold of the token by an end leaves as it was and makes longer, whatever it answers: both
-- lists went on by own entries alone, and are legal.
pub record EndMoved (side : ℕ) (end new_end : EndStationIs) (bridge new_bridge : BridgeIs)
    (ring new_ring : KeptRing) : Type 0 where
  pub worker : new_end.worker ≡ end.worker
  pub plan : new_bridge.plan ≡ bridge.plan
  pub net : new_ring.net ≡ ring.net
  pub grown : HasGrown true (is_by side) bridge.history new_bridge.history
  pub legal : IsBridgeHistory bridge.plan new_bridge.history
  pub on_ring : RingStands true ring.net side ring.history new_ring.history

-- How a hold went: the end stands again, and it made its turn.
pub record EndHeld (side : ℕ) (end new_end : EndStationIs) (bridge new_bridge : BridgeIs)
    (ring new_ring : KeptRing) : Type 0 where
  pub stands : EndStands side new_end new_bridge new_ring.net new_ring.history
  pub turn : HoldsEndTurn true true bridge.plan ring.net side end.worker.budget
      bridge.history new_bridge.history ring.history new_ring.history new_end.left

-- ---- Both.

-- The end with an address stands on a ring.
abbrev pub StandsEnd : ℕ → BridgeStationIs → NetPlan → List RingEntry → Type 0
StandsEnd side station net ring =
    EndStands side (end_station side station) station.bridge net ring

-- A bridge stands on two rings: each of its ends stands on its own.
pub record StandsBridge (station : BridgeStationIs) (left_net : NetPlan)
    (left_ring : List RingEntry) (right_net : NetPlan) (right_ring : List RingEntry)
    : Type 0 where
  pub left : StandsEnd station.bridge.plan.left station left_net left_ring
  pub right : StandsEnd station.bridge.plan.right station right_net right_ring

-- A bridge at the start of a run, before anything was made.
pub record StartsBridge (plan : BridgePlan) (left_net right_net : NetPlan) (budget : Bool)
    (station : BridgeStationIs) : Type 0 where
  pub bridge : station.bridge ≡ record { plan = plan; history = [] }
  pub left : station.left
      ≡ record { worker = record { side = plan.left; budget = budget }; left = false }
  pub right : station.right
      ≡ record { worker = record { side = plan.right; budget = budget }; left = false }
  pub stands : StandsBridge station left_net [] right_net []

-- How a hold by the end with an address went, where memory did not run out.
abbrev pub HeldByEnd : ℕ → BridgeStationIs → BridgeStationIs → KeptRing → KeptRing → Type 0
HeldByEnd side old new ring new_ring = EndHeld side (end_station side old) (end_station side new)
    old.bridge new.bridge ring new_ring

-- What it leaves, whatever it answers: each end has its worker as before, and another end stands
-- still, on whatever ring it stood.
pub record MovedByEnd (side : ℕ) (old new : BridgeStationIs) (ring new_ring : KeptRing)
    : Type 0 where
  pub moved : EndMoved side (end_station side old) (end_station side new)
      old.bridge new.bridge ring new_ring
  pub workers : (any : ℕ) → (end_station any new).worker ≡ (end_station any old).worker
  pub others : (other : ℕ) (net : NetPlan) (entries : List RingEntry) → other ≢ side
      → StandsEnd other old net entries → StandsEnd other new net entries
