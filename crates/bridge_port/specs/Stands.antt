-- An end of a bridge with its worker, at a bridge and a ring that they reach by themselves. This
-- project's own.
use Rattle.std.specs.Prelude.{◌≡◌, ℕ, Bool, false, List, None}
use Rattle.plant_types.specs.declared.net.BridgePlan.{BridgePlan}
use Rattle.plant_types.specs.declared.net.NetPlan.{NetPlan}
use Rattle.bridge_relay.specs.Bridge.{BridgeIs}
use Rattle.bridge_relay.specs.Legal.{IsOpenEnd}
use Rattle.ring_core.specs.declared.entry.RingEntry.{RingEntry}
use Rattle.comm_port.specs.HostStands.{own_side}
use Rattle.comm_port.specs.Leaving.{IsHere}
use Rattle.bridge_port.specs.EndTurns.{BridgeWorkerIs, EndTies}
use Rattle.bridge_port.specs.Sides.{BridgeSideIs}

-- What the bridge itself says as a side: either end may write there.
abbrev pub own_bridge : BridgePlan → BridgeSideIs (Unit {0})
own_bridge plan = record { plan = plan; writer = None; place = tt }

-- An end of a bridge stands on the ring between two turns: it is tied to its node's entries, and it
-- has not left the bridge, nor its node the ring, unless it left.
pub record EndIsReady (side : ℕ) (worker : BridgeWorkerIs) (left : Bool) (bridge : BridgeIs)
    (net : NetPlan) (ring : List RingEntry) : Type 0 where
  pub worker_side : worker.side ≡ side
  pub ties : EndTies side (own_bridge bridge.plan) bridge.history (own_side net) ring
  pub is_open : left ≡ false → IsOpenEnd bridge.plan bridge.history side
  pub here : left ≡ false → IsHere net ring side
