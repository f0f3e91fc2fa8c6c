-- What contracts see of sides over gates. This project's own.
use Rattle.std.specs.Prelude.{ℕ, ◌<◌, List, All}
use Rattle.turn_gate.specs.Known.{GateFacts, PassFacts, IsPassReady}
use Rattle.plant_types.specs.declared.net.NetPlan.{NetPlan}
use Rattle.controller_core.specs.declared.entry.Entry.{Entry}
use Rattle.controller_core.specs.declared.fixed.Fixed.{Fixed}
use Rattle.ring_core.specs.declared.entry.RingEntry.{RingEntry}
use Rattle.ring_core.specs.Machine.{addresses}
use Rattle.ring_core.specs.Words.{maker}
use Rattle.plant_types.specs.declared.net.BridgePlan.{BridgePlan}
use Rattle.bridge_relay.specs.declared.entry.BridgeEntry.{BridgeEntry}
use Rattle.bridge_relay.specs.Machine.{side_of}
use Rattle.bridge_relay.specs.Legal.{IsEnd}

-- The gate of a controller, and the events that its communication's pass has seen.
pub record GatedRamIs : Type 0 where
  pub gate : GateFacts Entry Fixed
  pub seen : List Entry

-- The gate of the ring, the number of the pass, which is its node, and the entries that it has
-- seen.
pub record GatedRingIs : Type 0 where
  pub gate : GateFacts RingEntry NetPlan
  pub number : ℕ
  pub seen : List RingEntry

-- A pass of the ring's gate is ready for a stay in this node's name, and the members of the ring
-- have addresses.
pub record IsAtRing (number : ℕ) (gate : GateFacts RingEntry NetPlan) (p : PassFacts RingEntry)
    : Type 0 where
  pub ready : IsPassReady maker number gate.name p
  pub members : All (λ m. m < addresses) gate.fixed.members

-- The gate of the bridge, the number of the pass, which is its end's address, and the entries that
-- it has seen.
pub record GatedBridgeIs : Type 0 where
  pub gate : GateFacts BridgeEntry BridgePlan
  pub number : ℕ
  pub seen : List BridgeEntry

-- A pass of the bridge's gate is ready for a stay in the name of this end.
pub record IsAtBridge (number : ℕ) (gate : GateFacts BridgeEntry BridgePlan)
    (p : PassFacts BridgeEntry) : Type 0 where
  pub ready : IsPassReady side_of number gate.name p
  pub end : IsEnd gate.fixed number
