-- What a joint history is: legal lists of a plant's stations, of its bridges and of its rings, which
-- keep the laws between them. This project's own.
use Rattle.std.specs.Prelude.{◌≡◌, ℕ, List}
use Rattle.std.specs.List.{All, AllZip, zip}
use Rattle.plant_types.specs.declared.net.NetPlan.{NetPlan}
use Rattle.plant_types.specs.declared.net.HostPlan.{HostPlan}
use Rattle.plant_types.specs.declared.net.BridgePlan.{BridgePlan}
use Rattle.plant_types.specs.declared.plan.ControllerPlan.{ControllerPlan}
use Rattle.plant_types.specs.declared.plan.Plant.{Plant}
pub use Rattle.plant_types.specs.Limits.{most_scans}
use Rattle.ring_core.specs.declared.entry.RingEntry.{RingEntry}
use Rattle.ring_core.specs.Legal.{IsLegalRing}
use Rattle.tied_lists.specs.Own.{own}
use Rattle.tied_lists.specs.Items.{AController, AHost}
use Rattle.tied_lists.specs.Tied.{Tied, TiedEnd}
use Rattle.controller_core.specs.declared.fixed.Fixed.{Fixed}
use Rattle.controller_core.specs.Controller.{IsLegal}
use Rattle.host_port.specs.Legal.{IsHostHistory}
use Rattle.bridge_relay.specs.Legal.{IsBridgeHistory}
use Rattle.joint_history.specs.declared.joint.ControllerLog.{ControllerLog}
use Rattle.joint_history.specs.declared.joint.HostLog.{HostLog}
use Rattle.joint_history.specs.declared.joint.BridgeLog.{BridgeLog}
use Rattle.joint_history.specs.declared.joint.RingLog.{RingLog}
use Rattle.joint_history.specs.declared.joint.Joint.{Joint}
use Rattle.joint_history.specs.Nets.{noted_on_rings}
use Rattle.joint_history.specs.Reading.{items_of, host_items_of}
use Rattle.joint_history.specs.Bridges.{side_items, backs_of}

-- A controller's list and its node's entries on the ring keep the five laws.
abbrev pub IsTiedController : List RingEntry → ControllerLog → Type 0
IsTiedController ring log = Tied AController (items_of log.entries) (own log.node ring)

-- A host's list and its node's entries on the ring keep the five laws.
abbrev pub IsTiedHost : List RingEntry → HostLog → Type 0
IsTiedHost ring log = Tied AHost (host_items_of log.entries) (own log.node ring)

-- A bridge's list with one of its ends, and that end's entries on its ring, keep the five laws.
abbrev pub IsTiedSide : List RingEntry → BridgeLog → ℕ → Type 0
IsTiedSide ring log side =
    TiedEnd (side_items side log.entries) (backs_of side log.entries) (own side ring)

-- A bridge's list with each of its ends, and that end's entries on its ring, keep the five laws.
pub record IsTiedBridge (ring : List RingEntry) (log : BridgeLog) : Type 0 where
  pub left : IsTiedSide ring log log.left
  pub right : IsTiedSide ring log log.right

-- All stations and all bridges of a joint history keep the laws between their list and their nodes'
-- entries on the rings.
pub record IsJoint (joint : Joint) : Type 0 where
  pub controllers : All (IsTiedController (noted_on_rings joint)) joint.controllers
  pub hosts : All (IsTiedHost (noted_on_rings joint)) joint.hosts
  pub bridges : All (IsTiedBridge (noted_on_rings joint)) joint.bridges

-- A controller's plan, with what the plant says beside it, for so many scans.
abbrev pub fixed_of : Plant → ℕ → ControllerPlan → Fixed
fixed_of plant scans plan = record {
  plan = plan;
  scan_time = plant.scan_time;
  watchdog = plant.watchdog;
  scans = scans;
}

-- Each controller of a plant with its log, in rising address.
abbrev pub logged : Plant → Joint → List (ControllerPlan × ControllerLog)
logged plant joint = zip plant.controllers joint.controllers

-- The list of a controller is a legal one of its plan.
abbrev pub IsLegalLog : Plant → ℕ → ControllerPlan → ControllerLog → Type 0
IsLegalLog plant scans plan log =
    (log.node ≡ plan.node) × IsLegal (fixed_of plant scans plan) log.entries

-- The list of a host is a legal one of its plan.
abbrev pub IsLegalHostLog : HostPlan → HostLog → Type 0
IsLegalHostLog plan log = (log.node ≡ plan.node) × IsHostHistory plan log.entries

-- The list of a bridge is a legal one of its plan.
abbrev pub IsLegalBridgeLog : BridgePlan → BridgeLog → Type 0
IsLegalBridgeLog plan log =
    (log.left ≡ plan.left) × (log.right ≡ plan.right) × IsBridgeHistory plan log.entries

-- The list of a ring is a legal one of its network.
abbrev pub IsLegalRingLog : NetPlan → RingLog → Type 0
IsLegalRingLog net log = (log.network ≡ net.number) × IsLegalRing net log.entries

-- The lists are those of the plant's stations, bridges and networks, in the plant's order, and each
-- of them is legal for so many scans.
pub record IsLegalJoint (plant : Plant) (scans : ℕ) (joint : Joint) : Type 0 where
  pub controllers : AllZip (IsLegalLog plant scans) plant.controllers joint.controllers
  pub hosts : AllZip IsLegalHostLog plant.hosts joint.hosts
  pub bridges : AllZip IsLegalBridgeLog plant.bridges joint.bridges
  pub rings : AllZip IsLegalRingLog plant.nets joint.rings
