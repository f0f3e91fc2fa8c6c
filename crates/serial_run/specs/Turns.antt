-- How a turn of a station changes a joint history. This project's own.
use Rattle.std.specs.Prelude.{◌≡◌, ℕ, ◌==◌, Bool, true, false, ◌&&◌, ◌||◌, not, List, [], ◌∷◌}
use Rattle.std.specs.Prelude.{◌++◌, if◌then◌else◌, Option, Some, None, map, set}
use Rattle.std.specs.List.{find, position, slice_get}
use Rattle.plant_types.specs.declared.net.NetPlan.{NetPlan}
use Rattle.plant_types.specs.declared.net.HostPlan.{HostPlan}
use Rattle.plant_types.specs.declared.net.BridgePlan.{BridgePlan}
use Rattle.plant_types.specs.declared.plan.ControllerPlan.{ControllerPlan}
use Rattle.plant_types.specs.declared.plan.Plant.{Plant}
use Rattle.plant_types.specs.Plans.{net_of}
use Rattle.ring_core.specs.Machine.{ring_after}
use Rattle.ring_core.specs.declared.status.NodeStatus.{NodeStatus}
use Rattle.ring_core.specs.declared.status.NodeStatus.TheVariants as statuses
use Rattle.ring_core.specs.declared.entry.RingEntry.{RingEntry}
use Rattle.bridge_relay.specs.declared.entry.BridgeEntry.{BridgeEntry}
use Rattle.bridge_station.specs.BridgePort.{HoldsEndTurn}
use Rattle.controller_core.specs.declared.fixed.Fixed.{Fixed}
use Rattle.controller_core.specs.declared.entry.Entry.{Entry}
use Rattle.controller_core.specs.Controller.{stepped}
use Rattle.host_port.specs.declared.entry.HostEntry.{HostEntry}
use Rattle.joint_history.specs.declared.joint.ControllerLog.{ControllerLog}
use Rattle.joint_history.specs.declared.joint.HostLog.{HostLog}
use Rattle.joint_history.specs.declared.joint.BridgeLog.{BridgeLog}
use Rattle.joint_history.specs.declared.joint.RingLog.{RingLog}
use Rattle.joint_history.specs.declared.joint.Joint.{Joint}
use Rattle.joint_history.specs.JointLaws.{fixed_of}
use Rattle.joint_history.specs.Nets.{noted_on}
use Rattle.joint_history.specs.Reading.{controller_at, has_ended_at, has_started_at, is_off_at}
use Rattle.tied_lists.specs.Waits.{has_left, status_at}
use Rattle.comm_port.specs.declared.turn_end.TurnEnd.{TurnEnd}
use Rattle.comm_port.specs.Failing.{join_entries}
use Rattle.comm_port.specs.HoldTurn.{VisitsEnd}
use Rattle.comm_port.specs.WholeTurn.{HoldsTurn}
use Rattle.comm_port.specs.HostTurns.{HoldsHostTurn}
use Rattle.serial_run.specs.declared.order.Turn.{Turn}
use Rattle.serial_run.specs.declared.order.Turn.TheVariants.{Step, Hold, Visit, Away}
use Rattle.bridge_station.specs.TurnLaws.{is_out_of_ring}

-- The empty list of a controller, and those of a host, of a bridge and of a network's ring.
abbrev pub empty_log : ControllerPlan → ControllerLog
empty_log plan = record { node = plan.node; entries = [] }

abbrev pub empty_host_log : HostPlan → HostLog
empty_host_log plan = record { node = plan.node; entries = [] }

abbrev pub empty_bridge_log : BridgePlan → BridgeLog
empty_bridge_log plan = record { left = plan.left; right = plan.right; entries = [] }

abbrev pub empty_ring_log : NetPlan → RingLog
empty_ring_log net = record { network = net.number; entries = [] }

-- The joint history of a plant where nothing was made yet.
abbrev pub nothing_made : Plant → Joint
nothing_made plant = record {
  controllers = map empty_log plant.controllers;
  hosts = map empty_host_log plant.hosts;
  bridges = map empty_bridge_log plant.bridges;
  rings = map empty_ring_log plant.nets;
}

-- A node is one of the two ends of a bridge.
abbrev pub is_end_of : ℕ → BridgePlan → Bool
is_end_of node bridge = (bridge.left == node) || (bridge.right == node)

-- The place of the controller of a node in its plant, that of a host, and that of the bridge of
-- which it is an end.
abbrev pub place_of_controller : Plant → ℕ → Option ℕ
place_of_controller plant node = position (λ plan. plan.node == node) plant.controllers

abbrev pub place_of_host : Plant → ℕ → Option ℕ
place_of_host plant node = position (λ plan. plan.node == node) plant.hosts

abbrev pub place_of_bridge : Plant → ℕ → Option ℕ
place_of_bridge plant node = position (is_end_of node) plant.bridges

-- The controller at a place has this plan and this list.
pub record IsControllerAt (plant : Plant) (joint : Joint) (at : ℕ) (plan : ControllerPlan)
    (log : ControllerLog) : Type 0 where
  pub plan_is : slice_get plant.controllers at ≡ Some plan
  pub log_is : slice_get joint.controllers at ≡ Some log

-- The host at a place has this plan and this list.
pub record IsHostAt (plant : Plant) (joint : Joint) (at : ℕ) (plan : HostPlan) (log : HostLog)
    : Type 0 where
  pub plan_is : slice_get plant.hosts at ≡ Some plan
  pub log_is : slice_get joint.hosts at ≡ Some log

-- The bridge at a place has this plan and this list.
pub record IsBridgeAt (plant : Plant) (joint : Joint) (at : ℕ) (plan : BridgePlan)
    (log : BridgeLog) : Type 0 where
  pub plan_is : slice_get plant.bridges at ≡ Some plan
  pub log_is : slice_get joint.bridges at ≡ Some log

-- A joint history with another list of the controller at a place, of the host, or of the bridge.
abbrev pub with_list : ℕ → ControllerLog → List Entry → Joint → Joint
with_list at log entries joint = record joint {
  controllers = set joint.controllers at (record { node = log.node; entries = entries });
}

abbrev pub with_host_list : ℕ → HostLog → List HostEntry → Joint → Joint
with_host_list at log entries joint = record joint {
  hosts = set joint.hosts at (record { node = log.node; entries = entries });
}

abbrev pub with_bridge_list : ℕ → BridgeLog → List BridgeEntry → Joint → Joint
with_bridge_list at log entries joint = record joint {
  bridges = set joint.bridges at
      (record { left = log.left; right = log.right; entries = entries });
}

-- The log of a ring, with another list where it is that of a network.
abbrev pub with_entries : ℕ → List RingEntry → RingLog → RingLog
with_entries network ring log = record {
  network = log.network;
  entries = if log.network == network then ring else log.entries;
}

-- A joint history with another list of the ring of a network.
abbrev pub with_noted_on : ℕ → List RingEntry → Joint → Joint
with_noted_on network ring joint =
    record joint { rings = map (with_entries network ring) joint.rings }

-- A controller's list after its due step; the same list where it has ended or stopped.
abbrev pub stepped_list : Fixed → List Entry → List Entry
stepped_list fixed entries = (stepped (controller_at fixed entries)).history

-- The controller at a place makes its due step.
pub record StepsAt (plant : Plant) (scans at : ℕ) (old new : Joint) : Type 0 where
  pub plan : ControllerPlan
  pub log : ControllerLog
  pub is : IsControllerAt plant old at plan log
  pub made : new ≡ with_list at log (stepped_list (fixed_of plant scans plan) log.entries) old

-- Step: nothing where no controller has the node.
abbrev pub MakesStep : Plant → ℕ → Option ℕ → Joint → Joint → Type 0
MakesStep plant scans None old new = new ≡ old
MakesStep plant scans (Some at) old new = StepsAt plant scans at old new

-- The controller at a place makes its hold turn: its own list and that of its ring go on.
pub record MakesHoldTurnAt (plant : Plant) (scans at : ℕ) (old new : Joint) : Type 0 where
  pub plan : ControllerPlan
  pub log : ControllerLog
  pub is : IsControllerAt plant old at plan log
  pub entries : List Entry
  pub ring : List RingEntry
  pub end : TurnEnd
  pub turn : HoldsTurn true true (fixed_of plant scans plan) (net_of plant plan.node) plan.node true
      log.entries entries (noted_on plan.network old) ring end
  pub made : new ≡ with_noted_on plan.network ring (with_list at log entries old)

-- The host at a place makes its hold turn: its own list and that of its ring go on.
pub record HostHoldsAt (plant : Plant) (at : ℕ) (old new : Joint) : Type 0 where
  pub plan : HostPlan
  pub log : HostLog
  pub is : IsHostAt plant old at plan log
  pub entries : List HostEntry
  pub ring : List RingEntry
  pub left : Bool
  pub turn : HoldsHostTurn true (net_of plant plan.node) plan.node plan true log.entries entries
      (noted_on plan.network old) ring left
  pub made : new ≡ with_noted_on plan.network ring (with_host_list at log entries old)

-- The bridge at a place makes the hold turn of one of its ends on the ring of a network: its own
-- list and that of the ring go on.
pub record EndHoldsAt (plant : Plant) (net : NetPlan) (side at : ℕ) (old new : Joint)
    : Type 0 where
  pub plan : BridgePlan
  pub log : BridgeLog
  pub is : IsBridgeAt plant old at plan log
  pub entries : List BridgeEntry
  pub ring : List RingEntry
  pub left : Bool
  pub turn : HoldsEndTurn true true plan net side true log.entries entries
      (noted_on net.number old) ring left
  pub made : new ≡ with_noted_on net.number ring (with_bridge_list at log entries old)

-- Who holds the token of a network.
abbrev pub holder_on : NetPlan → Joint → ℕ
holder_on net joint = (ring_after net (noted_on net.number joint)).holder

-- The station or the bridge of the node that holds a token makes its hold turn; nothing where no
-- node holds it.
abbrev pub MakesHold : Plant → ℕ → NetPlan → Option ℕ → Option ℕ → Option ℕ → Joint → Joint
    → Type 0
MakesHold plant scans net (Some at) host bridge old new = MakesHoldTurnAt plant scans at old new
MakesHold plant scans net None (Some at) bridge old new = HostHoldsAt plant at old new
MakesHold plant scans net None None (Some at) old new =
    EndHoldsAt plant net (holder_on net old) at old new
MakesHold plant scans net None None None old new = new ≡ old

-- The network of a number.
abbrev pub net_numbered : Plant → ℕ → Option NetPlan
net_numbered plant network = find (λ net. net.number == network) plant.nets

-- Hold: the station or the bridge of the node that holds the token of a network makes its hold
-- turn; nothing where there is no such network, or no node holds its token.
abbrev pub MakesHoldOn : Plant → ℕ → Option NetPlan → Joint → Joint → Type 0
MakesHoldOn plant scans None old new = new ≡ old
MakesHoldOn plant scans (Some net) old new =
    MakesHold plant scans net (place_of_controller plant (holder_on net old))
    (place_of_host plant (holder_on net old)) (place_of_bridge plant (holder_on net old)) old new

-- A node has left the ring, and does not ask to come in.
abbrev pub node_has_left : NetPlan → List RingEntry → ℕ → Bool
node_has_left net ring node = has_left (status_at net ring node)

-- A controller with this list may make its visit: its node is gone; or it is away, the scans are
-- gone and there is no power.
abbrev pub may_visit : Fixed → List Entry → NodeStatus → Bool
may_visit fixed entries status =
    is_out_of_ring (has_ended_at fixed entries && is_off_at fixed entries) status

-- A controller's visit is due: it may make it, and has calls that were not collected.
abbrev pub visit_is_due : Plant → ℕ → ControllerPlan → List Entry → List RingEntry → Bool
visit_is_due plant scans plan entries ring =
    may_visit (fixed_of plant scans plan) entries
    (status_at (net_of plant plan.node) ring plan.node)
    && has_started_at (fixed_of plant scans plan) entries

-- The controller at a place makes its visit: its own list and that of its ring go on.
pub record VisitsAt (plant : Plant) (scans at : ℕ) (plan : ControllerPlan) (log : ControllerLog)
    (old new : Joint) : Type 0 where
  pub entries : List Entry
  pub ring : List RingEntry
  pub visit : VisitsEnd true true (fixed_of plant scans plan) (net_of plant plan.node) plan.node
      log.entries entries (noted_on plan.network old) ring
  pub made : new ≡ with_noted_on plan.network ring (with_list at log entries old)

-- The controller at a place makes its visit where that is due, and else nothing.
abbrev pub VisitsWhere : Bool → Plant → ℕ → ℕ → ControllerPlan → ControllerLog → Joint → Joint
    → Type 0
VisitsWhere true plant scans at plan log old new = VisitsAt plant scans at plan log old new
VisitsWhere false plant scans at plan log old new = new ≡ old

pub record VisitsIfDue (plant : Plant) (scans at : ℕ) (old new : Joint) : Type 0 where
  pub plan : ControllerPlan
  pub log : ControllerLog
  pub is : IsControllerAt plant old at plan log
  pub visits : VisitsWhere (visit_is_due plant scans plan log.entries (noted_on plan.network old))
      plant scans at plan log old new

-- Visit: nothing where no controller has the node.
abbrev pub MakesVisit : Plant → ℕ → Option ℕ → Joint → Joint → Type 0
MakesVisit plant scans None old new = new ≡ old
MakesVisit plant scans (Some at) old new = VisitsIfDue plant scans at old new

-- The entries by which a node comes back: it asks to come in where it is away and has power.
abbrev pub coming_back : NodeStatus → Bool → ℕ → List RingEntry
coming_back statuses.In off node = []
coming_back statuses.Away off node = join_entries node (not off)
coming_back statuses.Asking off node = []
coming_back statuses.Gone off node = []

-- The controller at a place makes its away turn.
pub record ComesBackAt (plant : Plant) (scans at : ℕ) (old new : Joint) : Type 0 where
  pub plan : ControllerPlan
  pub log : ControllerLog
  pub is : IsControllerAt plant old at plan log
  pub made : new ≡ with_noted_on plan.network
      (noted_on plan.network old
      ++ coming_back (status_at (net_of plant plan.node) (noted_on plan.network old) plan.node)
      (is_off_at (fixed_of plant scans plan) log.entries) plan.node) old

-- Away: nothing where no controller has the node.
abbrev pub MakesAwayTurn : Plant → ℕ → Option ℕ → Joint → Joint → Type 0
MakesAwayTurn plant scans None old new = new ≡ old
MakesAwayTurn plant scans (Some at) old new = ComesBackAt plant scans at old new

-- A turn leads from one joint history to the next.
abbrev pub MakesTurn : Plant → ℕ → Turn → Joint → Joint → Type 0
MakesTurn plant scans (Step node) old new =
    MakesStep plant scans (place_of_controller plant node) old new
MakesTurn plant scans (Hold network) old new =
    MakesHoldOn plant scans (net_numbered plant network) old new
MakesTurn plant scans (Visit node) old new =
    MakesVisit plant scans (place_of_controller plant node) old new
MakesTurn plant scans (Away node) old new =
    MakesAwayTurn plant scans (place_of_controller plant node) old new

-- Turns one after another.
abbrev pub MakesTurns : Plant → ℕ → List Turn → Joint → Joint → Type 0
MakesTurns plant scans [] old new = new ≡ old
MakesTurns plant scans (turn ∷ turns) old new =
    (next : Joint) × MakesTurn plant scans turn old next × MakesTurns plant scans turns next new

-- What the turns of a list make from the start.
abbrev pub IsTurns : Plant → ℕ → List Turn → Joint → Type 0
IsTurns plant scans order joint = MakesTurns plant scans order (nothing_made plant) joint
