-- A run whose passes of the rings are all back. This project's own.
use Rattle.std.specs.Prelude.{◌≡◌, ℕ, Bool, true, List, [], map, length, Some, slice_get}
use Rattle.std.specs.Prelude.{vec_len, vec_capacity}
use Rattle.std.specs.List.{AllZip}
use Rattle.turn_gate.specs.Known.{PassFacts}
use Rattle.plant_types.specs.declared.net.BridgePlan.{BridgePlan}
use Rattle.plant_types.specs.declared.plan.Plant.{Plant}
use Rattle.ring_core.specs.declared.entry.RingEntry.{RingEntry}
use Rattle.controller_core.specs.declared.notes.Notes.{Notes}
use Rattle.joint_history.specs.declared.joint.BridgeLog.{BridgeLog}
use Rattle.joint_history.specs.declared.joint.ControllerLog.{ControllerLog}
use Rattle.joint_history.specs.declared.joint.HostLog.{HostLog}
use Rattle.joint_history.specs.declared.joint.RingLog.{RingLog}
use Rattle.joint_history.specs.declared.noted.Noted.{Noted}
use Rattle.joint_history.specs.JointLaws.{IsLegalBridgeLog}
use Rattle.live_run.specs.declared.runs.Outcome.{Outcome}
use Rattle.live_run.specs.declared.runs.Stations.{Stations}
use Rattle.live_workers.specs.declared.stations.NotedLog.{NotedLog}
use Rattle.live_run.specs.Closing.{IsClosable}
use Rattle.live_run.specs.Dealing.{HasBrought}
use Rattle.live_run.specs.Homes.{IsHomeOf, Purse, RingGate, place_of_ring}
use Rattle.gated_sides.specs.Sides.{GatedRingIs}
use Rattle.live_workers.specs.Stations.{CameNoted, EndCameToEnd, HostCameToEnd}

-- No station is there yet, and there is room for those of a plant.
pub record IsRoomFor {G : Type 0} (plant : Plant) (room : Stations G) : Type 0 where
  pub controllers : (room.controllers.items ≡ []) × (vec_len room.controllers ≡ 0)
      × (vec_capacity room.controllers ≡ length plant.controllers)
  pub hosts : (room.hosts.items ≡ []) × (vec_len room.hosts ≡ 0)
      × (vec_capacity room.hosts ≡ length plant.hosts)
  pub bridges : (room.bridges.items ≡ []) × (vec_len room.bridges ≡ 0)
      × (vec_capacity room.bridges ≡ length plant.bridges)

-- To pass 0 of the ring of its network a node's side brought back its pass, which had seen a list
-- of which this holds.
pub record IsBrought (gates : List RingGate) (purses : List Purse) (network node : ℕ)
    (Holds : List RingEntry → Type 0) : Type 0 where
  pub side : GatedRingIs
  pub number : side.number ≡ node
  pub holds : Holds side.seen
  pub home : IsHomeOf gates network side.gate
  pub pass : PassFacts RingEntry
  pub kept : slice_get purses (place_of_ring gates network) ≡ Some (Some pass)
  pub unused : pass.gate.opening ≡ []
  pub brought : HasBrought pass side

-- A bridge's workers brought back their passes, and both of its ends came to their ends.
pub record IsBridgeBrought (plant : Plant) (gates : List RingGate) (purses : List Purse)
    (plan : BridgePlan) (log : BridgeLog) : Type 0 where
  pub legal : IsLegalBridgeLog plan log
  pub left : IsBrought gates purses plan.left_net plan.left
      (EndCameToEnd plant plan plan.left log.entries)
  pub right : IsBrought gates purses plan.right_net plan.right
      (EndCameToEnd plant plan plan.right log.entries)

abbrev pub AreBrought : {P L : Type 0} → List RingGate → List Purse → (P → ℕ) → (P → ℕ)
    → (P → L → List RingEntry → Type 0) → List P → List L → Type 0
AreBrought gates purses network_of node_of Holds plans logs = AllZip
    (λ plan log. IsBrought gates purses (network_of plan) (node_of plan) (Holds plan log)) plans
    logs

-- The gates of all rings can be closed; where all stations came to their ends, pass 0 of each has
-- what they tell.
pub record IsThrough (plant : Plant) (scans : ℕ) (gates : List RingGate) (purses : List Purse)
    (logs : List NotedLog) (host_logs : List HostLog) (bridge_logs : List BridgeLog) (done : Bool)
    : Type 0 where
  pub closable : AllZip IsClosable gates purses
  pub ran : done ≡ true → AreBrought gates purses (λ plan. plan.network) (λ plan. plan.node)
      (CameNoted plant scans) plant.controllers logs
  pub served : done ≡ true → AreBrought gates purses (λ plan. plan.network) (λ plan. plan.node)
      (HostCameToEnd plant) plant.hosts host_logs
  pub crossed : done ≡ true → AllZip (IsBridgeBrought plant gates purses) plant.bridges bridge_logs

-- What a run through the gates of the rings came to.
abbrev pub IsOutcome : Plant → ℕ → List RingGate → List Purse → Outcome → Type 0
IsOutcome plant scans gates purses outcome =
    IsThrough plant scans gates purses outcome.controllers.items outcome.hosts.items
    outcome.bridges.items outcome.done

-- The history of a controller, and its notes.
abbrev pub log_part : NotedLog → ControllerLog
log_part noted = noted.log

abbrev pub notes_part : NotedLog → Notes
notes_part noted = noted.notes

-- A joint history has these closed lists, and the notes beside it are those of its controllers.
pub record IsMadeOf (controllers : List NotedLog) (hosts : List HostLog) (bridges : List BridgeLog)
    (rings : List RingLog) (noted : Noted) : Type 0 where
  pub controllers_are : noted.joint.controllers ≡ map log_part controllers
  pub hosts_are : noted.joint.hosts ≡ hosts
  pub bridges_are : noted.joint.bridges ≡ bridges
  pub rings_are : noted.joint.rings ≡ rings
  pub notes_are : noted.notes ≡ map notes_part controllers
