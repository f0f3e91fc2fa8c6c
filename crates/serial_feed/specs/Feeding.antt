-- A plant that is given a row while it runs. All of it is this project's own.
use Rattle.std.specs.Prelude.{◌≡◌, ℕ, ◌==◌, if◌then◌else◌, List, map}
use Rattle.plant_types.specs.declared.drops.ScriptRow.{ScriptRow}
use Rattle.plant_types.specs.declared.plan.ControllerPlan.{ControllerPlan}
use Rattle.plant_types.specs.declared.plan.Plant.{Plant}
use Rattle.traffic_cop.specs.Feeding.{row_fed}
use Rattle.controller_core.specs.Feeding.{CanFeedAfter}
use Rattle.joint_history.specs.declared.joint.ControllerLog.{ControllerLog}
use Rattle.joint_history.specs.declared.joint.Joint.{Joint}
use Rattle.joint_history.specs.JointLaws.{fixed_of}
use Rattle.serial_run.specs.Serial.{IsChain, IsRepetition}
use Rattle.serial_run.specs.Turns.{nothing_made, IsControllerAt}

-- The plan of a controller: where it is that of the node, the script of the drop has the row last.
abbrev pub plan_with : ℕ → ℕ → ScriptRow → ControllerPlan → ControllerPlan
plan_with node drop row plan = record plan {
  drops = if plan.node == node then row_fed plan.drops drop row else plan.drops;
}

-- The plant with the row last in the script of a drop of the node's controller.
abbrev pub plant_fed : Plant → ℕ → ℕ → ScriptRow → Plant
plant_fed plant node drop row =
    record plant { controllers = map (plan_with node drop row) plant.controllers }

-- The controller of the node can be fed the row after what it has noted so far.
abbrev pub CanFeedIn : Plant → ℕ → ℕ → ℕ → ScriptRow → Joint → Type 0
CanFeedIn plant scans node drop row joint =
    (at : ℕ) (plan : ControllerPlan) (log : ControllerLog) → IsControllerAt plant joint at plan log
    → plan.node ≡ node → CanFeedAfter (fixed_of plant scans plan) log.entries drop row

-- What repetitions of the serial run made of a plant they make of the plant with a row more, where
-- the row can be fed after them.
abbrev pub RowsKeepRuns : Type 0
RowsKeepRuns =
    (plant : Plant) (scans node drop : ℕ) (row : ScriptRow) (after_each : List Joint)
    (joint : Joint) → CanFeedIn plant scans node drop row joint
    → IsChain (IsRepetition plant scans) (nothing_made plant) after_each joint
    → IsChain (IsRepetition (plant_fed plant node drop row) scans)
    (nothing_made (plant_fed plant node drop row)) after_each joint
