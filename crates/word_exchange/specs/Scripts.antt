-- Plants whose scripts are given by a rule. All of it is this project's own.
use Rattle.std.specs.Prelude.{◌≡◌, ℕ, ◌==◌, ◌&&◌, if◌then◌else◌, nat_eq, List, ◌++◌, fold, map}
use Rattle.std.specs.List.{All, IsDistinct}
use Rattle.plant_types.specs.declared.drops.IoDrop.{IoDrop}
use Rattle.plant_types.specs.declared.drops.ScriptRow.{ScriptRow}
use Rattle.plant_types.specs.declared.plan.ControllerPlan.{ControllerPlan}
use Rattle.plant_types.specs.declared.plan.Plant.{Plant}
use Rattle.joint_history.specs.declared.joint.Joint.{Joint}
use Rattle.peer_cop.specs.declared.wire.Wire.{Wire}
use Rattle.word_exchange.specs.Exchange.{plant_exchanged, script_due}
use Rattle.word_exchange.specs.declared.feeding.WiredDrop.{WiredDrop}
use Rattle.word_exchange.specs.declared.running.WireReader.{WireReader}
use Rattle.word_exchange.specs.Feeding.{plant_with_all, plant_with_rows, rows_wanted}
use Rattle.word_exchange.specs.Feeding.{with_script}
use Rattle.word_exchange.specs.Rows.{is_wired}

-- The plan, and the plant, with the scripts that a rule gives.
abbrev pub plan_by : (ControllerPlan → IoDrop → List ScriptRow) → ControllerPlan → ControllerPlan
plan_by script plan = record plan {
  drops = map (λ (drop : IoDrop). with_script drop (script plan drop)) plan.drops;
}

abbrev pub plant_by : (ControllerPlan → IoDrop → List ScriptRow) → Plant → Plant
plant_by script plant = record plant { controllers = map (plan_by script) plant.controllers }

-- The rule with these rows last in the script of a drop of a node's controller.
abbrev pub script_with : ℕ → ℕ → List ScriptRow → (ControllerPlan → IoDrop → List ScriptRow)
    → ControllerPlan → IoDrop → List ScriptRow
script_with node number rows script plan drop =
    if (plan.node == node) && (drop.number == number)
    then script plan drop ++ rows else script plan drop

-- The rule with the rows that wired drops need.
abbrev pub script_with_all : List WireReader → (ControllerPlan → IoDrop → List ScriptRow)
    → List WiredDrop → ControllerPlan → IoDrop → List ScriptRow
script_with_all readers script wired =
    fold (λ (rule : ControllerPlan → IoDrop → List ScriptRow) (one : WiredDrop).
    script_with one.plan.now.node one.drop.now.number (rows_wanted readers one) rule) script wired

-- The rule of a word exchange: wired drops have the script that is due, and others their own.
abbrev pub script_exchanged : Plant → List Wire → List Joint → ControllerPlan → IoDrop
    → List ScriptRow
script_exchanged plant wires moments plan drop =
    if is_wired wires plan.node drop.number
    then script_due plant wires plan drop moments else drop.script

-- No two drops of a controller have the same number.
abbrev pub HasDropsOnce : ControllerPlan → Type 0
HasDropsOnce plan = IsDistinct nat_eq (map (λ (drop : IoDrop). drop.number) plan.drops)

-- Rows that are fed to a plant of a rule make the plant of the rule with the rows; and the plant of
-- a word exchange is that of its rule.
pub record RowsFollowRules : Type 0 where
  pub fed : (script : ControllerPlan → IoDrop → List ScriptRow) (plant : Plant) (node number : ℕ)
      (rows : List ScriptRow) → All HasDropsOnce plant.controllers
      → plant_with_rows (plant_by script plant) node number rows
      ≡ plant_by (script_with node number rows script) plant
  pub all : (readers : List WireReader) (script : ControllerPlan → IoDrop → List ScriptRow)
      (plant : Plant) (wired : List WiredDrop) → All HasDropsOnce plant.controllers
      → plant_with_all readers (plant_by script plant) wired
      ≡ plant_by (script_with_all readers script wired) plant
  pub exchanged : (plant : Plant) (wires : List Wire) (moments : List Joint)
      → plant_exchanged plant wires moments
      ≡ plant_by (script_exchanged plant wires moments) plant
