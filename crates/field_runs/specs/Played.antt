-- Runs of the field that bring what is told. All of it is this project's own.
use Rattle.std.specs.Prelude.{◌≤◌, ◌==◌, ℕ, ◌-◌, Bool, true, false, List, [], ◌∷◌, ◌++◌, length, map}
use Rattle.std.specs.Prelude.{take, Option, Some, None, slice_get}
use Rattle.std.specs.List.{AllByRecursion, filter_map, flat_map}
use Rattle.plant_types.specs.declared.drops.IoDrop.{IoDrop}
use Rattle.plant_types.specs.declared.drops.ScriptRow.{ScriptRow}
use Rattle.plant_types.specs.declared.plan.ControllerPlan.{ControllerPlan}
use Rattle.plant_types.specs.Plans.{KeepsPower}
use Rattle.scan_order.specs.declared.due.ScanStep.{ScanStep}
use Rattle.scan_order.specs.declared.due.ScanStep.TheVariants as steps
use Rattle.scan_order.specs.Due.{full_scan, input_of, row_of}
use Rattle.traffic_cop.specs.Rows.{IsRunnablePlan}
use Rattle.controller_core.specs.declared.fixed.Fixed.{Fixed}
use Rattle.controller_core.specs.Replay.{ControllerState, start}
use Rattle.field_runs.specs.Field.{PlaysInField, state_after}
use Rattle.field_runs.specs.Scan.{scanned, told_behind, told_first}
use Rattle.field_runs.specs.Told.{AreTold, Agrees}

-- The state after several scans, in each of which the field brings rows that are told.
abbrev pub behind_scans : Fixed → List (List ℕ) → ControllerState → ControllerState
behind_scans fixed [] s = s
behind_scans fixed (rows ∷ told) s = behind_scans fixed told (scanned fixed rows s)

-- Rows of a plan's drops are told for each of these scans.
abbrev pub AreScansTold : ControllerPlan → List (List ℕ) → Type 0
AreScansTold plan told = AllByRecursion (AreTold plan (full_scan plan)) told

-- A step brings a row to the drop of this number.
abbrev pub reads_drop : Option ℕ → ℕ → Bool
reads_drop None number = false
reads_drop (Some drop) number = drop == number

abbrev pub brings_to : ControllerPlan → ℕ → ScanStep → Bool
brings_to plan number (steps.In row) = reads_drop (input_of (row_of plan row)) number
brings_to plan number step = false

-- What is told for one step, if it is for the drop.
abbrev pub one_if : Bool → ℕ → List ℕ
one_if true row = row ∷ []
one_if false row = []

-- The rows that are told for a drop, in these steps and in these scans.
unfoldable pub told_to : ControllerPlan → ℕ → List ScanStep → List ℕ → List ℕ
told_to plan number [] rows = []
told_to plan number (step ∷ due) rows =
    one_if (brings_to plan number step) (told_first rows)
    ++ told_to plan number due (told_behind step rows)

abbrev pub told_in : ControllerPlan → ℕ → List (List ℕ) → List ℕ
told_in plan number told = flat_map (told_to plan number (full_scan plan)) told

-- The rows of a script of these numbers; all of the script where there are none.
abbrev pub row_in : List ScriptRow → ℕ → Option ScriptRow
row_in script number = slice_get script (number - 1)

abbrev pub or_own : List ScriptRow → List ScriptRow → List ScriptRow
or_own script [] = script
or_own script (row ∷ rows) = row ∷ rows

abbrev pub script_of : List ScriptRow → List ℕ → List ScriptRow
script_of script numbers = or_own script (filter_map (row_in script) numbers)

-- A plan with scripts that bring what is told for each drop, one row after another.
abbrev pub with_script : ControllerPlan → List (List ℕ) → IoDrop → IoDrop
with_script plan told drop =
    record drop { script = script_of drop.script (told_in plan drop.number told) }

abbrev pub with_scripts : ControllerPlan → List (List ℕ) → ControllerPlan
with_scripts plan told = record plan { drops = map (with_script plan told) plan.drops }

-- A run of the field with these scripts comes after each of these scans to what they come to.
pub record IsPlayed (fixed : Fixed) (told : List (List ℕ)) : Type 0 where
  pub plays : PlaysInField fixed.plan (with_scripts fixed.plan told)
  pub same : (scans : ℕ) → scans ≤ length told
      → Agrees (state_after (with_scripts fixed.plan told) fixed.scan_time fixed.watchdog scans)
      (behind_scans fixed (take scans told) (start fixed.plan))

-- Whatever rows of its drops are told for scans of a plan without power failures, the run of its
-- field with these scripts brings them.
abbrev pub ScansAreFieldRuns : Type 0
ScansAreFieldRuns =
    (fixed : Fixed) (told : List (List ℕ)) → IsRunnablePlan fixed.plan → KeepsPower fixed.plan
    → AreScansTold fixed.plan told → IsPlayed fixed told
