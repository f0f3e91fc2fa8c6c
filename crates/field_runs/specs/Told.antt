-- Runs of the field, scan by scan. All of it is this project's own.
use Rattle.std.specs.Prelude.{◌≡◌, ◌≤◌, ℕ, ◌+◌, List, [], ◌∷◌, length, Option, Some, None}
use Rattle.plant_types.specs.declared.drops.IoDrop.{IoDrop}
use Rattle.plant_types.specs.declared.drops.ScriptRow.{ScriptRow}
use Rattle.plant_types.specs.declared.plan.ControllerPlan.{ControllerPlan}
use Rattle.plant_types.specs.Plans.{KeepsPower}
use Rattle.scan_order.specs.declared.due.ScanStep.{ScanStep}
use Rattle.scan_order.specs.declared.due.ScanStep.TheVariants as steps
use Rattle.scan_order.specs.Due.{full_scan, input_of, row_of}
use Rattle.traffic_cop.specs.Drops.{drop_named}
use Rattle.controller_core.specs.declared.fixed.Fixed.{Fixed}
use Rattle.controller_core.specs.Controller.{fixed_with}
use Rattle.controller_core.specs.Replay.{ControllerState, start}
use Rattle.field_runs.specs.Field.{PlaysInField, state_after}
use Rattle.field_runs.specs.Scan.{told_first, told_behind, scanned}

-- How many rows the field has for a drop: those of its script, or the one of zeros where that is
-- empty.
abbrev pub rows_in : List ScriptRow → ℕ
rows_in [] = 1
rows_in (row ∷ rows) = length (row ∷ rows)

abbrev pub rows_for : Option IoDrop → ℕ
rows_for None = 1
rows_for (Some drop) = rows_in drop.script

-- A number names a row of a drop, if there is a drop.
abbrev pub NamesRow : ControllerPlan → Option ℕ → ℕ → Type 0
NamesRow plan None number = Unit {0}
NamesRow plan (Some drop) number =
    (1 ≤ number) × (number ≤ rows_for (drop_named plan.drops drop))

-- What is told for a step is a row of its drop, where the step is an input exchange.
abbrev pub IsTold : ControllerPlan → ScanStep → ℕ → Type 0
IsTold plan (steps.In row) number = NamesRow plan (input_of (row_of plan row)) number
IsTold plan step number = Unit {0}

-- What is told for each of these steps is a row of its drop, where the step is an input exchange.
abbrev pub AreTold : ControllerPlan → List ScanStep → List ℕ → Type 0
AreTold plan [] rows = Unit {0}
AreTold plan (step ∷ due) rows =
    IsTold plan step (told_first rows) × AreTold plan due (told_behind step rows)

-- Two states agree, but for how many exchanges and scans there were.
pub record Agrees (s t : ControllerState) : Type 0 where
  pub solving : s.solving ≡ t.solving
  pub stop : s.stop ≡ t.stop

-- A controller comes from a state to another by one scan in which the field brings rows of its
-- drops.
pub record GoesOnTo (fixed : Fixed) (s after : ControllerState) : Type 0 where
  pub rows : List ℕ
  pub told : AreTold fixed.plan (full_scan fixed.plan) rows
  pub agrees : Agrees after (scanned fixed rows s)

-- Where a plan has no power failures, each run of its field starts as its own does, and each scan of
-- such a run is one in which the field brings rows of the plan's drops.
pub record FieldRunsAreScans : Type 0 where
  pub starts : (plan played : ControllerPlan) (scan_time watchdog : ℕ) → PlaysInField plan played
      → state_after played scan_time watchdog 0 ≡ start plan
  pub scans : (plan played : ControllerPlan) (scan_time watchdog scans : ℕ) → KeepsPower plan
      → PlaysInField plan played
      → GoesOnTo (fixed_with plan scan_time watchdog scans)
      (state_after played scan_time watchdog scans)
      (state_after played scan_time watchdog (scans + 1))
