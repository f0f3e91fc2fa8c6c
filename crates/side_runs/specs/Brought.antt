-- What one field brings two controllers. All of it is this project's own.
use Rattle.std.specs.Prelude.{◌≡◌, ◌≤◌, ◌<◌, ℕ, ◌+◌, ◌-◌, ◌==◌, if◌then◌else◌, List, [], ◌∷◌}
use Rattle.std.specs.Prelude.{Option, Some, None, slice_get, slice_index}
use Rattle.plant_types.specs.declared.drops.IoDrop.{IoDrop}
use Rattle.plant_types.specs.declared.drops.ScriptRow.{ScriptRow}
use Rattle.plant_types.specs.declared.plan.ControllerPlan.{ControllerPlan}
use Rattle.scan_order.specs.declared.due.ScanStep.{ScanStep}
use Rattle.scan_order.specs.declared.due.ScanStep.TheVariants as steps
use Rattle.scan_order.specs.Due.{input_of, row_of}
use Rattle.traffic_cop.specs.Drops.{drop_named}
use Rattle.traffic_cop.specs.Exchange.{row_at}
use Rattle.controller_core.specs.declared.fixed.Fixed.{Fixed}
use Rattle.field_runs.specs.Field.{PlaysInField, state_after}
use Rattle.field_runs.specs.Told.{rows_for}

-- What a field brings in a scan: at each exchange with a drop of a number, and they are counted
-- from 0 in that scan, the row of this number of the drop's script; rows are counted from 1.
abbrev pub ScanField : Type 0
ScanField = ℕ → ℕ → ℕ

-- Each of these is a row of the drop, or the one of zeros where the script is empty.
abbrev pub NamesRows : List IoDrop → ScanField → Type 0
NamesRows drops field =
    (drop nth : ℕ) → (1 ≤ field drop nth) × (field drop nth ≤ rows_for (drop_named drops drop))

-- The script of a drop, if there is one; else none of its rows.
abbrev pub script_in : Option IoDrop → List ScriptRow
script_in None = []
script_in (Some drop) = drop.script

-- The row at an exchange with the drop of a number, counted from 1; the last one stands for all
-- later exchanges, and there is none where the script is empty.
abbrev pub row_for : List IoDrop → ℕ → ℕ → Option ScriptRow
row_for drops drop k = row_at (script_in (drop_named drops drop)) k

-- How many exchanges with a drop a run has made after so many scans.
abbrev pub exchanges_made : Fixed → ControllerPlan → ℕ → ℕ → ℕ
exchanges_made fixed played scans drop =
    slice_index (state_after played fixed.scan_time fixed.watchdog scans).exchanges (drop - 1)

-- A run makes this exchange with a drop, whose number is 1 or more, in the scan after so many;
-- exchanges are counted from 0 in the scan.
pub record MakesExchange (fixed : Fixed) (played : ControllerPlan) (scans drop nth : ℕ)
    : Type 0 where
  pub number : 1 ≤ drop
  pub made : exchanges_made fixed played scans drop + nth
      < exchanges_made fixed played (scans + 1) drop

-- A plan plays in the field of a controller, and brings in these scans what a field brings that has
-- rows of certain drops: at each exchange that its run makes it reads that row.
pub record Brings (fixed : Fixed) (drops : List IoDrop) (fields : List ScanField)
    (played : ControllerPlan) : Type 0 where
  pub plays : PlaysInField fixed.plan played
  pub rows : (scans drop nth : ℕ) (field : ScanField) → slice_get fields scans ≡ Some field
      → MakesExchange fixed played scans drop nth
      → row_for played.drops drop (exchanges_made fixed played scans drop + nth + 1)
      ≡ row_for drops drop (field drop nth)

-- The rows that a field brings at the input exchanges of steps, in their order: each exchange with
-- a drop takes the next one.
abbrev pub next_row : Option ℕ → ScanField → ℕ
next_row None field = 1
next_row (Some drop) field = field drop 0

abbrev pub behind_exchange : Option ℕ → ScanField → ScanField
behind_exchange None field drop nth = field drop nth
behind_exchange (Some read) field drop nth = field drop (if read == drop then nth + 1 else nth)

abbrev pub rows_told : ControllerPlan → List ScanStep → ScanField → List ℕ
rows_told plan [] field = []
rows_told plan (steps.In row ∷ due) field =
    next_row (input_of (row_of plan row)) field
    ∷ rows_told plan due (behind_exchange (input_of (row_of plan row)) field)
rows_told plan (step ∷ due) field = rows_told plan due field
