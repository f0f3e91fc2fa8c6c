-- Which rows the field brings in a scan, as a number. All of it is this project's own.
use Rattle.std.specs.Prelude.{ℕ, ◌+◌, ◌*◌, ◌/◌, ◌%◌, List, [], ◌∷◌, map, Option, Some, None}
use Rattle.plant_types.specs.declared.drops.IoDrop.{IoDrop}
use Rattle.plant_types.specs.declared.plan.ControllerPlan.{ControllerPlan}
use Rattle.scan_order.specs.declared.due.ScanStep.{ScanStep}
use Rattle.scan_order.specs.declared.due.ScanStep.TheVariants as steps
use Rattle.scan_order.specs.Due.{input_of, row_of}
use Rattle.traffic_cop.specs.Drops.{drop_named}
use Rattle.field_runs.specs.Told.{rows_for}

-- How many rows the field has for a drop that is read; one where none is.
abbrev pub choices_for : List IoDrop → Option ℕ → ℕ
choices_for drops None = 1
choices_for drops (Some number) = rows_for (drop_named drops number)

-- How many it has for the input exchange of a row of the order of solve.
abbrev pub choices_at : ControllerPlan → ℕ → ℕ
choices_at plan row = choices_for plan.drops (input_of (row_of plan row))

-- How many it has for each row of the order of solve.
abbrev pub choices_of : ControllerPlan → List ℕ
choices_of plan = map (λ row. choices_for plan.drops row.input) plan.orders

abbrev pub product : List ℕ → ℕ
product [] = 1
product (n ∷ ns) = n * product ns

-- In how many ways the field can bring rows in these steps.
abbrev pub ways : ControllerPlan → List ScanStep → ℕ
ways plan [] = 1
ways plan (steps.In row ∷ due) = choices_at plan row * ways plan due
ways plan (step ∷ due) = ways plan due

-- The rows that a way is, one for each input exchange of these steps: the first exchange has the
-- last digit of its number.
abbrev pub told_by : ControllerPlan → List ScanStep → ℕ → List ℕ
told_by plan [] way = []
told_by plan (steps.In row ∷ due) way =
    (way % choices_at plan row + 1) ∷ told_by plan due (way / choices_at plan row)
told_by plan (step ∷ due) way = told_by plan due way
