-- The due list of a scan, and how one follows it.
use Rattle.std.specs.Prelude.{◌≡◌, ◌≤◌, ℕ, suc, ◌-◌, ◌==◌, Bool, true, false, if◌then◌else◌}
use Rattle.std.specs.Prelude.{List, [], ◌∷◌, ◌++◌, filter, fold, length, Option, Some, None}
use Rattle.std.specs.Prelude.{slice_get, ◌↔◌}
use Rattle.std.specs.List.{flat_map, range_with_len}
use Rattle.plant_types.specs.declared.plan.OrderRow.{OrderRow}
use Rattle.plant_types.specs.declared.plan.ControllerPlan.{ControllerPlan}
use Rattle.scan_order.specs.declared.due.ScanPlace.{ScanPlace}
use Rattle.scan_order.specs.declared.due.ScanPlace.TheVariants as places
use Rattle.scan_order.specs.declared.due.ScanStep.{ScanStep}
use Rattle.scan_order.specs.declared.due.ScanStep.TheVariants as steps
use Rattle.scan_order.specs.declared.power.ScanPower.{ScanPower}
use Rattle.scan_order.specs.declared.power.ScanPower.TheVariants as powers
use Rattle.scan_order.specs.Power.{power_in}

-- A row of the order of solve, counted from 1. This project's own.
abbrev pub row_of : ControllerPlan → ℕ → Option OrderRow
row_of plan number = slice_get plan.orders (number - 1)

-- The drops that a row names as input and as output. This project's own.
abbrev pub input_of : Option OrderRow → Option ℕ
input_of None = None
input_of (Some row) = row.input

abbrev pub output_of : Option OrderRow → Option ℕ
output_of None = None
output_of (Some row) = row.output

-- A step that a row has where it names a drop. This project's own.
abbrev pub step_with : Option ℕ → ScanStep → List ScanStep
step_with None step = []
step_with (Some drop) step = step ∷ []

-- The steps of a row: In where it names an input drop, Solve, and Out where it names an output
-- drop. This project's own.
abbrev pub input_steps : ControllerPlan → ℕ → List ScanStep
input_steps plan row = step_with (input_of (row_of plan row)) (steps.In row)

abbrev pub output_steps : ControllerPlan → ℕ → List ScanStep
output_steps plan row = step_with (output_of (row_of plan row)) (steps.Out row)

abbrev pub row_steps : ControllerPlan → ℕ → List ScanStep
row_steps plan row = input_steps plan row ++ (steps.Solve row ∷ output_steps plan row)

-- The steps of all rows from one on, and End. This project's own.
unfoldable pub rows_from : ControllerPlan → ℕ → List ScanStep
rows_from plan row =
    flat_map (row_steps plan) (range_with_len row (suc (length plan.orders) - row))
    ++ steps.End ∷ []

-- What is due in a scan with power: Begin, the steps of each row in order, and End. This project's
-- own.
abbrev pub full_scan : ControllerPlan → List ScanStep
full_scan plan = steps.Begin ∷ rows_from plan 1

-- The place behind a step. This project's own.
abbrev pub place_after : ScanStep → ScanPlace
place_after steps.Begin = places.Began
place_after (steps.In row) = places.DidIn row
place_after (steps.Solve row) = places.DidSolve row
place_after (steps.Out row) = places.DidOut row
place_after steps.End = places.Start
place_after steps.Fail = places.Start
place_after steps.Dark = places.Start

-- A step is the last of its scan. This project's own.
abbrev pub ends_scan : ScanStep → Bool
ends_scan steps.End = true
ends_scan steps.Fail = true
ends_scan steps.Dark = true
ends_scan _ = false

-- Power that fails at a row fails at this place: behind the Solve of the row, or behind Begin for
-- row 0. This project's own.
abbrev pub is_failing : ℕ → ScanPlace → Bool
is_failing row places.Began = row == 0
is_failing row (places.DidSolve solved) = row == solved
is_failing row _ = false

-- Steps up to the place where power fails, and Fail after them. This project's own.
unfoldable pub up_to_failure : ℕ → List ScanStep → List ScanStep
up_to_failure row [] = []
up_to_failure row (step ∷ rest) =
    step ∷ (if is_failing row (place_after step) then steps.Fail ∷ [] else up_to_failure row rest)

-- What is due in a scan: all steps where the power stays, those up to its failure where it fails,
-- and Dark alone where there is none. This project's own.
abbrev pub due_with : ControllerPlan → ScanPower → List ScanStep
due_with plan powers.Stays = full_scan plan
due_with plan (powers.Fails row) = up_to_failure row (full_scan plan)
due_with plan powers.Dark = steps.Dark ∷ []

abbrev pub due : ControllerPlan → ℕ → List ScanStep
due plan scan = due_with plan (power_in plan scan)

-- A row of the plan. This project's own.
abbrev pub IsRow : ControllerPlan → ℕ → Type 0
IsRow plan row = (1 ≤ row) × (row ≤ length plan.orders)

-- A place and a step of a scan of the plan. This project's own.
abbrev pub IsPlace : ControllerPlan → ScanPlace → Type 0
IsPlace plan places.Start = Unit {0}
IsPlace plan places.Began = Unit {0}
IsPlace plan (places.DidIn row) = IsRow plan row
IsPlace plan (places.DidSolve row) = IsRow plan row
IsPlace plan (places.DidOut row) = IsRow plan row

abbrev pub IsStep : ControllerPlan → ScanStep → Type 0
IsStep plan step = IsPlace plan (place_after step)

-- The place that the first steps of a scan lead to: that behind the last of them, and Start where
-- there are none. This project's own.
abbrev pub place_behind : List ScanStep → ScanPlace
place_behind steps = fold (λ at step. place_after step) places.Start steps

-- A step stands first in a list. This project's own.
abbrev pub IsFirst : ScanStep → List ScanStep → Type 0
IsFirst step steps = (rest : List ScanStep) × (steps ≡ step ∷ rest)

-- A step is the next of a list at a place: where first steps of the list lead there, it is the one
-- behind them. This project's own.
abbrev pub IsNextOf : List ScanStep → ScanPlace → ScanStep → Type 0
IsNextOf due at step =
    (before : List ScanStep) (next : ScanStep) (after : List ScanStep)
    → before ++ next ∷ after ≡ due → place_behind before ≡ at → step ≡ next

-- What following an answer to each place gives, from Start to a step that ends the scan: each step
-- is the answer at the place that those before it lead to, and it ends the scan just where it is
-- the last. This project's own.
pub record IsFollowed (answer : ScanPlace → ScanStep) (steps : List ScanStep) : Type 0 where
  pub some : ¬ (steps ≡ [])
  pub each : (before : List ScanStep) (step : ScanStep) (after : List ScanStep)
      → before ++ step ∷ after ≡ steps → step ≡ answer (place_behind before)
  pub last : (before : List ScanStep) (step : ScanStep) (after : List ScanStep)
      → before ++ step ∷ after ≡ steps → ends_scan step ≡ true ↔ after ≡ []

-- Where each answer is the next of the due list, as `next_due` answers, following it gives the due
-- list, and nothing else. This project's own.
abbrev pub FollowingGivesDue : Type 0
FollowingGivesDue = (plan : ControllerPlan) (scan : ℕ) (answer : ScanPlace → ScanStep)
    → ((at : ScanPlace) → IsPlace plan at → IsNextOf (due plan scan) at (answer at))
    → (steps : List ScanStep) → IsFollowed answer steps ↔ steps ≡ due plan scan

-- The last step of a scan, by what becomes of the power. This project's own.
abbrev pub last_by : ScanPower → ScanStep
last_by powers.Stays = steps.End
last_by (powers.Fails row) = steps.Fail
last_by powers.Dark = steps.Dark

-- Of the steps that are due in a scan just one is a last one: End where the power stays, Fail where
-- it fails, Dark where there is none. This project's own.
abbrev pub ScansEndOnce : Type 0
ScansEndOnce = (plan : ControllerPlan) (scan : ℕ)
    → filter ends_scan (due plan scan) ≡ last_by (power_in plan scan) ∷ []
