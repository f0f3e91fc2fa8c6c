-- The steps that are due in a scan: one of them is its last, and that one comes last.
use Rattle.std.proofs.Common.{◌≡◌, ℕ, suc, ◌-◌, Bool, true, false, List, [], ◌∷◌, ◌++◌, length}
use Rattle.std.proofs.Common.{Option, Some, None, refl, ap}
use Rattle.std.specs.Prelude.{if◌then◌else◌}
use Rattle.std.specs.List.{flat_map, range_with_len}
use Rattle.plant_types.specs.declared.plan.ControllerPlan.{ControllerPlan}
use Rattle.scan_order.specs.declared.due.ScanStep.{ScanStep}
use Rattle.scan_order.specs.declared.due.ScanStep.TheVariants as steps
use Rattle.scan_order.specs.declared.power.ScanPower.{ScanPower}
use Rattle.scan_order.specs.declared.power.ScanPower.TheVariants as powers
use Rattle.scan_order.specs.Due.{due, due_with, ends_scan, input_of, input_steps, is_failing}
use Rattle.scan_order.specs.Due.{output_of, output_steps, place_after, row_of, row_steps, rows_from}
use Rattle.scan_order.specs.Due.{step_with, up_to_failure}
use Rattle.scan_order.specs.Power.{power_in}

abbrev pub IsNoEnd : ScanStep → Type 0
IsNoEnd step = ends_scan step ≡ false

abbrev pub NoEnds : List ScanStep → Type 0
NoEnds [] = Unit {0}
NoEnds (step ∷ rest) = IsNoEnd step × NoEnds rest

-- what is left of a scan that runs: steps up to its last one
pub record EndsOnce (rest : List ScanStep) : Type 0 where
  pub front : List ScanStep
  pub last : ScanStep
  pub none : NoEnds front
  pub ends : ends_scan last ≡ true
  pub is : rest ≡ front ++ last ∷ []

no-ends-both : (xs ys : List ScanStep) → NoEnds xs → NoEnds ys → NoEnds (xs ++ ys)
no-ends-both [] ys a b = b
no-ends-both (x ∷ xs) ys a b = (a.0, no-ends-both xs ys a.1 b)

no-ends-with : (drop : Option ℕ) (step : ScanStep) → IsNoEnd step → NoEnds (step_with drop step)
no-ends-with None step no' = tt
no-ends-with (Some d) step no' = (no', tt)

no-ends-row : (plan : ControllerPlan) (row : ℕ) → NoEnds (row_steps plan row)
no-ends-row plan row = no-ends-both (input_steps plan row) (steps.Solve row ∷ output_steps plan row)
    (no-ends-with (input_of (row_of plan row)) (steps.In row) refl)
    (refl, no-ends-with (output_of (row_of plan row)) (steps.Out row) refl)

no-ends-rows : (plan : ControllerPlan) (rows : List ℕ) → NoEnds (flat_map (row_steps plan) rows)
no-ends-rows plan [] = tt
no-ends-rows plan (row ∷ rows) = no-ends-both (row_steps plan row) (flat_map (row_steps plan) rows)
    (no-ends-row plan row) (no-ends-rows plan rows)

-- the steps of a scan with power, but its End
abbrev pub before-end : ControllerPlan → List ScanStep
before-end plan =
    steps.Begin ∷ flat_map (row_steps plan) (range_with_len 1 (suc (length plan.orders) - 1))

pub no-ends-before : (plan : ControllerPlan) → NoEnds (before-end plan)
no-ends-before plan =
    (refl, no-ends-rows plan (range_with_len 1 (suc (length plan.orders) - 1)))

-- where power fails in a scan, that is its last step
failing-once : (row : ℕ) (front : List ScanStep) → NoEnds front
    → EndsOnce (up_to_failure row (front ++ steps.End ∷ []))
unfolding up_to_failure
failing-once row [] none =
    record { front = []; last = steps.End; none = tt; ends = refl; is = refl }
failing-once row (step ∷ front) none =
    at (is_failing row (place_after step)) (failing-once row front none.1)
  where
    at : (b : Bool) → EndsOnce (up_to_failure row (front ++ steps.End ∷ []))
        → EndsOnce (step ∷ (if b then steps.Fail ∷ [] else
        up_to_failure row (front ++ steps.End ∷ [])))
    at true more = record
        { front = step ∷ []; last = steps.Fail; none = (none.0, tt); ends = refl; is = refl }
    at false more = record {
      front = step ∷ more.front;
      last = more.last;
      none = (none.0, more.none);
      ends = more.ends;
      is = ap (λ (l : List ScanStep). step ∷ l) more.is;
    }

once-by : (plan : ControllerPlan) (power : ScanPower) → EndsOnce (due_with plan power)
unfolding rows_from
once-by plan powers.Stays = record {
  front = before-end plan;
  last = steps.End;
  none = no-ends-before plan;
  ends = refl;
  is = refl;
}
once-by plan (powers.Fails row) = failing-once row (before-end plan) (no-ends-before plan)
once-by plan powers.Dark =
    record { front = []; last = steps.Dark; none = tt; ends = refl; is = refl }

pub due-once : (plan : ControllerPlan) (scan : ℕ) → EndsOnce (due plan scan)
due-once plan scan = once-by plan (power_in plan scan)
