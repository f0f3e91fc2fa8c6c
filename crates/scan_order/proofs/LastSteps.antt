-- The one last step of each scan.
use Rattle.std.proofs.Common.{◌≡◌, ◌≤◌, ◌<◌, ◌==◌, ℕ, zero, suc, ◌+◌, ◌-◌, Bool, true, false, ◌||◌}
use Rattle.std.proofs.Common.{◌⊎◌}
use Rattle.std.proofs.Common.{◌&&◌, List, [], ◌∷◌, ◌++◌, length, Option, Some, None, refl, ap}
use Rattle.std.proofs.Common.{◌∙◌, inl, inr, arith}
use Rattle.std.specs.Prelude.{filter, if◌then◌else◌, nat_le}
use Rattle.std.specs.List.{find, flat_map, list_any, range_with_len}
use Rattle.std.proofs.lemmas.List.Elements.{filter-append}
use Rattle.std.proofs.lemmas.List.Folds.{list_any-append}
use Rattle.plant_types.specs.declared.plan.PowerRow.{PowerRow}
use Rattle.plant_types.specs.declared.plan.ControllerPlan.{ControllerPlan}
use Rattle.scan_order.specs.declared.due.ScanStep.{ScanStep}
use Rattle.scan_order.specs.declared.due.ScanStep.TheVariants as steps
use Rattle.scan_order.specs.declared.power.ScanPower.{ScanPower}
use Rattle.scan_order.specs.declared.power.ScanPower.TheVariants as powers
use Rattle.scan_order.specs.Power.{is_dark_by, is_failure_in, power_by, power_in}
use Rattle.scan_order.specs.Due.{due_with, due, ends_scan, full_scan, input_of, input_steps}
use Rattle.scan_order.specs.Due.{is_failing}
use Rattle.scan_order.specs.Due.{last_by, output_of, output_steps, place_after, row_of, row_steps}
use Rattle.scan_order.specs.Due.{rows_from, step_with, up_to_failure}

-- ---- the rows of a plan have no last step

no_last-input : (drop : Option ℕ) (row : ℕ) → filter ends_scan (step_with drop (steps.In row)) ≡ []
no_last-input None row = refl
no_last-input (Some drop) row = refl

no_last-output : (drop : Option ℕ) (row : ℕ)
    → filter ends_scan (step_with drop (steps.Out row)) ≡ []
no_last-output None row = refl
no_last-output (Some drop) row = refl

no_last-row : (plan : ControllerPlan) (row : ℕ) → filter ends_scan (row_steps plan row) ≡ []
no_last-row plan row =
    filter-append ends_scan (input_steps plan row) (steps.Solve row ∷ output_steps plan row)
    ∙ ap (λ (l : List ScanStep). l ++ filter ends_scan (output_steps plan row))
    (no_last-input (input_of (row_of plan row)) row)
    ∙ no_last-output (output_of (row_of plan row)) row

no_last : (plan : ControllerPlan) (row n : ℕ)
    → filter ends_scan (flat_map (row_steps plan) (range_with_len row n)) ≡ []
no_last plan row zero = refl
no_last plan row (suc n) =
    filter-append ends_scan (row_steps plan row)
    (flat_map (row_steps plan) (range_with_len (row + 1) n))
    ∙ ap (λ (l : List ScanStep).
    l ++ filter ends_scan (flat_map (row_steps plan) (range_with_len (row + 1) n)))
    (no_last-row plan row)
    ∙ no_last plan (row + 1) n

-- ---- a failure within them

-- power that fails at a row fails behind this step
abbrev fails_here : ℕ → ScanStep → Bool
fails_here row step = is_failing row (place_after step)

none-two : (step : ScanStep) (xs : List ScanStep) (ends : Bool)
    → (if ends then step ∷ filter ends_scan xs else filter ends_scan xs) ≡ []
    → (ends ≡ false) × (filter ends_scan xs ≡ [])
none-two step xs true none = absurd cc
none-two step xs false none = (refl, none)

-- a step that is not a last one does not count
drop-first : (step : ScanStep) (xs : List ScanStep) → ends_scan step ≡ false
    → filter ends_scan (step ∷ xs) ≡ filter ends_scan xs
drop-first step xs no-last =
    ap (λ b. if b then step ∷ filter ends_scan xs else filter ends_scan xs) no-last

-- steps without a last one, in which power fails, end with Fail alone
cut-ends : (row : ℕ) (xs ys : List ScanStep) → filter ends_scan xs ≡ []
    → list_any (fails_here row) xs ≡ true
    → filter ends_scan (up_to_failure row (xs ++ ys)) ≡ steps.Fail ∷ []
unfolding up_to_failure
cut-ends row [] ys none any = absurd cc
cut-ends row (x ∷ xs) ys none any =
    let two = none-two x xs (ends_scan x) none in
    drop-first x
    (if fails_here row x then steps.Fail ∷ [] else up_to_failure row (xs ++ ys)) two.0
    ∙ by (fails_here row x) any (λ some. cut-ends row xs ys two.1 some)
  where
    by : (fails : Bool) → (fails || list_any (fails_here row) xs) ≡ true
        → (list_any (fails_here row) xs ≡ true
        → filter ends_scan (up_to_failure row (xs ++ ys)) ≡ steps.Fail ∷ [])
        → filter ends_scan (if fails then steps.Fail ∷ [] else up_to_failure row (xs ++ ys))
        ≡ steps.Fail ∷ []
    by true some later = refl
    by false some later = later some

or-right : (a b : Bool) → b ≡ true → (a || b) ≡ true
or-right true b is = refl
or-right false b is = is

-- power that fails at a row fails among the steps of that row
any-row : (plan : ControllerPlan) (row : ℕ) → list_any (fails_here row) (row_steps plan row) ≡ true
any-row plan row =
    list_any-append (fails_here row) (input_steps plan row)
    (steps.Solve row ∷ output_steps plan row)
    ∙ or-right (list_any (fails_here row) (input_steps plan row)) _
    (let same : (row == row) ≡ true = grind arith in
    ap (λ b. b || list_any (fails_here row) (output_steps plan row)) same)

either-row : (row at : ℕ) (same : Bool) → (at == row) ≡ same → at ≤ row
    → (at ≡ row) ⊎ (at + 1 ≤ row)
either-row row at true is h = inl (grind arith)
either-row row at false is h = inr (grind arith)

any-rows : (plan : ControllerPlan) (row at n : ℕ) → at ≤ row → row < at + n
    → list_any (fails_here row) (flat_map (row_steps plan) (range_with_len at n)) ≡ true
any-rows plan row at zero from to = absurd (omega arith)
any-rows plan row at (suc n) from to =
    list_any-append (fails_here row) (row_steps plan at)
    (flat_map (row_steps plan) (range_with_len (at + 1) n))
    ∙ elim (either-row row at (at == row) refl from) [
      | inl same ↦ ap (λ b. b || list_any (fails_here row)
          (flat_map (row_steps plan) (range_with_len (at + 1) n)))
          (ap (λ k. list_any (fails_here row) (row_steps plan k)) same ∙ any-row plan row)
      | inr later ↦ or-right (list_any (fails_here row) (row_steps plan at)) _
          (any-rows plan row (at + 1) n later (omega arith))
    ]

-- ---- by what becomes of the power

abbrev all_rows : ControllerPlan → List ScanStep
all_rows plan = flat_map (row_steps plan) (range_with_len 1 (suc (length plan.orders) - 1))

full-ends : (plan : ControllerPlan) → filter ends_scan (full_scan plan) ≡ steps.End ∷ []
unfolding rows_from
full-ends plan =
    filter-append ends_scan (all_rows plan) (steps.End ∷ [])
    ∙ ap (λ (l : List ScanStep). l ++ steps.End ∷ [])
    (no_last plan 1 (suc (length plan.orders) - 1))

some-row : (plan : ControllerPlan) (row : ℕ) → row ≤ length plan.orders
    → list_any (fails_here row) (steps.Begin ∷ all_rows plan) ≡ true
some-row plan zero within = refl
some-row plan (suc row) within =
    or-right (suc row == 0) _
    (any-rows plan (suc row) 1 (suc (length plan.orders) - 1) (omega arith) (omega arith))

fails-ends : (plan : ControllerPlan) (row : ℕ) → row ≤ length plan.orders
    → filter ends_scan (up_to_failure row (full_scan plan)) ≡ steps.Fail ∷ []
unfolding rows_from
fails-ends plan row within =
    cut-ends row (steps.Begin ∷ all_rows plan) (steps.End ∷ [])
    (no_last plan 1 (suc (length plan.orders) - 1)) (some-row plan row within)

-- a row at which power fails is one of the plan, or 0
abbrev FailsWithin : ControllerPlan → ScanPower → Type 0
FailsWithin plan powers.Stays = Unit {0}
FailsWithin plan (powers.Fails row) = row ≤ length plan.orders
FailsWithin plan powers.Dark = Unit {0}

and-right : (same : Bool) (row orders : ℕ) → (same && nat_le row orders) ≡ true → row ≤ orders
and-right true row orders le = grind arith
and-right false row orders le = absurd cc

found-within : (plan : ControllerPlan) (scan : ℕ) (dark : Bool) (rows : List PowerRow)
    → FailsWithin plan (power_by (find (is_failure_in (length plan.orders) scan) rows) dark)
found-within plan scan true [] = tt
found-within plan scan false [] = tt
found-within plan scan dark (row ∷ rows) =
    by (is_failure_in (length plan.orders) scan row) refl (found-within plan scan dark rows)
  where
    by : (named : Bool) → is_failure_in (length plan.orders) scan row ≡ named
        → FailsWithin plan (power_by (find (is_failure_in (length plan.orders) scan) rows) dark)
        → FailsWithin plan (power_by (if named then Some row
        else find (is_failure_in (length plan.orders) scan) rows) dark)
    by true is later = and-right (row.scan == scan) row.row (length plan.orders) is
    by false is later = later

fails-within : (plan : ControllerPlan) (scan : ℕ) → FailsWithin plan (power_in plan scan)
unfolding power_in
fails-within plan scan =
    found-within plan scan (list_any (is_dark_by scan) plan.power) plan.power

ends-by : (plan : ControllerPlan) (power : ScanPower) → FailsWithin plan power
    → filter ends_scan (due_with plan power) ≡ last_by power ∷ []
ends-by plan powers.Stays within = full-ends plan
ends-by plan (powers.Fails row) within = fails-ends plan row within
ends-by plan powers.Dark within = refl

pub ends-once : (plan : ControllerPlan) (scan : ℕ)
    → filter ends_scan (due plan scan) ≡ last_by (power_in plan scan) ∷ []
ends-once plan scan = ends-by plan (power_in plan scan) (fails-within plan scan)
