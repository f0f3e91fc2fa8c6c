-- What stands first in the steps from a row on.
use Rattle.std.proofs.Common.{◌≡◌, ◌≤◌, ◌<◌, ℕ, suc, ◌+◌, ◌-◌, [], ◌∷◌, ◌++◌, length, Some, None}
use Rattle.std.proofs.Common.{Option, Bool, true, false, List, refl, sym, ap, ◌∙◌}
use Rattle.std.proofs.Common.{subst, arith, append_assoc, inl, inr}
use Rattle.std.specs.Prelude.{fold, if◌then◌else◌}
use Rattle.std.specs.List.{flat_map, range_with_len}
use Rattle.std.proofs.lemmas.Option.{slice_get_cases}
use Rattle.plant_types.specs.declared.plan.ControllerPlan.{ControllerPlan}
use Rattle.scan_order.specs.declared.due.ScanPlace.TheVariants as places
use Rattle.scan_order.specs.declared.due.ScanStep.TheVariants as steps
use Rattle.scan_order.specs.declared.due.ScanPlace.{ScanPlace}
use Rattle.scan_order.specs.declared.due.ScanStep.{ScanStep}
use Rattle.scan_order.specs.Due.{row_of, input_of, output_of, step_with, row_steps, output_steps}
use Rattle.scan_order.specs.Due.{rows_from, full_scan, ends_scan, place_after, place_behind}
use Rattle.scan_order.specs.Due.{IsPlace, IsStep}

-- what is left of a scan with power behind a place, and behind a step
abbrev pub full_after : ControllerPlan → ScanPlace → List ScanStep
full_after plan places.Start = full_scan plan
full_after plan places.Began = rows_from plan 1
full_after plan (places.DidIn row) =
    steps.Solve row ∷ (output_steps plan row ++ rows_from plan (row + 1))
full_after plan (places.DidSolve row) = output_steps plan row ++ rows_from plan (row + 1)
full_after plan (places.DidOut row) = rows_from plan (row + 1)

abbrev pub full_rest : ControllerPlan → ScanStep → List ScanStep
full_rest plan step = if ends_scan step then [] else full_after plan (place_after step)

-- a list with a step in it is not empty
pub some-behind : (before : List ScanStep) (next : ScanStep) (after : List ScanStep)
    → before ++ next ∷ after ≡ [] → ⊥
some-behind [] next after none = cc
some-behind (x ∷ before) next after none = cc

-- the steps from a row of the plan on are those of the row, and those from the next row on
pub rows_from-row : (plan : ControllerPlan) (row : ℕ) → row ≤ length plan.orders
    → rows_from plan row ≡ row_steps plan row ++ rows_from plan (row + 1)
unfolding rows_from
rows_from-row plan row h =
    let count : suc (length plan.orders) - row ≡ suc (length plan.orders - row) = omega arith in
    let next : length plan.orders - row ≡ suc (length plan.orders) - (row + 1) = omega arith in
    let f = row_steps plan in
    ap (λ n. flat_map f (range_with_len row n) ++ steps.End ∷ []) count
    ∙ append_assoc (f row) (flat_map f (range_with_len (row + 1) (length plan.orders - row)))
    (steps.End ∷ [])
    ∙ ap (λ n. f row ++ (flat_map f (range_with_len (row + 1) n) ++ steps.End ∷ [])) next

-- behind the last row is the end
pub rows_from-end : (plan : ControllerPlan) (row : ℕ) → length plan.orders < row
    → rows_from plan row ≡ steps.End ∷ []
unfolding rows_from
rows_from-end plan row h =
    let count : suc (length plan.orders) - row ≡ 0 = omega arith in
    ap (λ n. flat_map (row_steps plan) (range_with_len row n) ++ steps.End ∷ []) count

-- the steps of a row that names an input drop begin with its In
pub rows_from-in : (plan : ControllerPlan) (row drop : ℕ) → row ≤ length plan.orders
    → input_of (row_of plan row) ≡ Some drop
    → rows_from plan row ≡ steps.In row ∷ full_after plan (places.DidIn row)
rows_from-in plan row drop h named =
    rows_from-row plan row h
    ∙ ap (λ d. (step_with d (steps.In row) ++ (steps.Solve row ∷ output_steps plan row))
    ++ rows_from plan (row + 1)) named

-- and those of a row that names none with its Solve
pub rows_from-solve : (plan : ControllerPlan) (row : ℕ) → row ≤ length plan.orders
    → input_of (row_of plan row) ≡ None
    → rows_from plan row ≡ steps.Solve row ∷ full_after plan (places.DidSolve row)
rows_from-solve plan row h none =
    rows_from-row plan row h
    ∙ ap (λ d. (step_with d (steps.In row) ++ (steps.Solve row ∷ output_steps plan row))
    ++ rows_from plan (row + 1)) none

-- where there is no row, all rows are before
pub past_rows : (plan : ControllerPlan) (row : ℕ) → row_of plan row ≡ None → 1 ≤ row
    → length plan.orders < row
past_rows plan row none from =
    elim (slice_get_cases plan.orders (row - 1)).1 [
      | inl there ↦ absurd (let some = sym none ∙ there.2 in cc)
      | inr past ↦ omega arith
    ]

-- ---- what stands first

-- a step of the plan stands first in a list, and behind it is what is left behind it
pub record StandsFirst (plan : ControllerPlan) (list : List ScanStep) : Type 0 where
  pub step : ScanStep
  pub is : IsStep plan step
  pub first : list ≡ step ∷ full_rest plan step

rows-first : (plan : ControllerPlan) (row : ℕ) → 1 ≤ row → StandsFirst plan (rows_from plan row)
rows-first plan row from =
    elim (slice_get_cases plan.orders (row - 1)).1 [
      | inl there ↦ by (input_of (row_of plan row)) refl (omega (arith, there.1))
      | inr past ↦
          record { step = steps.End; is = tt; first = rows_from-end plan row (omega arith) }
    ]
  where
    by : (drop : Option ℕ) → input_of (row_of plan row) ≡ drop → row ≤ length plan.orders
        → StandsFirst plan (rows_from plan row)
    by None none h = record
        { step = steps.Solve row; is = (from, h); first = rows_from-solve plan row h none }
    by (Some drop) named h = record
        { step = steps.In row; is = (from, h); first = rows_from-in plan row drop h named }

outputs-first : (plan : ControllerPlan) (row : ℕ) → 1 ≤ row → row ≤ length plan.orders
    → StandsFirst plan (output_steps plan row ++ rows_from plan (row + 1))
outputs-first plan row from to = by (output_of (row_of plan row))
  where
    by : (drop : Option ℕ)
        → StandsFirst plan (step_with drop (steps.Out row) ++ rows_from plan (row + 1))
    by None = rows-first plan (row + 1) (omega arith)
    by (Some drop) = record { step = steps.Out row; is = (from, to); first = refl }

pub full-first : (plan : ControllerPlan) (at : ScanPlace) → IsPlace plan at
    → StandsFirst plan (full_after plan at)
full-first plan places.Start is = record { step = steps.Begin; is = tt; first = refl }
full-first plan places.Began is = rows-first plan 1 (omega arith)
full-first plan (places.DidIn row) is = record { step = steps.Solve row; is = is; first = refl }
full-first plan (places.DidSolve row) is = outputs-first plan row is.0 is.1
full-first plan (places.DidOut row) is = rows-first plan (row + 1) (omega arith)

-- ---- where first steps lead

-- behind first steps is left what is left behind the place that they lead to, and that is one of
-- the plan
pub record LeadsTo (plan : ControllerPlan) (at : ScanPlace) (rest : List ScanStep) : Type 0 where
  pub place : IsPlace plan at
  pub left : full_after plan at ≡ rest

walked : (plan : ControllerPlan) (at : ScanPlace) (before : List ScanStep) (next : ScanStep)
    (after : List ScanStep) → IsPlace plan at → before ++ next ∷ after ≡ full_after plan at
    → LeadsTo plan (fold (λ at step. place_after step) at before) (next ∷ after)
walked plan at [] next after place same = record { place = place; left = sym same }
walked plan at (x ∷ before) next after place same =
    let first = full-first plan at place in
    let whole : x ∷ (before ++ next ∷ after) ≡ first.step ∷ full_rest plan first.step =
    same ∙ first.first in
    let is : x ≡ first.step = cc in
    let rest : before ++ next ∷ after ≡ full_rest plan first.step = cc in
    let behind : before ++ next ∷ after ≡ full_rest plan x = rest ∙ ap (full_rest plan) (sym is) in
    by (ends_scan x) behind
    (λ more. walked plan (place_after x) before next after
    (subst (λ (s : ScanStep). IsStep plan s) (sym is) first.is) more)
  where
    by : (ends : Bool)
        → before ++ next ∷ after ≡ (if ends then [] else full_after plan (place_after x))
        → (before ++ next ∷ after ≡ full_after plan (place_after x)
        → LeadsTo plan (fold (λ at step. place_after step) (place_after x) before) (next ∷ after))
        → LeadsTo plan (fold (λ at step. place_after step) (place_after x) before) (next ∷ after)
    by true none more = absurd (some-behind before next after none)
    by false rest more = more rest

pub full-leads : (plan : ControllerPlan) (before : List ScanStep) (next : ScanStep)
    (after : List ScanStep) → before ++ next ∷ after ≡ full_scan plan
    → LeadsTo plan (place_behind before) (next ∷ after)
full-leads plan before next after same = walked plan places.Start before next after tt same

-- first steps of a scan with power lead to a place of the plan
ended-place : (plan : ControllerPlan) (at : ScanPlace) (before rest : List ScanStep)
    → IsPlace plan at → before ++ rest ≡ []
    → IsPlace plan (fold (λ at step. place_after step) at before)
ended-place plan at [] rest place none = place
ended-place plan at (x ∷ before) rest place none = absurd cc

placed : (plan : ControllerPlan) (at : ScanPlace) (before rest : List ScanStep) → IsPlace plan at
    → before ++ rest ≡ full_after plan at
    → IsPlace plan (fold (λ at step. place_after step) at before)
placed plan at [] rest place same = place
placed plan at (x ∷ before) rest place same =
    let first = full-first plan at place in
    let whole : x ∷ (before ++ rest) ≡ first.step ∷ full_rest plan first.step =
    same ∙ first.first in
    let is : first.step ≡ x = cc in
    let behind : before ++ rest ≡ full_rest plan first.step = cc in
    let step = subst (λ (s : ScanStep). IsStep plan s) is first.is in
    by (ends_scan x) step (behind ∙ ap (full_rest plan) is)
    (λ more. placed plan (place_after x) before rest step more)
  where
    by : (ends : Bool) → IsStep plan x
        → before ++ rest ≡ (if ends then [] else full_after plan (place_after x))
        → (before ++ rest ≡ full_after plan (place_after x)
        → IsPlace plan (fold (λ at step. place_after step) (place_after x) before))
        → IsPlace plan (fold (λ at step. place_after step) (place_after x) before)
    by true step none more = ended-place plan (place_after x) before rest step none
    by false step behind more = more behind

pub full-placed : (plan : ControllerPlan) (before rest : List ScanStep)
    → before ++ rest ≡ full_scan plan → IsPlace plan (place_behind before)
full-placed plan before rest same = placed plan places.Start before rest tt same
