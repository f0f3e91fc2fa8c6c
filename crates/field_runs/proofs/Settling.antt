-- What a scan that ends leaves of the discretes that are kept and of the message blocks.
use Rattle.std.proofs.Common.{◌≡◌, ℕ, suc, ◌-◌, ◌≤◌, Bool, true, false, ◌==◌, List, [], ◌∷◌}
use Rattle.std.proofs.Common.{◌++◌, Option, Some, None, refl, sym, ap, ◌∙◌, subst, length, zero}
use Rattle.std.specs.Prelude.{if◌then◌else◌, slice_get}
use Rattle.std.specs.List.{AllByRecursion, flat_map, range_with_len}
use Rattle.std.proofs.lemmas.Bool.{eq-eqb}
use Rattle.plant_types.specs.declared.drops.IoDrop.{IoDrop}
use Rattle.plant_types.specs.declared.plan.ControllerPlan.{ControllerPlan}
use Rattle.plant_types.specs.declared.plan.OrderRow.{OrderRow}
use Rattle.plant_types.specs.Checks.{sizes_of}
use Rattle.plant_types.specs.Discretes.{discretes_on, DiscretesAreOn}
use Rattle.plant_types.specs.Sizes.{discretes, discretes_of, DiscretesFollow}
use Rattle.plant_types.specs.declared.sizes.Sizes.{Sizes}
use Rattle.scan_order.specs.declared.due.ScanStep.{ScanStep}
use Rattle.scan_order.specs.declared.due.ScanStep.TheVariants as steps
use Rattle.scan_order.specs.Due.{full_scan, rows_from, row_steps, input_steps, output_steps}
use Rattle.scan_order.specs.Due.{step_with, input_of, output_of, row_of}
use Rattle.traffic_cop.specs.Rows.{FitsPlan, IsRunnablePlan}
use Rattle.alike_states.specs.Alone.{HasNoMessages, TablesStayAlone}
use Rattle.controller_core.specs.declared.fixed.Fixed.{Fixed}
use Rattle.controller_core.specs.Replay.{ControllerState, control_is_on, solved, segment_solved}
use Rattle.controller_core.specs.Replay.{table_of}
use Rattle.field_runs.specs.Scan.{brought_to, stepped_with, told_first, told_behind, behind_steps}
use Rattle.field_runs.specs.Scan.{scanned}
use Rattle.field_runs.specs.Alike.{ScansSettle}

-- ---- message blocks

-- a step with which power fails
abbrev is_failure : ScanStep → Bool
is_failure steps.Fail = true
is_failure step = false

abbrev IsNoFailure : ScanStep → Type 0
IsNoFailure step = is_failure step ≡ false

abbrev NoFailures : List ScanStep → Type 0
NoFailures due = AllByRecursion IsNoFailure due

both : (xs ys : List ScanStep) → NoFailures xs → NoFailures ys → NoFailures (xs ++ ys)
both [] ys a b = b
both (x ∷ xs) ys a b = (a.0, both xs ys a.1 b)

with-drop : (drop : Option ℕ) (step : ScanStep) → IsNoFailure step → NoFailures (step_with drop step)
with-drop None step fine = tt
with-drop (Some d) step fine = (fine, tt)

in-row : (plan : ControllerPlan) (row : ℕ) → NoFailures (row_steps plan row)
in-row plan row =
    both (input_steps plan row) (steps.Solve row ∷ output_steps plan row)
    (with-drop (input_of (row_of plan row)) (steps.In row) refl)
    (refl, with-drop (output_of (row_of plan row)) (steps.Out row) refl)

in-rows : (plan : ControllerPlan) (rows : List ℕ) → NoFailures (flat_map (row_steps plan) rows)
in-rows plan [] = tt
in-rows plan (row ∷ rows) =
    both (row_steps plan row) (flat_map (row_steps plan) rows) (in-row plan row) (in-rows plan rows)

in-scan : (plan : ControllerPlan) → NoFailures (full_scan plan)
unfolding rows_from
in-scan plan = (
  refl,
  both (flat_map (row_steps plan) (range_with_len 1 (suc (length plan.orders) - 1)))
      (steps.End ∷ []) (in-rows plan (range_with_len 1 (suc (length plan.orders) - 1))) (refl, tt),
)

-- what holds of all holds of the one at a place
pub all-get : {X : Type 0} (P : X → Type 0) (xs : List X) (i : ℕ) (x : X) → AllByRecursion P xs
    → slice_get xs i ≡ Some x → P x
all-get P [] i x all is = absurd (let no' : None ≡ Some x = is in cc)
all-get P (y ∷ xs) zero x all is =
    let same : Some y ≡ Some x = is in
    let e : y ≡ x = cc in
    subst P e all.0
all-get P (y ∷ xs) (suc i) x all is = all-get P xs i x all.1 is

module _ (tables : TablesStayAlone) (fixed : Fixed) (runs : IsRunnablePlan fixed.plan)
    (alone : HasNoMessages fixed.plan.segments) where
  controlled : (row : OrderRow) (s : ControllerState) (b : Bool) → 1 ≤ row.segment
      → table_of (if b then segment_solved fixed.plan.segments row.segment s else s) ≡ table_of s
  controlled row s true from = tables fixed.plan.segments row.segment s.solving alone from
  controlled row s false from = refl

  solved-table : (found : Option OrderRow) (s : ControllerState)
      → ((row : OrderRow) → found ≡ Some row → 1 ≤ row.segment)
      → table_of (solved fixed.plan.segments found s) ≡ table_of s
  solved-table None s from = refl
  solved-table (Some row) s from =
      controlled row s (control_is_on s.solving.map row.control) (from row refl)

  read-table : (drops : List IoDrop) (drop : Option ℕ) (row : ℕ) (s : ControllerState)
      → table_of (brought_to drops drop row s) ≡ table_of s
  read-table drops None row s = refl
  read-table drops (Some drop) row s = refl

  step-table : (brought : ℕ) (s : ControllerState) (step : ScanStep) → IsNoFailure step
      → table_of (stepped_with fixed brought s step) ≡ table_of s
  step-table brought s steps.Begin fine = refl
  step-table brought s (steps.In row) fine =
      read-table fixed.plan.drops (input_of (row_of fixed.plan row)) brought s
  step-table brought s (steps.Solve row) fine =
      solved-table (row_of fixed.plan row) s
      (λ found is. (all-get (FitsPlan fixed.plan) fixed.plan.orders (row - 1) found runs.rows is).from)
  step-table brought s (steps.Out row) fine = refl
  step-table brought s steps.End fine = refl
  step-table brought s steps.Fail fine = absurd (let no' : true ≡ false = fine in cc)
  step-table brought s steps.Dark fine = refl

  if-table : (s x : ControllerState) (b : Bool) → table_of x ≡ table_of s
      → table_of (if b then x else s) ≡ table_of s
  if-table s x true same = same
  if-table s x false same = refl

  steps-table : (rows : List ℕ) (s : ControllerState) (due : List ScanStep) → NoFailures due
      → table_of (behind_steps fixed rows s due) ≡ table_of s
  unfolding behind_steps
  steps-table rows s [] fine = refl
  steps-table rows s (step ∷ due) fine =
      if-table s _ (s.stop == 0)
      (steps-table (told_behind step rows) (stepped_with fixed (told_first rows) s step) due fine.1
      ∙ step-table (told_first rows) s step fine.0)

-- ---- the discretes that are kept

abbrev Kept : Sizes → ControllerState → Type 0
Kept sizes s = s.solving.past ≡ discretes_on (discretes sizes s.solving.map)

if-kept : (sizes : Sizes) (s x : ControllerState) (b : Bool) → (s.stop == 0) ≡ b
    → (x.stop ≡ 0 → Kept sizes x) → (if b then x else s).stop ≡ 0
    → Kept sizes (if b then x else s)
if-kept sizes s x true is kept goes = kept goes
if-kept sizes s x false is kept goes =
    absurd (let no' : true ≡ false = sym (eq-eqb s.stop 0 goes) ∙ is in cc)

steps-kept : (fixed : Fixed) (rows : List ℕ) (s : ControllerState) (front : List ScanStep)
    → (behind_steps fixed rows s (front ++ steps.End ∷ [])).stop ≡ 0
    → Kept (sizes_of fixed.plan) (behind_steps fixed rows s (front ++ steps.End ∷ []))
unfolding behind_steps
steps-kept fixed rows s [] goes =
    if-kept (sizes_of fixed.plan) s (stepped_with fixed (told_first rows) s steps.End)
    (s.stop == 0) refl (λ h. refl) goes
steps-kept fixed rows s (step ∷ front) goes =
    if-kept (sizes_of fixed.plan) s
    (behind_steps fixed (told_behind step rows) (stepped_with fixed (told_first rows) s step)
    (front ++ steps.End ∷ []))
    (s.stop == 0) refl
    (steps-kept fixed (told_behind step rows) (stepped_with fixed (told_first rows) s step) front)
    goes

scan-kept : (fixed : Fixed) (rows : List ℕ) (s : ControllerState) → (scanned fixed rows s).stop ≡ 0
    → Kept (sizes_of fixed.plan) (scanned fixed rows s)
unfolding rows_from
scan-kept fixed rows s goes =
    steps-kept fixed rows s (steps.Begin ∷ flat_map (row_steps fixed.plan)
    (range_with_len 1 (suc (length fixed.plan.orders) - 1))) goes

pub settle : TablesStayAlone → DiscretesFollow → DiscretesAreOn → ScansSettle
settle tables follow on = record {
  starts = λ plan. record {
    kept = sym (ap discretes_on (follow.fresh (sizes_of plan)) ∙ on.fresh (discretes_of (sizes_of plan)));
    blocks = refl;
  };
  scans = λ fixed rows s runs alone settled goes. record {
    kept = scan-kept fixed rows s goes;
    blocks = steps-table tables fixed runs alone rows s (full_scan fixed.plan) (in-scan fixed.plan)
        ∙ settled.blocks;
  };
}
