-- What first steps of a due list tell of the place that they lead to.
use Rattle.std.proofs.Common.{◌≡◌, ◌⊎◌, ℕ, true, List, [], ◌∷◌, ◌++◌, refl, sym, ap, subst, ◌∙◌}
use Rattle.std.proofs.Common.{append_assoc, inl, inr}
use Rattle.std.specs.Prelude.{fold, if◌then◌else◌}
use Rattle.plant_types.specs.declared.plan.ControllerPlan.{ControllerPlan}
use Rattle.scan_order.specs.declared.due.ScanPlace.{ScanPlace}
use Rattle.scan_order.specs.declared.due.ScanPlace.TheVariants as places
use Rattle.scan_order.specs.declared.due.ScanStep.{ScanStep}
use Rattle.scan_order.specs.declared.due.ScanStep.TheVariants as steps
use Rattle.scan_order.specs.declared.power.ScanPower.{ScanPower}
use Rattle.scan_order.specs.declared.power.ScanPower.TheVariants as powers
use Rattle.scan_order.specs.Power.{power_in}
use Rattle.scan_order.specs.Due.{due, due_with, ends_scan, is_failing, place_after, place_behind}
use Rattle.scan_order.specs.Due.{rows_from, up_to_failure}
use Rattle.scan_order.proofs.Powers.{on-way}

-- something is due in each scan
pub record HasFirst (list : List ScanStep) : Type 0 where
  pub first : ScanStep
  pub rest : List ScanStep
  pub is : list ≡ first ∷ rest

first-by : (plan : ControllerPlan) (power : ScanPower) → HasFirst (due_with plan power)
unfolding up_to_failure
first-by plan powers.Stays = record { first = steps.Begin; rest = rows_from plan 1; is = refl }
first-by plan (powers.Fails row) = record {
  first = steps.Begin;
  rest = if is_failing row places.Began then steps.Fail ∷ []
      else up_to_failure row (rows_from plan 1);
  is = refl;
}
first-by plan powers.Dark = record { first = steps.Dark; rest = []; is = refl }

pub due-first : (plan : ControllerPlan) (scan : ℕ) → HasFirst (due plan scan)
due-first plan scan = first-by plan (power_in plan scan)

-- just the steps that end a scan lead to Start
pub start-behind : (step : ScanStep) → ends_scan step ≡ true → place_after step ≡ places.Start
start-behind steps.Begin ends = absurd cc
start-behind (steps.In row) ends = absurd cc
start-behind (steps.Solve row) ends = absurd cc
start-behind (steps.Out row) ends = absurd cc
start-behind steps.End ends = refl
start-behind steps.Fail ends = refl
start-behind steps.Dark ends = refl

ends-there : (step : ScanStep) → place_after step ≡ places.Start → ends_scan step ≡ true
ends-there steps.Begin start = absurd cc
ends-there (steps.In row) start = absurd cc
ends-there (steps.Solve row) start = absurd cc
ends-there (steps.Out row) start = absurd cc
ends-there steps.End start = refl
ends-there steps.Fail start = refl
ends-there steps.Dark start = refl

-- steps that lead to Start are none, or the last of them ends a scan
record HasLast (before : List ScanStep) : Type 0 where
  pub front : List ScanStep
  pub last : ScanStep
  pub is : before ≡ front ++ last ∷ []
  pub ends : ends_scan last ≡ true

last-of : (step : ScanStep) (before : List ScanStep)
    → fold (λ at step. place_after step) (place_after step) before ≡ places.Start
    → HasLast (step ∷ before)
last-of step [] start =
    record { front = []; last = step; is = refl; ends = ends-there step start }
last-of step (x ∷ before) start =
    let more = last-of x before start in
    record {
      front = step ∷ more.front;
      last = more.last;
      is = ap (λ (l : List ScanStep). step ∷ l) more.is;
      ends = more.ends;
    }

-- where some steps of a scan are left, those before them lead to Start only if there are none
pub none-before : (plan : ControllerPlan) (scan : ℕ) (before : List ScanStep) (next : ScanStep)
    (after : List ScanStep) → before ++ next ∷ after ≡ due plan scan
    → place_behind before ≡ places.Start → before ≡ []
none-before plan scan [] next after same start = refl
none-before plan scan (x ∷ before) next after same start =
    let has = last-of x before start in
    let split : has.front ++ has.last ∷ (next ∷ after) ≡ due plan scan =
    sym (append_assoc has.front (has.last ∷ []) (next ∷ after))
    ∙ ap (λ (l : List ScanStep). l ++ next ∷ after) (sym has.is) ∙ same in
    let none : next ∷ after ≡ [] =
    (on-way plan scan has.front has.last (next ∷ after) split).last.0 has.ends in
    absurd cc
