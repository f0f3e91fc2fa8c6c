-- What stands behind first steps of a due list, by what becomes of the power.
use Rattle.std.proofs.Common.{◌≡◌, ◌↔◌, ◌⊎◌, ℕ, Bool, true, false, List, [], ◌∷◌, ◌++◌, refl, sym}
use Rattle.std.proofs.Common.{ap, subst, ◌∙◌, inl, inr}
use Rattle.std.specs.Prelude.{fold, if◌then◌else◌}
use Rattle.plant_types.specs.declared.plan.ControllerPlan.{ControllerPlan}
use Rattle.scan_order.specs.declared.due.ScanPlace.{ScanPlace}
use Rattle.scan_order.specs.declared.due.ScanPlace.TheVariants as places
use Rattle.scan_order.specs.declared.due.ScanStep.{ScanStep}
use Rattle.scan_order.specs.declared.due.ScanStep.TheVariants as steps
use Rattle.scan_order.specs.declared.power.ScanPower.{ScanPower}
use Rattle.scan_order.specs.declared.power.ScanPower.TheVariants as powers
use Rattle.scan_order.specs.Power.{power_in}
use Rattle.scan_order.specs.Due.{full_scan, up_to_failure, is_failing, due, due_with, place_after}
use Rattle.scan_order.specs.Due.{place_behind, ends_scan, IsFirst, IsNextOf, IsPlace, IsStep}
use Rattle.scan_order.proofs.Rows.{full_after, full_rest, full-first, full-leads, full-placed}
use Rattle.scan_order.proofs.Rows.{some-behind}

-- behind a place where power fails stands the failure alone, and else what stands in the whole
-- list, up to a failure
abbrev pub cut_at : ℕ → ScanPlace → List ScanStep → List ScanStep
cut_at row at list = if is_failing row at then steps.Fail ∷ [] else up_to_failure row list

pub record IsCut (row : ℕ) (at : ScanPlace) (before : List ScanStep) (next : ScanStep)
    (after list : List ScanStep) : Type 0 where
  pub fails : is_failing row at ≡ true
  pub rest : List ScanStep
  pub whole : before ++ rest ≡ list
  pub fail : next ≡ steps.Fail
  pub none : after ≡ []

pub record IsUncut (row : ℕ) (at : ScanPlace) (before : List ScanStep) (next : ScanStep)
    (after list : List ScanStep) : Type 0 where
  pub stays : is_failing row at ≡ false
  pub more : List ScanStep
  pub whole : before ++ next ∷ more ≡ list
  pub cut : after ≡ cut_at row (place_after next) more

cut-first : (row : ℕ) (at : ScanPlace) (next : ScanStep) (after list : List ScanStep)
    → is_failing row at ≡ false → next ∷ after ≡ up_to_failure row list
    → IsUncut row at [] next after list
unfolding up_to_failure
cut-first row at next after [] stays cut = absurd cc
cut-first row at next after (x ∷ list) stays cut =
    let is : next ≡ x = cc in
    let behind : after ≡ cut_at row (place_after x) list = cc in
    record {
      stays = stays;
      more = list;
      whole = ap (λ (s : ScanStep). s ∷ list) is;
      cut = behind ∙ ap (λ (s : ScanStep). cut_at row (place_after s) list) (sym is);
    }

-- first steps of a list that is cut by a failure lead to the failure, or stand so in the whole list
cut-split : (row : ℕ) (at : ScanPlace) (before : List ScanStep) (next : ScanStep)
    (after list : List ScanStep) → before ++ next ∷ after ≡ cut_at row at list
    → IsCut row (fold (λ at step. place_after step) at before) before next after list
    ⊎ IsUncut row (fold (λ at step. place_after step) at before) before next after list
unfolding up_to_failure
cut-split row at [] next after list same = here (is_failing row at) refl same
  where
    here : (b : Bool) → is_failing row at ≡ b
        → next ∷ after ≡ (if b then steps.Fail ∷ [] else up_to_failure row list)
        → IsCut row at [] next after list ⊎ IsUncut row at [] next after list
    here true fails cut =
        inl (record { fails = fails; rest = list; whole = refl; fail = cc; none = cc })
    here false stays cut = inr (cut-first row at next after list stays cut)
cut-split row at (x ∷ before) next after list same =
    within (is_failing row at) list same
    (λ rest cut. cut-split row (place_after x) before next after rest cut)
  where
    to : ScanPlace
    to = fold (λ at step. place_after step) (place_after x) before

    Both : List ScanStep → List ScanStep → Type 0
    Both front rest = IsCut row to front next after rest ⊎ IsUncut row to front next after rest

    Later : Type 0
    Later = (rest : List ScanStep) → before ++ next ∷ after ≡ cut_at row (place_after x) rest
        → Both before rest

    more : (y : ScanStep) (rest : List ScanStep) → x ≡ y → Both before rest
        → Both (x ∷ before) (y ∷ rest)
    more y rest is both = elim both [
      | inl off ↦ inl (record {
        fails = off.fails;
        rest = off.rest;
        whole = ap (λ (s : ScanStep). s ∷ (before ++ off.rest)) is
            ∙ ap (λ (l : List ScanStep). y ∷ l) off.whole;
        fail = off.fail;
        none = off.none;
      })
      | inr on ↦ inr (record {
        stays = on.stays;
        more = on.more;
        whole = ap (λ (s : ScanStep). s ∷ (before ++ next ∷ on.more)) is
            ∙ ap (λ (l : List ScanStep). y ∷ l) on.whole;
        cut = on.cut;
      })
    ]

    within : (b : Bool) (l : List ScanStep)
        → x ∷ (before ++ next ∷ after) ≡ (if b then steps.Fail ∷ [] else up_to_failure row l)
        → Later → Both (x ∷ before) l
    within true l cut later =
        let none : before ++ next ∷ after ≡ [] = cc in absurd (some-behind before next after none)
    within false [] none later = absurd cc
    within false (y ∷ rest) cut later =
        let is : x ≡ y = cc in
        let behind : before ++ next ∷ after ≡ cut_at row (place_after y) rest = cc in
        more y rest is
        (later rest (behind ∙ ap (λ (s : ScanStep). cut_at row (place_after s) rest) (sym is)))

-- ---- in a scan

-- behind a step of a scan with power is what is left behind it
record IsWithin (plan : ControllerPlan) (next : ScanStep) (after : List ScanStep) : Type 0 where
  pub step : IsStep plan next
  pub rest : after ≡ full_rest plan next

full-within : (plan : ControllerPlan) (before : List ScanStep) (next : ScanStep)
    (after : List ScanStep) → before ++ next ∷ after ≡ full_scan plan → IsWithin plan next after
full-within plan before next after same =
    let leads = full-leads plan before next after same in
    let first = full-first plan (place_behind before) leads.place in
    let both : next ∷ after ≡ first.step ∷ full_rest plan first.step =
    sym leads.left ∙ first.first in
    let is : first.step ≡ next = cc in
    let rest : after ≡ full_rest plan first.step = cc in
    record {
      step = subst (λ (s : ScanStep). IsStep plan s) is first.is;
      rest = rest ∙ ap (full_rest plan) is;
    }

-- a step ends the scan just where nothing stands behind it
abbrev EndsLast : ScanStep → List ScanStep → Type 0
EndsLast step after = ends_scan step ≡ true ↔ after ≡ []

full-last : (plan : ControllerPlan) (before : List ScanStep) (next : ScanStep)
    (after : List ScanStep) → before ++ next ∷ after ≡ full_scan plan → EndsLast next after
full-last plan before next after same =
    let within = full-within plan before next after same in
    let next-first = full-first plan (place_after next) within.step in (
      (λ ends. within.rest
          ∙ ap (λ b. if b then [] else full_after plan (place_after next)) ends),
      λ none. by next-first.step (full_rest plan next-first.step) next-first.first
          (ends_scan next) refl (sym within.rest ∙ none),
    )
  where
    by : (s : ScanStep) (rest : List ScanStep) → full_after plan (place_after next) ≡ s ∷ rest
        → (b : Bool) → ends_scan next ≡ b
        → (if b then [] else full_after plan (place_after next)) ≡ [] → ends_scan next ≡ true
    by s rest some true ends none = ends
    by s rest some false ends none = absurd (let no : s ∷ rest ≡ [] = sym some ∙ none in cc)

-- power fails behind no step that ends a scan
no-failure : (row : ℕ) (step : ScanStep) → ends_scan step ≡ true
    → is_failing row (place_after step) ≡ false
no-failure row steps.Begin ends = absurd cc
no-failure row (steps.In at) ends = absurd cc
no-failure row (steps.Solve at) ends = absurd cc
no-failure row (steps.Out at) ends = absurd cc
no-failure row steps.End ends = refl
no-failure row steps.Fail ends = refl
no-failure row steps.Dark ends = refl

-- a cut is empty where the whole list is, and power does not fail
cut-none : (row : ℕ) (at : ScanPlace) (list : List ScanStep) → cut_at row at list ≡ []
    → list ≡ []
unfolding up_to_failure
cut-none row at list none = by (is_failing row at) none
  where
    within : (l : List ScanStep) → up_to_failure row l ≡ [] → l ≡ []
    within [] none = refl
    within (x ∷ l) none = absurd cc

    by : (b : Bool) → (if b then steps.Fail ∷ [] else up_to_failure row list) ≡ [] → list ≡ []
    by true none = absurd cc
    by false none = within list none

cut-last : (row : ℕ) (next : ScanStep) (after more : List ScanStep) → EndsLast next more
    → after ≡ cut_at row (place_after next) more → EndsLast next after
unfolding up_to_failure
cut-last row next after more last is = (
  (λ ends. is ∙ ap (λ b. if b then steps.Fail ∷ [] else up_to_failure row more)
      (no-failure row next ends) ∙ ap (up_to_failure row) (last.0 ends)),
  λ none. last.1 (cut-none row (place_after next) more (sym is ∙ none)),
)

-- what holds of first steps of a due list, whatever becomes of the power
pub record IsOnWay (plan : ControllerPlan) (before : List ScanStep) (next : ScanStep)
    (after : List ScanStep) : Type 0 where
  pub place : IsPlace plan (place_behind before)
  pub last : ends_scan next ≡ true ↔ after ≡ []

fails-split : (plan : ControllerPlan) (row : ℕ) (before : List ScanStep) (next : ScanStep)
    (after : List ScanStep) → before ++ next ∷ after ≡ up_to_failure row (full_scan plan)
    → IsCut row (place_behind before) before next after (full_scan plan)
    ⊎ IsUncut row (place_behind before) before next after (full_scan plan)
fails-split plan row before next after same =
    cut-split row places.Start before next after (full_scan plan) same

dark-alone : (before : List ScanStep) (next : ScanStep) (after : List ScanStep)
    → before ++ next ∷ after ≡ steps.Dark ∷ []
    → (before ≡ []) × (next ≡ steps.Dark) × (after ≡ [])
dark-alone [] next after same = (refl, cc, cc)
dark-alone (x ∷ before) next after same =
    let none : before ++ next ∷ after ≡ [] = cc in absurd (some-behind before next after none)

on-way-by : (plan : ControllerPlan) (power : ScanPower) (before : List ScanStep)
    (next : ScanStep) (after : List ScanStep) → before ++ next ∷ after ≡ due_with plan power
    → IsOnWay plan before next after
on-way-by plan powers.Stays before next after same = record {
  place = full-placed plan before (next ∷ after) same;
  last = full-last plan before next after same;
}
on-way-by plan (powers.Fails row) before next after same =
    elim (fails-split plan row before next after same) [
      | inl off ↦ record {
        place = full-placed plan before off.rest off.whole;
        last = (λ ends. off.none, λ none. ap ends_scan off.fail);
      }
      | inr on ↦ record {
        place = full-placed plan before (next ∷ on.more) on.whole;
        last = cut-last row next after on.more
            (full-last plan before next on.more on.whole) on.cut;
      }
    ]
on-way-by plan powers.Dark before next after same =
    let alone = dark-alone before next after same in
    record {
      place = subst (λ (l : List ScanStep). IsPlace plan (place_behind l)) (sym alone.0) tt;
      last = (λ ends. alone.2, λ none. ap ends_scan alone.1);
    }

pub on-way : (plan : ControllerPlan) (scan : ℕ) (before : List ScanStep) (next : ScanStep)
    (after : List ScanStep) → before ++ next ∷ after ≡ due plan scan
    → IsOnWay plan before next after
on-way plan scan = on-way-by plan (power_in plan scan)

-- ---- what is next at a place

pub full-next : (plan : ControllerPlan) (at : ScanPlace) (step : ScanStep)
    → IsFirst step (full_after plan at) → IsNextOf (full_scan plan) at step
full-next plan at step first = λ before next after same to.
    let leads = full-leads plan before next after same in
    let is : step ∷ first.0 ≡ next ∷ after =
    sym first.1 ∙ ap (full_after plan) (sym to) ∙ leads.left in
    cc

pub fails-next : (plan : ControllerPlan) (row : ℕ) (at : ScanPlace) (step : ScanStep)
    → is_failing row at ≡ false → IsNextOf (full_scan plan) at step
    → IsNextOf (due_with plan (powers.Fails row)) at step
fails-next plan row at step stays full = λ before next after same to.
    elim (fails-split plan row before next after same) [
      | inl off ↦ absurd
          (let no : true ≡ false = sym off.fails ∙ ap (is_failing row) to ∙ stays in cc)
      | inr on ↦ full before next on.more on.whole to
    ]

pub failure-next : (plan : ControllerPlan) (row : ℕ) (at : ScanPlace) → is_failing row at ≡ true
    → IsNextOf (due_with plan (powers.Fails row)) at steps.Fail
failure-next plan row at fails = λ before next after same to.
    elim (fails-split plan row before next after same) [
      | inl off ↦ sym off.fail
      | inr on ↦ absurd
          (let no : false ≡ true = sym on.stays ∙ ap (is_failing row) to ∙ fails in cc)
    ]

pub dark-next : (plan : ControllerPlan) (at : ScanPlace)
    → IsNextOf (due_with plan powers.Dark) at steps.Dark
dark-next plan at = λ before next after same to. sym (dark-alone before next after same).1

-- a step that is next in what is due with a power is so in the scan of that power
pub next-in : (plan : ControllerPlan) (scan : ℕ) (power : ScanPower) (at : ScanPlace)
    (step : ScanStep) → power ≡ power_in plan scan → IsNextOf (due_with plan power) at step
    → IsNextOf (due plan scan) at step
next-in plan scan power at step is next =
    subst (λ (p : ScanPower). IsNextOf (due_with plan p) at step) is next
