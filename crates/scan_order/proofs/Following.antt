-- Following answers that are next in the due list gives the due list.
use Rattle.std.proofs.Common.{◌≡◌, ℕ, true, List, [], ◌∷◌, ◌++◌, refl, sym, ap, subst}
use Rattle.std.proofs.Common.{◌∙◌, append_assoc}
use Rattle.plant_types.specs.declared.plan.ControllerPlan.{ControllerPlan}
use Rattle.scan_order.specs.declared.due.ScanPlace.{ScanPlace}
use Rattle.scan_order.specs.declared.due.ScanStep.{ScanStep}
use Rattle.scan_order.specs.Due.{due, ends_scan, place_behind, FollowingGivesDue, IsFollowed}
use Rattle.scan_order.specs.Due.{IsNextOf, IsPlace}
use Rattle.scan_order.proofs.Places.{due-first}
use Rattle.scan_order.proofs.Powers.{on-way}

-- answers to the places of a plan that are next in the due list
abbrev AreNext : ControllerPlan → ℕ → (ScanPlace → ScanStep) → Type 0
AreNext plan scan answer =
    (at : ScanPlace) → IsPlace plan at → IsNextOf (due plan scan) at (answer at)

-- something is due
due-some : (plan : ControllerPlan) (scan : ℕ) → due plan scan ≡ [] → ⊥
due-some plan scan none =
    let first = due-first plan scan in
    let no : [] ≡ first.first ∷ first.rest = sym none ∙ first.is in
    cc

-- the answer behind first steps of the due list is the step that stands behind them
answer-is : (plan : ControllerPlan) (scan : ℕ) (answer : ScanPlace → ScanStep)
    → AreNext plan scan answer → (before : List ScanStep) (step : ScanStep)
    (after : List ScanStep) → before ++ step ∷ after ≡ due plan scan
    → answer (place_behind before) ≡ step
answer-is plan scan answer next before step after same =
    next (place_behind before) (on-way plan scan before step after same).place
    before step after same refl

-- what is due is followed
due-followed : (plan : ControllerPlan) (scan : ℕ) (answer : ScanPlace → ScanStep)
    → AreNext plan scan answer → IsFollowed answer (due plan scan)
due-followed plan scan answer next = record {
  some = due-some plan scan;
  each = λ before step after same. sym (answer-is plan scan answer next before step after same);
  last = λ before step after same. (on-way plan scan before step after same).last;
}

-- a step goes from what is left to what stands before it
one-more : (before : List ScanStep) (step : ScanStep) (after list : List ScanStep)
    → before ++ step ∷ after ≡ list → (before ++ step ∷ []) ++ after ≡ list
one-more before step after list same = append_assoc before (step ∷ []) after ∙ same

-- what is followed goes on as the due list does
goes-on : (plan : ControllerPlan) (scan : ℕ) (answer : ScanPlace → ScanStep)
    → AreNext plan scan answer → (steps : List ScanStep) → IsFollowed answer steps
    → (before : List ScanStep) (x : ScanStep) (xs : List ScanStep) (y : ScanStep)
    (ys : List ScanStep) → before ++ x ∷ xs ≡ steps → before ++ y ∷ ys ≡ due plan scan
    → x ∷ xs ≡ y ∷ ys
goes-on plan scan answer next steps followed before x [] y ys here there =
    let same : x ≡ y = followed.each before x [] here
    ∙ answer-is plan scan answer next before y ys there in
    let ends : ends_scan y ≡ true =
    sym (ap ends_scan same) ∙ (followed.last before x [] here).1 refl in
    let none : ys ≡ [] = (on-way plan scan before y ys there).last.0 ends in
    ap (λ (s : ScanStep). s ∷ []) same ∙ ap (λ (l : List ScanStep). y ∷ l) (sym none)
goes-on plan scan answer next steps followed before x (z ∷ xs) y [] here there =
    let same : x ≡ y = followed.each before x (z ∷ xs) here
    ∙ answer-is plan scan answer next before y [] there in
    let ends : ends_scan x ≡ true =
    ap ends_scan same ∙ (on-way plan scan before y [] there).last.1 refl in
    let none : z ∷ xs ≡ [] = (followed.last before x (z ∷ xs) here).0 ends in
    absurd cc
goes-on plan scan answer next steps followed before x (z ∷ xs) y (w ∷ ys) here there =
    let same : x ≡ y = followed.each before x (z ∷ xs) here
    ∙ answer-is plan scan answer next before y (w ∷ ys) there in
    let behind = goes-on plan scan answer next steps followed (before ++ y ∷ []) z xs w ys
    (one-more before y (z ∷ xs) steps
    (ap (λ (s : ScanStep). before ++ s ∷ (z ∷ xs)) (sym same) ∙ here))
    (one-more before y (w ∷ ys) (due plan scan) there) in
    ap (λ (s : ScanStep). s ∷ (z ∷ xs)) same ∙ ap (λ (l : List ScanStep). y ∷ l) behind

-- what is followed is what is due
followed-due : (plan : ControllerPlan) (scan : ℕ) (answer : ScanPlace → ScanStep)
    → AreNext plan scan answer → (steps dues : List ScanStep) → IsFollowed answer steps
    → dues ≡ due plan scan → steps ≡ dues
followed-due plan scan answer next [] dues followed is = absurd (followed.some refl)
followed-due plan scan answer next (x ∷ xs) [] followed is = absurd (due-some plan scan (sym is))
followed-due plan scan answer next (x ∷ xs) (y ∷ ys) followed is =
    goes-on plan scan answer next (x ∷ xs) followed [] x xs y ys refl is

pub following-gives : FollowingGivesDue
following-gives plan scan answer next steps = (
  λ followed. followed-due plan scan answer next steps (due plan scan) followed refl,
  λ is. subst (IsFollowed answer) (sym is) (due-followed plan scan answer next),
)
