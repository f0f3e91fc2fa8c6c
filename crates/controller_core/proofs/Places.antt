-- Where a controller is in all its scans, and what one more step makes of it.
use Rattle.std.proofs.Common.{◌≡◌, ◌≤◌, ◌<◌, ℕ, zero, suc, ◌+◌, ◌-◌, Bool, true, false, List, []}
use Rattle.std.proofs.Common.{◌∷◌, ◌++◌, length, refl, sym, ap, subst, ◌∙◌, arith, append_assoc}
use Rattle.std.proofs.Common.{append-nil, length-append, length-drop}
use Rattle.std.specs.Prelude.{if◌then◌else◌}
use Rattle.std.proofs.lemmas.List.Sums.{fold-append}
use Rattle.scan_order.specs.declared.due.ScanPlace.{ScanPlace}
use Rattle.scan_order.specs.declared.due.ScanPlace.TheVariants as places
use Rattle.scan_order.specs.declared.due.ScanStep.{ScanStep}
use Rattle.scan_order.specs.Due.{due, ends_scan, place_after, IsNextOf}
use Rattle.scan_order.proofs.Places.{due-first, none-before, start-behind}
use Rattle.scan_order.proofs.Powers.{on-way}
use Rattle.controller_core.specs.declared.fixed.Fixed.{Fixed}
use Rattle.controller_core.specs.Scans.{all_due, gone_after, is_done, left_in_scan, scans_at}
use Rattle.controller_core.specs.Scans.{scans_from, IsPlaced}

-- what is due in so many scans is what is due in the first of them, and in those behind
scans-both : (f : Fixed) (a k n m b : ℕ) → k + n ≡ m → a + k ≡ b
    → scans_from f a m ≡ scans_from f a k ++ scans_from f b n
scans-both f a zero n m b all from =
    let same : m ≡ n = omega arith in
    let at : a ≡ b = omega arith in
    ap (scans_from f a) same ∙ ap (λ x. scans_from f x n) at
scans-both f a (suc k) n m b all from =
    let more : m ≡ suc (k + n) = omega arith in
    let at : a + 1 + k ≡ b = omega arith in
    ap (scans_from f a) more
    ∙ ap (λ (l : List ScanStep). due f.plan a ++ l) (scans-both f (a + 1) k n (k + n) b refl at)
    ∙ sym (append_assoc (due f.plan a) (scans_from f (a + 1) k) (scans_from f b n))

-- and one scan more
pub scans-more : (f : Fixed) (gone : ℕ)
    → scans_from f 1 (gone + 1) ≡ scans_from f 1 gone ++ due f.plan (gone + 1)
scans-more f gone =
    let at : 1 + gone ≡ gone + 1 = omega arith in
    scans-both f 1 gone 1 (gone + 1) (gone + 1) refl at
    ∙ ap (λ (l : List ScanStep). scans_from f 1 gone ++ l) (append-nil (due f.plan (gone + 1)))

-- the steps so far, and what is left of their scan
pub scan-whole : (f : Fixed) (made : List ScanStep) (gone : ℕ) (at : ScanPlace)
    (p : IsPlaced f made gone at) → made ++ p.next ∷ p.after ≡ scans_from f 1 (gone + 1)
scan-whole f made gone at p =
    ap (λ (l : List ScanStep). l ++ p.next ∷ p.after) p.steps
    ∙ append_assoc (scans_from f 1 gone) p.before (p.next ∷ p.after)
    ∙ ap (λ (l : List ScanStep). scans_from f 1 gone ++ l) p.scan
    ∙ sym (scans-more f gone)

-- and of all scans, where that scan is one of them
pub scans-whole : (f : Fixed) (made : List ScanStep) (gone : ℕ) (at : ScanPlace)
    (p : IsPlaced f made gone at) → gone < f.scans
    → made ++ p.next ∷ (p.after ++ scans_from f (gone + 1 + 1) (f.scans - suc gone)) ≡ all_due f
scans-whole f made gone at p lt =
    let later = scans_from f (gone + 1 + 1) (f.scans - suc gone) in
    let all : (gone + 1) + (f.scans - suc gone) ≡ f.scans = omega arith in
    let from : 1 + (gone + 1) ≡ gone + 1 + 1 = omega arith in
    sym (append_assoc made (p.next ∷ p.after) later)
    ∙ ap (λ (l : List ScanStep). l ++ later) (scan-whole f made gone at p)
    ∙ sym (scans-both f 1 (gone + 1) (f.scans - suc gone) f.scans (gone + 1 + 1) all from)

-- where no scan runs, the steps are those of the scans that are gone
pub scans-gone : (f : Fixed) (made : List ScanStep) (gone : ℕ)
    → IsPlaced f made gone places.Start → made ≡ scans_from f 1 gone
scans-gone f made gone p =
    let none = none-before f.plan (gone + 1) p.before p.next p.after p.scan p.place in
    p.steps ∙ ap (λ (l : List ScanStep). scans_from f 1 gone ++ l) none
    ∙ append-nil (scans_from f 1 gone)

-- behind all scans nothing is left
pub all-made : (f : Fixed) (made : List ScanStep) (gone : ℕ) → IsPlaced f made gone places.Start
    → gone ≡ f.scans → made ++ [] ≡ all_due f
all-made f made gone p all =
    append-nil made ∙ scans-gone f made gone p ∙ ap (scans_from f 1) all

pub not_done : (scans : ℕ) (at : ScanPlace) (gone : ℕ) → scans_at at gone ≤ scans
    → is_done scans at gone ≡ false → gone < scans
not_done scans places.Start gone within not = grind arith
not_done scans places.Began gone within not = omega arith
not_done scans (places.DidIn row) gone within not = omega arith
not_done scans (places.DidSolve row) gone within not = omega arith
not_done scans (places.DidOut row) gone within not = omega arith

-- what is left of all scans stands behind the steps so far
pub left-all : (f : Fixed) (made : List ScanStep) (gone : ℕ) (at : ScanPlace)
    → IsPlaced f made gone at → scans_at at gone ≤ f.scans
    → (b : Bool) → is_done f.scans at gone ≡ b
    → (rest : List ScanStep) × (made ++ rest ≡ all_due f)
left-all f made gone at p within false on =
    (_, scans-whole f made gone at p (not_done f.scans at gone within on))
left-all f made gone places.Start p within true done =
    let all : gone ≡ f.scans = grind arith in ([], all-made f made gone p all)
left-all f made gone places.Began p within true done = absurd cc
left-all f made gone (places.DidIn row) p within true done = absurd cc
left-all f made gone (places.DidSolve row) p within true done = absurd cc
left-all f made gone (places.DidOut row) p within true done = absurd cc

-- how much is left of the scan
pub left-long : (f : Fixed) (made : List ScanStep) (gone : ℕ) (at : ScanPlace)
    (p : IsPlaced f made gone at) → length (left_in_scan f gone made) ≡ suc (length p.after)
left-long f made gone at p =
    let whole = ap length (scan-whole f made gone at p) in
    let parts = length-append made (p.next ∷ p.after) in
    let dropped = length-drop (length made) (scans_from f 1 (gone + 1)) in
    omega arith

-- ---- one more step

-- the step that is next at the place is the one that stands behind the steps so far
pub step-is : (f : Fixed) (made : List ScanStep) (gone : ℕ) (at : ScanPlace) (step : ScanStep)
    (p : IsPlaced f made gone at) → IsNextOf (due f.plan (gone + 1)) at step → step ≡ p.next
step-is f made gone at step p next = next p.before p.next p.after p.scan p.place

one-more : (f : Fixed) (made before : List ScanStep) (gone : ℕ) (step : ScanStep)
    → made ≡ scans_from f 1 gone ++ before
    → made ++ step ∷ [] ≡ scans_from f 1 gone ++ (before ++ step ∷ [])
one-more f made before gone step is =
    ap (λ (l : List ScanStep). l ++ step ∷ []) is
    ∙ append_assoc (scans_from f 1 gone) before (step ∷ [])

-- behind the last step of a scan the next one is due
placed-end : (f : Fixed) (made : List ScanStep) (gone : ℕ) (at : ScanPlace)
    (p : IsPlaced f made gone at) → ends_scan p.next ≡ true
    → IsPlaced f (made ++ p.next ∷ []) (gone + 1) (place_after p.next)
placed-end f made gone at p ends =
    let last = (on-way f.plan (gone + 1) p.before p.next p.after p.scan).last.0 ends in
    let first = due-first f.plan (gone + 1 + 1) in
    let scan : p.before ++ p.next ∷ [] ≡ due f.plan (gone + 1) =
    ap (λ (l : List ScanStep). p.before ++ p.next ∷ l) (sym last) ∙ p.scan in
    record {
      before = [];
      next = first.first;
      after = first.rest;
      scan = sym first.is;
      place = sym (start-behind p.next ends);
      steps = one-more f made p.before gone p.next p.steps
          ∙ ap (λ (l : List ScanStep). scans_from f 1 gone ++ l) scan
          ∙ sym (scans-more f gone) ∙ sym (append-nil (scans_from f 1 (gone + 1)));
    }

-- behind any other the scan goes on
placed-on : (f : Fixed) (made : List ScanStep) (gone : ℕ) (at : ScanPlace)
    (p : IsPlaced f made gone at) → ends_scan p.next ≡ false → (after : List ScanStep)
    → p.after ≡ after → IsPlaced f (made ++ p.next ∷ []) gone (place_after p.next)
placed-on f made gone at p on [] is =
    let ends = (on-way f.plan (gone + 1) p.before p.next p.after p.scan).last.1 is in
    absurd (let no : true ≡ false = sym ends ∙ on in cc)
placed-on f made gone at p on (x ∷ after) is = record {
  before = p.before ++ p.next ∷ [];
  next = x;
  after = after;
  scan = append_assoc p.before (p.next ∷ []) (x ∷ after)
      ∙ ap (λ (l : List ScanStep). p.before ++ p.next ∷ l) (sym is) ∙ p.scan;
  place = fold-append (λ at step. place_after step) places.Start p.before (p.next ∷ []);
  steps = one-more f made p.before gone p.next p.steps;
}

pub placed-step : (f : Fixed) (made : List ScanStep) (gone : ℕ) (at : ScanPlace)
    (step : ScanStep) → IsPlaced f made gone at → IsNextOf (due f.plan (gone + 1)) at step
    → IsPlaced f (made ++ step ∷ []) (gone_after step gone) (place_after step)
placed-step f made gone at step p next =
    subst (λ (s : ScanStep). IsPlaced f (made ++ s ∷ []) (gone_after s gone) (place_after s))
    (sym (step-is f made gone at step p next)) (by (ends_scan p.next) refl)
  where
    by : (b : Bool) → ends_scan p.next ≡ b
        → IsPlaced f (made ++ p.next ∷ []) (if b then gone + 1 else gone) (place_after p.next)
    by true ends = placed-end f made gone at p ends
    by false on = placed-on f made gone at p on p.after refl
