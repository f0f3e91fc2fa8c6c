-- What panels tell of two states.
use Rattle.std.proofs.Common.{◌≡◌, ℕ, ◌<◌, Bool, true, false, ◌==◌, ◌&&◌, List, [], ◌∷◌}
use Rattle.std.proofs.Common.{refl, sym}
use Rattle.std.proofs.Common.{ap, ◌∙◌, ◌+◌, length, get_or, drop, subst}
use Rattle.std.specs.Prelude.{if◌then◌else◌, nat_eq, not}
use Rattle.std.specs.Cmp.Lexicographic.{pointwise}
use Rattle.std.specs.List.{list_all}
use Rattle.std.proofs.lemmas.Bool.{eqb-true, eq-eqb, ne_eqb}
use Rattle.std.proofs.lemmas.List.Folds.{list_all_at}
use Rattle.std.proofs.lemmas.Slice.Eq.{bytes_eq-Decides}
use Rattle.plant_types.specs.declared.reference.Ref.{Ref}
use Rattle.plant_types.specs.declared.plan.ControllerPlan.{ControllerPlan}
use Rattle.plant_types.specs.Checks.{are_driven_once, coils_of, numbers_pass, passes_check}
use Rattle.plant_types.specs.Checks.{segment_passes, sizes_of}
use Rattle.plant_types.specs.Sizes.{has_reference}
use Rattle.plant_types.specs.Store.{value_at, Contents}
use Rattle.field_machine.proofs.Items.{next-get}
use Rattle.controller_core.specs.Notes.{values_of}
use Rattle.controller_core.specs.Replay.{ControllerState}
use Rattle.field_pair.specs.Panel.{panel_told}

-- what holds of all of a list holds of each
pub passes-at : {X : Type 0} (p : X → Bool) (xs : List X) (i : ℕ) (d : X) → i < length xs
    → list_all p xs ≡ true → p (get_or xs i d) ≡ true
passes-at {X} p xs i d within all = by (p (get_or xs i d)) refl
  where
    by : (b : Bool) → p (get_or xs i d) ≡ b → p (get_or xs i d) ≡ true
    by true is = is
    by false is =
        absurd (let no' : false ≡ true = sym (list_all_at p xs i d within is) ∙ all in cc)

both-true : (a b : Bool) → a && b ≡ true → (a ≡ true) × (b ≡ true)
both-true true true e = (refl, refl)
both-true true false e = absurd (let no' : false ≡ true = e in cc)
both-true false b e = absurd (let no' : false ≡ true = e in cc)

-- a plan that passes has the references of its panel
pub panel-held : (plan : ControllerPlan) → passes_check plan ≡ true
    → list_all (has_reference (sizes_of plan)) plan.panel ≡ true
panel-held plan passes =
    let behind = (both-true (numbers_pass plan) _ passes).1 in
    let coils = (both-true (list_all (segment_passes (sizes_of plan)) plan.segments) _ behind).1 in
    (both-true (are_driven_once (coils_of plan)) _ coils).1

pub told-on : (panel : List Ref) (s : ControllerState) → (s.stop == 0) ≡ true
    → panel_told panel s ≡ 0 ∷ values_of s.solving.map panel
told-on panel s is =
    ap (λ b. if b then 0 ∷ values_of s.solving.map panel else s.stop ∷ []) is

pub told-off : (panel : List Ref) (s : ControllerState) → (s.stop == 0) ≡ false
    → panel_told panel s ≡ s.stop ∷ []
told-off panel s is =
    ap (λ b. if b then 0 ∷ values_of s.solving.map panel else s.stop ∷ []) is

-- lines that tell the same tell one stop code
pub one-stop : (panel panel' : List Ref) (s t : ControllerState)
    → panel_told panel s ≡ panel_told panel' t → s.stop ≡ t.stop
one-stop panel panel' s t same = by (s.stop == 0) (t.stop == 0) refl refl
  where
    by : (b c : Bool) → (s.stop == 0) ≡ b → (t.stop == 0) ≡ c → s.stop ≡ t.stop
    by true true is is' = eqb-true s.stop 0 is ∙ sym (eqb-true t.stop 0 is')
    by true false is is' =
        let lists : 0 ∷ values_of s.solving.map panel ≡ t.stop ∷ [] =
        sym (told-on panel s is) ∙ (same ∙ told-off panel' t is') in
        let e : 0 ≡ t.stop = cc in
        eqb-true s.stop 0 is ∙ e
    by false true is is' =
        let lists : s.stop ∷ [] ≡ 0 ∷ values_of t.solving.map panel' =
        sym (told-off panel s is) ∙ (same ∙ told-on panel' t is') in
        let e : s.stop ≡ 0 = cc in
        e ∙ sym (eqb-true t.stop 0 is')
    by false false is is' =
        let lists : s.stop ∷ [] ≡ t.stop ∷ [] =
        sym (told-off panel s is) ∙ (same ∙ told-off panel' t is') in
        let e : s.stop ≡ t.stop = cc in
        e

-- other stop codes are told apart
pub stops-apart : (panel : List Ref) (s t : ControllerState) → (s.stop ≡ t.stop → ⊥)
    → true ≡ not (pointwise nat_eq (panel_told panel s) (panel_told panel t))
stops-apart panel s t other = by (pointwise nat_eq (panel_told panel s) (panel_told panel t)) refl
  where
    by : (b : Bool) → pointwise nat_eq (panel_told panel s) (panel_told panel t) ≡ b
        → true ≡ not (pointwise nat_eq (panel_told panel s) (panel_told panel t))
    by true is =
        absurd (other (one-stop panel panel s t
        ((bytes_eq-Decides (panel_told panel s) (panel_told panel t)).0 is)))
    by false is = sym (ap not is)

-- one stop code is not
pub stops-same : (panel : List Ref) (s t : ControllerState) → s.stop ≡ t.stop
    → (s.stop == 0) ≡ false
    → false ≡ not (pointwise nat_eq (panel_told panel s) (panel_told panel t))
stops-same panel s t same stopped =
    let also : (t.stop == 0) ≡ false = ap (λ k. k == 0) (sym same) ∙ stopped in
    let lists : panel_told panel s ≡ panel_told panel t =
    told-off panel s stopped
    ∙ (ap (λ k. k ∷ []) same ∙ sym (told-off panel t also)) in
    sym (ap not ((bytes_eq-Decides (panel_told panel s) (panel_told panel t)).1 lists))

-- while both go on the values tell
pub values-tell : (panel : List Ref) (s t : ControllerState) → s.stop ≡ t.stop
    → (s.stop == 0) ≡ true
    → pointwise nat_eq (values_of s.solving.map panel) (values_of t.solving.map panel)
    ≡ pointwise nat_eq (panel_told panel s) (panel_told panel t)
values-tell panel s t same goes =
    let also : (t.stop == 0) ≡ true = ap (λ k. k == 0) (sym same) ∙ goes in
    λ i. pointwise nat_eq (sym (told-on panel s goes) i) (sym (told-on panel t also) i)

-- ---- values one after another

module _ (m n : Contents) (panel items : List Ref) (i : ℕ) (d : Ref) (are : items ≡ panel)
    (within : i < length items) where
  abbrev same_from : ℕ → Bool
  same_from k =
      pointwise nat_eq (values_of m (drop k panel)) (values_of n (drop k panel))

  step : same_from i
      ≡ (nat_eq (value_at m (get_or items i d)) (value_at n (get_or items i d)) && same_from (i +
      1))
  step =
      let low : i < length panel = subst (λ (l : List Ref). i < length l) are within in
      let next = next-get panel i d low in
      (λ j. pointwise nat_eq (values_of m (next j)) (values_of n (next j)))
      ∙ ap (λ (l : List Ref).
      nat_eq (value_at m (get_or l i d)) (value_at n (get_or l i d)) && same_from (i + 1)) (sym are)

  pub values-differ : (whole : Bool) (one other : ℕ) → whole ≡ same_from i
      → one ≡ value_at m (get_or items i d) → other ≡ value_at n (get_or items i d)
      → (one ≡ other → ⊥) → false ≡ whole
  values-differ whole one other is one-is other-is apart =
      let no' : nat_eq (value_at m (get_or items i d)) (value_at n (get_or items i d)) ≡ false =
      ne_eqb _ _ (λ same. apart (one-is ∙ (same ∙ sym other-is))) in
      sym (is ∙ (step ∙ ap (λ b. b && same_from (i + 1)) no'))

  pub values-same : (whole : Bool) (one other : ℕ) → whole ≡ same_from i
      → one ≡ value_at m (get_or items i d) → other ≡ value_at n (get_or items i d)
      → one ≡ other → whole ≡ same_from (i + 1)
  values-same whole one other is one-is other-is same =
      let yes : nat_eq (value_at m (get_or items i d)) (value_at n (get_or items i d)) ≡ true =
      eq-eqb _ _ (sym one-is ∙ (same ∙ other-is)) in
      is ∙ (step ∙ ap (λ b. b && same_from (i + 1)) yes)
