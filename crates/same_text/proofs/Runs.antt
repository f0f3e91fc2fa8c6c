-- Two runs that are told apart play side by side.
use Rattle.std.proofs.Common.{◌≡◌, ℕ, zero, suc, ◌+◌, ◌-◌, ◌≤◌, ◌<◌, Bool, true, false, ◌==◌, List}
use Rattle.std.proofs.Common.{[]}
use Rattle.std.proofs.Common.{◌∷◌, Option, Some, None, refl, sym, ap, ◌∙◌, subst, arith, length}
use Rattle.std.proofs.Common.{map}
use Rattle.std.proofs.Common.{cond, take}
use Rattle.std.specs.Prelude.{if◌then◌else◌, nat_lt, slice_get, unwrap_or}
use Rattle.std.specs.List.{AllByRecursion}
use Rattle.std.proofs.Math.Nat.{min-eq_left}
use Rattle.std.proofs.lemmas.Bool.{eqb-true, eq-eqb}
use Rattle.std.proofs.lemmas.List.{length-map, length-take}
use Rattle.plant_types.specs.declared.drops.IoDrop.{IoDrop}
use Rattle.plant_types.specs.declared.reference.Ref.{Ref}
use Rattle.plant_types.specs.declared.plan.ControllerPlan.{ControllerPlan}
use Rattle.plant_types.specs.Checks.{sizes_of}
use Rattle.plant_types.specs.Reference.{is_discrete}
use Rattle.plant_types.specs.Sizes.{cleared, has_reference, Sizes}
use Rattle.plant_types.specs.Store.{is_on, value_at, word_at}
use Rattle.plant_types.proofs.SizesLemmas.{get-cleared}
use Rattle.controller_core.specs.declared.fixed.Fixed.{Fixed}
use Rattle.controller_core.specs.Notes.{values_of}
use Rattle.controller_core.specs.Replay.{ControllerState, start}
use Rattle.field_pair.specs.FieldMachine.{state_of_run, Exchange}
use Rattle.never_text.proofs.Stopping.{stays-stopped}
use Rattle.field_pair.specs.SideRuns.{Brings, NamesRows, PlaySideBySide, ScanField}
use Rattle.field_pair.proofs.SideRuns.{run-starts}
use Rattle.field_pair.specs.Exchanged.{AreOfBoth, field_of}
use Rattle.field_pair.specs.Panel.{panel_told}
use Rattle.field_pair.specs.Same.{ApartRuns, fields_of, IsFirstApart, TellTheSame}
use Rattle.field_pair.proofs.Panels.{one-stop}
use Rattle.field_pair.proofs.Taking.{field-named}

-- what stands among the first of a list stands in it
take-get : {X : Type 0} (xs : List X) (n i : ℕ) (x : X) → slice_get (take n xs) i ≡ Some x
    → slice_get xs i ≡ Some x
take-get [] zero i x is = is
take-get [] (suc n) i x is = is
take-get (y ∷ xs) zero i x is = absurd (let no' : None ≡ Some x = is in cc)
take-get (y ∷ xs) (suc n) zero x is = is
take-get (y ∷ xs) (suc n) (suc i) x is = take-get xs n i x is

take-all : {X : Type 0} (P : X → Type 0) (xs : List X) (n : ℕ) → AllByRecursion P xs
    → AllByRecursion P (take n xs)
take-all P [] zero all = tt
take-all P [] (suc n) all = tt
take-all P (x ∷ xs) zero all = tt
take-all P (x ∷ xs) (suc n) all = (all.0, take-all P xs n all.1)

front-brings : (fixed : Fixed) (drops : List IoDrop) (fields : List ScanField)
    (played : ControllerPlan) (n : ℕ) → Brings fixed drops fields played
    → Brings fixed drops (take n fields) played
front-brings fixed drops fields played n brings = record {
  plays = brings.plays;
  rows = λ scans drop nth field at makes.
      brings.rows scans drop nth field (take-get fields n scans field at) makes;
}

fields-named : (old new : ControllerPlan) (brought : List (List Exchange))
    → AllByRecursion (AreOfBoth old new) brought
    → AllByRecursion (NamesRows old.drops) (fields_of brought)
fields-named old new [] all = tt
fields-named old new (exchanges ∷ brought) all =
    (field-named old.drops exchanges all.0.rows, fields-named old new brought all.1)

module _ (old new : Fixed) (limit : Option ℕ) (runs : ApartRuns)
    (first : IsFirstApart old new limit runs) where
  -- they play side by side for so many scans
  pub runs-beside : (n : ℕ) → n ≤ length runs.brought
      → PlaySideBySide old new runs.one runs.other n
  runs-beside n few =
      let fields = fields_of runs.brought in
      let many : length fields ≡ length runs.brought = length-map runs.brought field_of in
      let low : n ≤ length fields = omega (arith, few, many) in
      record {
        fields = take n fields;
        as_many = length-take n fields ∙ min-eq_left low;
        named = take-all (NamesRows old.plan.drops) fields n
            (fields-named old.plan new.plan runs.brought first.exchanges);
        old_brings = front-brings old old.plan.drops fields runs.one n first.old_brings;
        new_brings = front-brings new old.plan.drops fields runs.other n first.new_brings;
      }

  abbrev one_state : ℕ → ControllerState
  one_state n = state_of_run old runs.one n

  abbrev other_state : ℕ → ControllerState
  other_state n = state_of_run new runs.other n

  -- the old one goes on as long as they are not told apart, and so does the new one
  goes-both : (n : ℕ) → n < length runs.brought
      → ((one_state n).stop ≡ 0) × ((other_state n).stop ≡ 0)
  goes-both n less = by ((one_state n).stop == 0) ((other_state n).stop == 0) refl refl
    where
      same : TellTheSame old new runs.one runs.other n
      same = first.first runs.one runs.other n (runs-beside n (omega (arith, less))) less

      alike : (b c : Bool) → ((one_state n).stop == 0) ≡ b → ((other_state n).stop == 0) ≡ c → b ≡ c
      alike b c is is' =
          sym is
          ∙ (ap (λ k. k == 0)
          (one-stop old.plan.panel new.plan.panel (one_state n) (other_state n) same) ∙ is')

      by : (b c : Bool) → ((one_state n).stop == 0) ≡ b → ((other_state n).stop == 0) ≡ c
          → ((one_state n).stop ≡ 0) × ((other_state n).stop ≡ 0)
      by true true is is' = (eqb-true (one_state n).stop 0 is, eqb-true (other_state n).stop 0 is')
      by true false is is' = absurd (let no' : true ≡ false = alike true false is is' in cc)
      by false true is is' = absurd (let no' : false ≡ true = alike false true is is' in cc)
      by false false is is' =
          let all = length runs.brought in
          let far : n + (all - n) ≡ all = omega (arith, less) in
          let one : one_state all ≡ one_state n =
          ap one_state (sym far)
          ∙ stays-stopped runs.one old.scan_time old.watchdog n (all - n) is in
          let other : other_state all ≡ other_state n =
          ap other_state (sym far)
          ∙ stays-stopped runs.other new.scan_time new.watchdog n (all - n) is' in
          absurd (first.apart
          (ap (panel_told old.plan.panel) one
          ∙ (same ∙ sym (ap (panel_told new.plan.panel) other))))

  pub one-goes : (n : ℕ) → n < length runs.brought → (one_state n).stop ≡ 0
  one-goes n less = (goes-both n less).0

  pub other-goes : (n : ℕ) → n < length runs.brought → (other_state n).stop ≡ 0
  other-goes n less = (goes-both n less).1

-- before the first scan each panel shows zeros
zero-value : (sizes : Sizes) (at : Ref) → value_at (cleared sizes) at ≡ 0
zero-value sizes at = by (is_discrete at.kind)
  where
    zero-by : (b : Bool) → unwrap_or (cond {A = Option ℕ} b (Some 0) None) 0 ≡ 0
    zero-by true = refl
    zero-by false = refl

    zero-word : word_at (cleared sizes) at ≡ 0
    zero-word =
        ap (λ (o : Option ℕ). unwrap_or o 0) (get-cleared sizes at) ∙ zero-by (has_reference sizes
        at)

    by : (b : Bool) → (if b then (if is_on (cleared sizes) at then 1 else 0)
        else word_at (cleared sizes) at) ≡ 0
    by true = ap (λ n. if nat_lt 0 n then 1 else 0) zero-word
    by false = zero-word

zero-values : (one other : Sizes) (panel : List Ref)
    → values_of (cleared one) panel ≡ values_of (cleared other) panel
zero-values one other [] = refl
zero-values one other (at ∷ panel) =
    λ i. (zero-value one at ∙ sym (zero-value other at)) i ∷ zero-values one other panel i

-- so it tells no two runs apart
pub some-scans : (old new : Fixed) (limit : Option ℕ) (runs : ApartRuns)
    → IsFirstApart old new limit runs → old.plan.panel ≡ new.plan.panel → 1 ≤ length runs.brought
some-scans old new limit runs first panels = by (length runs.brought) refl
  where
    by : (n : ℕ) → length runs.brought ≡ n → 1 ≤ length runs.brought
    by zero is =
        let one : state_of_run old runs.one 0 ≡ start old.plan =
        run-starts old.plan runs.one old.scan_time old.watchdog first.old_brings.plays in
        let other : state_of_run new runs.other 0 ≡ start new.plan =
        run-starts new.plan runs.other new.scan_time new.watchdog first.new_brings.plays in
        let starts : panel_told old.plan.panel (start old.plan)
        ≡ panel_told new.plan.panel (start new.plan) =
        ap (λ (l : List ℕ). 0 ∷ l)
        (zero-values (sizes_of old.plan) (sizes_of new.plan) old.plan.panel
        ∙ ap (values_of (cleared (sizes_of new.plan))) panels) in
        absurd (first.apart
        (subst (TellTheSame old new runs.one runs.other) (sym is)
        (ap (panel_told old.plan.panel) one
        ∙ (starts ∙ sym (ap (panel_told new.plan.panel) other)))))
    by (suc n) is = omega (arith, is)
