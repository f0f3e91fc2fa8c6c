-- Runs of references, and what operands name from a place on.
use Rattle.std.proofs.Common.{◌≡◌, ℕ, zero, suc, ◌+◌, ◌<◌, ◌≤◌, List, [], ◌∷◌, ◌++◌, map, drop, get_or}
use Rattle.std.proofs.Common.{length, refl, sym, ap, ◌∙◌, arith, append_assoc}
use Rattle.std.specs.List.{flat_map, range_with_len}
use Rattle.plant_types.specs.declared.reference.Ref.{Ref}
use Rattle.plant_types.specs.declared.element.Operand.{Operand}
use Rattle.plant_types.specs.declared.slot.Slot.{Slot}
use Rattle.plant_types.specs.Operands.{named_at, named_by}
use Rattle.plant_types.specs.Reference.{ref_from}
use Rattle.cone_of.specs.Uses.{run_from}

range-more : {X : Type 0} (f : ℕ → X) (a n : ℕ)
    → map f (range_with_len a (suc n)) ≡ map f (range_with_len a n) ++ f (a + n) ∷ []
range-more f a zero =
    let e : a ≡ a + 0 = omega arith in
    ap (λ k. f k ∷ []) e
range-more {X} f a (suc n) =
    let e : a + 1 + n ≡ a + suc n = omega arith in
    ap (λ (l : List X). f a ∷ l) (range-more f (a + 1) n
    ∙ ap (λ k. map f (range_with_len (a + 1) n) ++ f k ∷ []) e)

-- a run of one more
pub run_more : (at : Ref) (n : ℕ) → run_from at (n + 1) ≡ run_from at n ++ ref_from at n ∷ []
run_more at n =
    let e : n + 1 ≡ suc n = omega arith in
    let z : 0 + n ≡ n = omega arith in
    ap (run_from at) e ∙ (range-more (ref_from at) 0 n
    ∙ ap (λ k. run_from at n ++ ref_from at k ∷ []) z)

-- what operands name from a place on
pub named_next : (count : ℕ) (slots : List Slot) (operands : List Operand) (i : ℕ) (s : Slot)
    (o : Operand) → i < length slots → i < length operands
    → named_by count (drop i slots) (drop i operands)
    ≡ named_at count (get_or slots i s) (get_or operands i o)
    ++ named_by count (drop (i + 1) slots) (drop (i + 1) operands)
named_next count [] operands i s o l m = absurd (omega (arith, l))
named_next count (slot ∷ slots) [] i s o l m = absurd (omega (arith, m))
named_next count (slot ∷ slots) (operand ∷ operands) zero s o l m = refl
named_next count (slot ∷ slots) (operand ∷ operands) (suc i) s o l m =
    let e : suc (i + 1) ≡ suc i + 1 = omega arith in
    named_next count slots operands i s o (omega (arith, l)) (omega (arith, m))
    ∙ ap (λ k. named_at count (get_or slots i s) (get_or operands i o)
    ++ named_by count (drop k (slot ∷ slots)) (drop k (operand ∷ operands))) e

pub no_operands : (count : ℕ) (slots : List Slot) (operands : List Operand) (i : ℕ)
    → length operands ≤ i → named_by count (drop i slots) (drop i operands) ≡ []
no_operands count [] [] zero h = refl
no_operands count [] [] (suc i) h = refl
no_operands count (slot ∷ slots) [] zero h = refl
no_operands count (slot ∷ slots) [] (suc i) h = by (drop i slots)
  where
    by : (rest : List Slot) → named_by count rest [] ≡ []
    by [] = refl
    by (x ∷ xs) = refl
no_operands count slots (operand ∷ operands) zero h = absurd (omega (arith, h))
no_operands count [] (operand ∷ operands) (suc i) h = refl
no_operands count (slot ∷ slots) (operand ∷ operands) (suc i) h =
    no_operands count slots operands i (omega (arith, h))

pub no_slots : (count : ℕ) (slots : List Slot) (operands : List Operand) (i : ℕ)
    → length slots ≤ i → named_by count (drop i slots) (drop i operands) ≡ []
no_slots count [] operands zero h = refl
no_slots count [] operands (suc i) h = refl
no_slots count (slot ∷ slots) operands zero h = absurd (omega (arith, h))
no_slots count (slot ∷ slots) [] (suc i) h = by (drop i slots)
  where
    by : (rest : List Slot) → named_by count rest [] ≡ []
    by [] = refl
    by (x ∷ xs) = refl
no_slots count (slot ∷ slots) (operand ∷ operands) (suc i) h =
    no_slots count slots operands i (omega (arith, h))

pub flat-append : {X Y : Type 0} (f : X → List Y) (xs ys : List X)
    → flat_map f (xs ++ ys) ≡ flat_map f xs ++ flat_map f ys
flat-append f [] ys = refl
flat-append {X} {Y} f (x ∷ xs) ys =
    ap (λ (l : List Y). f x ++ l) (flat-append f xs ys)
    ∙ sym (append_assoc (f x) (flat_map f xs) (flat_map f ys))

pub nothing_more : {X : Type 0} (xs : List X) → xs ++ [] ≡ xs
nothing_more [] = refl
nothing_more {X} (x ∷ xs) = ap (λ (l : List X). x ∷ l) (nothing_more xs)
