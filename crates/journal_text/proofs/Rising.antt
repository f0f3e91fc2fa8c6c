-- Numbers of a list's elements that rise.
use Rattle.std.proofs.Common.{◌≡◌, ◌⊎◌, ℕ, zero, suc, ◌+◌, ◌-◌, ◌<◌, ◌≤◌, true, false, List}
use Rattle.std.proofs.Common.{[], ◌∷◌}
use Rattle.std.proofs.Common.{length, get_or, map, slice_index, sym, subst, arith, inl, inr}
use Rattle.std.specs.List.Sorted.{IsStrictlyIncreasing}
use Rattle.std.proofs.lemmas.Bool.{cases_lt}
use Rattle.std.proofs.lemmas.List.{get_or-map, length-map}

-- numbers that rise, by recursion
abbrev pub Rises : List ℕ → Type 0
Rises [] = Unit {0}
Rises (x ∷ []) = Unit {0}
Rises (x ∷ y ∷ xs) = (x < y) × Rises (y ∷ xs)

pub rises_by : (xs : List ℕ) → IsStrictlyIncreasing xs → Rises xs
rises_by [] rise = tt
rises_by (x ∷ []) rise = tt
rises_by (x ∷ y ∷ xs) rise = (
  rise 0 (omega arith),
  rises_by (y ∷ xs) (λ k less. let next : suc k + 1 ≡ suc (k + 1) = omega arith in rw next at
      (rise (suc k) (omega arith))),
)

pub rises_at : (xs : List ℕ) → Rises xs → IsStrictlyIncreasing xs
rises_at [] rise k less = absurd (omega arith)
rises_at (x ∷ []) rise k less = absurd (omega arith)
rises_at (x ∷ y ∷ xs) rise zero less = rise.0
rises_at (x ∷ y ∷ xs) rise (suc k) less =
    let next : suc k + 1 ≡ suc (k + 1) = omega arith in
    rw next (rises_at (y ∷ xs) rise.1 k (omega arith))

module _ {X : Type 0} (f : X → ℕ) (xs : List X) where
  one_more : (at k : ℕ) → k + 1 < at + 1 → (k + 1 < at) ⊎ (k + 1 ≡ at)
  one_more at k h = elim (cases_lt (k + 1) at)
      [ inl less ↦ inl less | inr more ↦ inr (omega arith) ]

  pub rises-more : (at : ℕ) (x y : X) → 1 ≤ at → at < length xs
      → f (get_or xs (at - 1) x) < f (get_or xs at y)
      → ((k : ℕ) → k + 1 < at → slice_index (map f xs) k < slice_index (map f xs) (k + 1))
      → (k : ℕ) → k + 1 < at + 1 → slice_index (map f xs) k < slice_index (map f xs) (k + 1)
  rises-more at x y some within less so_far k h = elim (one_more at k h) [
    | inl early ↦ so_far k early
    | inr last ↦ (
        let before : at - 1 ≡ k = omega arith in
        let first = subst (λ (n : ℕ). slice_index (map f xs) n ≡ f (get_or xs (at - 1) x)) before
        (get_or-map f xs (at - 1) x 0 (omega arith)) in
        let second = subst (λ (n : ℕ). slice_index (map f xs) n ≡ f (get_or xs at y)) (sym last)
        (get_or-map f xs at y 0 within) in
        omega arith)
  ]

  pub rises-not : (at : ℕ) (x y : X) → 1 ≤ at → at < length xs
      → f (get_or xs at y) ≤ f (get_or xs (at - 1) x)
      → IsStrictlyIncreasing (map f xs) → false ≡ true
  rises-not at x y some within more rise =
      let first = get_or-map f xs (at - 1) x 0 (omega arith) in
      let second = get_or-map f xs at y 0 within in
      let size = length-map xs f in
      let up = rise (at - 1) (omega arith) in
      let next : at - 1 + 1 ≡ at = omega arith in
      let there = subst (λ (n : ℕ). slice_index (map f xs) (at - 1) < slice_index (map f xs) n) next
      up in
      absurd (omega arith)
