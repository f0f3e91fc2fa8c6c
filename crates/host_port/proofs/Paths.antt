-- The four paths.
use Rattle.std.proofs.Common.{◌≡◌, ◌⊎◌, ℕ, ◌-◌, [], ◌∷◌, get_or, set, map, refl, sym, subst, inl}
use Rattle.std.proofs.Common.{inr, arith}
use Rattle.std.proofs.lemmas.Bool.{cases_eq}
use Rattle.std.specs.List.{AllByRecursion}
use Rattle.ring_core.specs.MstrBlock.{network_paths}
use Rattle.ring_core.specs.Legal.{IsPath}

path_cases : (p : ℕ) → IsPath p → (p ≡ 1) ⊎ ((p ≡ 2) ⊎ ((p ≡ 3) ⊎ (p ≡ 4)))
path_cases p is = elim (cases_eq p 1) [
  | inl one ↦ inl one
  | inr a ↦ elim (cases_eq p 2) [
    | inl two ↦ inr (inl two)
    | inr b ↦ elim (cases_eq p 3) [
      | inl three ↦ inr (inr (inl three))
      | inr d ↦ let four : p ≡ 4 = omega arith in inr (inr (inr four))
    ]
  ]
]

pub at_path : (P : ℕ → Type 0) (p : ℕ) → IsPath p → P 1 → P 2 → P 3 → P 4 → P p
at_path P p is one two three four = elim (path_cases p is) [
  | inl e ↦ subst P (sym e) one
  | inr more ↦ elim more [
    | inl e ↦ subst P (sym e) two
    | inr more ↦ elim more [
      | inl e ↦ subst P (sym e) three
      | inr e ↦ subst P (sym e) four
    ]
  ]
]

pub paths_are : AllByRecursion IsPath network_paths
paths_are = search arith

pub get_four : {A : Type 0} (F : ℕ → A) (p : ℕ) (d : A) → IsPath p
    → get_or (map F network_paths) (p - 1) d ≡ F p
get_four F p d is =
    at_path (λ p. get_or (map F network_paths) (p - 1) d ≡ F p) p is refl refl refl refl

pub map_four : {A : Type 0} (F G : ℕ → A) → ((q : ℕ) → F q ≡ G q)
    → map F network_paths ≡ map G network_paths
map_four F G same = λ i. same 1 i ∷ same 2 i ∷ same 3 i ∷ same 4 i ∷ []

pub set_four : {A : Type 0} (F G : ℕ → A) (p : ℕ) (x : A) → IsPath p → x ≡ G p
    → ((q : ℕ) → (q ≡ p → ⊥) → F q ≡ G q)
    → set (map F network_paths) (p - 1) x ≡ map G network_paths
set_four F G p x is =
    at_path (λ p. x ≡ G p → ((q : ℕ) → (q ≡ p → ⊥) → F q ≡ G q)
    → set (map F network_paths) (p - 1) x ≡ map G network_paths) p is
    (λ at other. λ i. at i ∷ other 2 (λ e. omega arith) i ∷ other 3 (λ e. omega arith) i
    ∷ other 4 (λ e. omega arith) i ∷ [])
    (λ at other. λ i. other 1 (λ e. omega arith) i ∷ at i ∷ other 3 (λ e. omega arith) i
    ∷ other 4 (λ e. omega arith) i ∷ [])
    (λ at other. λ i. other 1 (λ e. omega arith) i ∷ other 2 (λ e. omega arith) i ∷ at i
    ∷ other 4 (λ e. omega arith) i ∷ [])
    (λ at other. λ i. other 1 (λ e. omega arith) i ∷ other 2 (λ e. omega arith) i
    ∷ other 3 (λ e. omega arith) i ∷ at i ∷ [])
