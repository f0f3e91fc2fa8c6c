-- The four paths.
use Rattle.std.proofs.Common.{◌≡◌, ◌⊎◌, ℕ, true, Some, refl, sym, subst, inl, inr, arith}
use Rattle.std.proofs.lemmas.Bool.{cases_eq}
use Rattle.std.specs.List.{AllByRecursion}
use Rattle.ring_core.specs.MstrBlock.{network_paths}
use Rattle.ring_core.specs.Legal.{IsPath}
use Rattle.bridge_relay.specs.Machine.{EndIs, free_relay_path, is_free_relay_path}
use Rattle.bridge_relay.specs.Legal.{is_network_path}
use Rattle.bridge_relay.specs.Kept.{IsFreePath}
use Rattle.bridge_relay.proofs.Lists.{found}

path_cases : (p : ℕ) → IsPath p → (p ≡ 1) ⊎ ((p ≡ 2) ⊎ ((p ≡ 3) ⊎ (p ≡ 4)))
path_cases p is = elim (cases_eq p 1) [
  | inl one ↦ inl one
  | inr a ↦ elim (cases_eq p 2) [
    | inl two ↦ inr (inl two)
    | inr b ↦ elim (cases_eq p 3) [
      | inl three ↦ inr (inr (inl three))
      | inr d ↦ let four : p ≡ 4 = omega arith in inr (inr (inr four))
    ]
  ]
]

-- what holds of each of the four paths
pub at_path : (P : ℕ → Type 0) (p : ℕ) → IsPath p → P 1 → P 2 → P 3 → P 4 → P p
at_path P p is one two three four = elim (path_cases p is) [
  | inl e ↦ subst P (sym e) one
  | inr more ↦ elim more [
    | inl e ↦ subst P (sym e) two
    | inr more ↦ elim more [
      | inl e ↦ subst P (sym e) three
      | inr e ↦ subst P (sym e) four
    ]
  ]
]

paths_are : AllByRecursion IsPath network_paths
paths_are = search arith

-- the test says whether it is a path
pub path_known : (p : ℕ) → IsPath p → is_network_path p ≡ true
path_known p is = at_path (λ p. is_network_path p ≡ true) p is refl refl refl refl

pub known_path : (p : ℕ) → is_network_path p ≡ true → IsPath p
known_path p is = grind (arith)

-- what is the least free path is free
pub least_free : (end : EndIs) (path : ℕ) → free_relay_path end ≡ Some path → IsFreePath end path
least_free end path is =
    let both = found IsPath (is_free_relay_path end) network_paths path paths_are is in
    record { is_path = both.1; free = both.0 }
