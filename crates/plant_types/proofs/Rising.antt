-- Numbers that rise.
use Rattle.std.proofs.Common.{◌≡◌, ◌≢◌, ℕ, List, eqb, sym, ◌∙◌, arith, ⊎_elim}
use Rattle.std.specs.Prelude.{get_or}
use Rattle.std.specs.List.{IsDistinct}
use Rattle.std.specs.List.Sorted.{IsStrictlyIncreasing}
use Rattle.std.proofs.lemmas.Bool.{eq-eqb, ne_eqb, cases_eq}
use Rattle.std.proofs.lemmas.List.Kept.{AllPairs-from_increasing}
use Rattle.std.proofs.lemmas.Map.Keys.{IsDistinct-from_apart}

-- whether two numbers are equal does not depend on which comes first
pub flips : (x y : ℕ) → eqb x y ≡ eqb y x
flips x y =
    ⊎_elim (λ (same : x ≡ y). eq-eqb x y same ∙ sym (eq-eqb y x (sym same)))
    (λ (apart : x ≢ y). ne_eqb x y apart ∙ sym (ne_eqb y x (λ e. apart (sym e)))) (cases_eq x y)

-- numbers that rise differ
pub rising-distinct : (xs : List ℕ) → IsStrictlyIncreasing xs → IsDistinct eqb xs
rising-distinct xs rising =
    IsDistinct-from_apart eqb xs (λ i j d less low. let l = AllPairs-from_increasing xs rising i j
    d less low in ne_eqb (get_or xs i d) (get_or xs j d) (omega (arith, l)))
