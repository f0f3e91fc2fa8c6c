-- The items of a list from a place on.
use Rattle.std.proofs.Common.{◌≡◌, ℕ, zero, suc, ◌+◌, ◌<◌, ◌≤◌, List, [], ◌∷◌, length, get_or, drop, refl}
use Rattle.std.proofs.Common.{sym, ap, ◌∙◌, arith, Some}
use Rattle.std.specs.Prelude.{slice_get}

pub next-get : {X : Type 0} (xs : List X) (i : ℕ) (d : X) → i < length xs
    → drop i xs ≡ get_or xs i d ∷ drop (i + 1) xs
next-get [] i d h = absurd (omega (arith, h))
next-get (x ∷ xs) zero d h = refl
next-get {X} (x ∷ xs) (suc i) d h =
    let e : suc (i + 1) ≡ suc i + 1 = omega arith in
    next-get xs i d (omega (arith, h))
    ∙ ap (λ n. get_or xs i d ∷ drop n (x ∷ xs)) e

pub next-in : {X : Type 0} (xs : List X) (i : ℕ) (x : X) → i < length xs → x ≡ get_or xs i x
    → drop i xs ≡ x ∷ drop (i + 1) xs
next-in {X} xs i x h is =
    next-get xs i x h ∙ ap (λ (y : X). y ∷ drop (i + 1) xs) (sym is)

pub none-left : {X : Type 0} (xs : List X) (i : ℕ) → length xs ≤ i → drop i xs ≡ []
none-left [] zero h = refl
none-left [] (suc i) h = refl
none-left (x ∷ xs) zero h = absurd (omega (arith, h))
none-left (x ∷ xs) (suc i) h = none-left xs i (omega (arith, h))

pub get-there : {X : Type 0} (xs : List X) (i : ℕ) (d : X) → i < length xs
    → slice_get xs i ≡ Some (get_or xs i d)
get-there [] i d h = absurd (omega (arith, h))
get-there (x ∷ xs) zero d h = refl
get-there (x ∷ xs) (suc i) d h = get-there xs i d (omega (arith, h))
