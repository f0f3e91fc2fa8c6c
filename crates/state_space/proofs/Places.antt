-- The places of a list with one element more.
use Rattle.std.proofs.Common.{◌≡◌, ℕ, zero, suc, ◌≤◌, ◌<◌, List, [], ◌∷◌, ◌++◌, length}
use Rattle.std.proofs.Common.{Some, None, refl, sym, ap, ◌∙◌, arith, inl, inr, ◌⊎◌}
use Rattle.std.specs.Prelude.{slice_get}
use Rattle.std.specs.Map.{values_of}

pub at-front : {X : Type 0} (xs ys : List X) (i : ℕ) (x : X) → slice_get xs i ≡ Some x
    → slice_get (xs ++ ys) i ≡ Some x
at-front [] ys i x is = absurd (let no' : None ≡ Some x = is in cc)
at-front (y ∷ xs) ys zero x is = is
at-front (y ∷ xs) ys (suc i) x is = at-front xs ys i x is

pub at-end : {X : Type 0} (xs : List X) (x : X) → slice_get (xs ++ x ∷ []) (length xs) ≡ Some x
at-end [] x = refl
at-end (y ∷ xs) x = at-end xs x

pub at-snoc : {X : Type 0} (xs : List X) (x y : X) (i : ℕ)
    → slice_get (xs ++ x ∷ []) i ≡ Some y
    → (slice_get xs i ≡ Some y) ⊎ ((i ≡ length xs) × (y ≡ x))
at-snoc [] x y zero is = inr (refl, let e : Some x ≡ Some y = is in cc)
at-snoc [] x y (suc i) is = absurd (let no' : None ≡ Some y = is in cc)
at-snoc (z ∷ xs) x y zero is = inl is
at-snoc (z ∷ xs) x y (suc i) is =
    elim (at-snoc xs x y i is) [ inl h ↦ inl h | inr h ↦ inr (ap suc h.0, h.1) ]

pub at-within : {X : Type 0} (xs : List X) (i : ℕ) (x : X) → slice_get xs i ≡ Some x
    → i < length xs
at-within [] i x is = absurd (let no' : None ≡ Some x = is in cc)
at-within (y ∷ xs) zero x is = omega arith
at-within (y ∷ xs) (suc i) x is = let h = at-within xs i x is in omega (arith, h)

pub at-some : {X : Type 0} (xs : List X) (i : ℕ) → i < length xs
    → (x : X) × (slice_get xs i ≡ Some x)
at-some [] i h = absurd (omega (arith, h))
at-some (x ∷ xs) zero h = (x, refl)
at-some (x ∷ xs) (suc i) h = at-some xs i (omega (arith, h))

pub at-same : {X : Type 0} (xs : List X) (i : ℕ) (x y : X) → slice_get xs i ≡ Some x
    → slice_get xs i ≡ Some y → x ≡ y
at-same xs i x y a b = let e : Some x ≡ Some y = sym a ∙ b in cc

pub below-or : (a b : ℕ) → (a < b) ⊎ (b ≤ a)
below-or zero zero = inr (omega arith)
below-or zero (suc b) = inl (omega arith)
below-or (suc a) zero = inr (omega arith)
below-or (suc a) (suc b) =
    elim (below-or a b) [ inl h ↦ inl (omega (arith, h)) | inr h ↦ inr (omega (arith, h)) ]

-- the pair of a second part
pub at-value : {X Y : Type 0} (es : List (X × Y)) (i : ℕ) (y : Y)
    → slice_get (values_of es) i ≡ Some y → (x : X) × (slice_get es i ≡ Some (x, y))
at-value [] i y is = absurd (let no' : None ≡ Some y = is in cc)
at-value (e ∷ es) zero y is =
    let h : Some e.1 ≡ Some y = is in
    let same : e.1 ≡ y = cc in
    (e.0, ap (λ v. Some (e.0, v)) same)
at-value (e ∷ es) (suc i) y is = at-value es i y is
