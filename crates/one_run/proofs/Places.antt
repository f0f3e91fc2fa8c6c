-- Places of a list in which one item was written.
use Rattle.std.proofs.Common.{◌≡◌, ◌≢◌, ◌⊎◌, ℕ, zero, suc, ◌+◌, Bool, true, false, cond, List}
use Rattle.std.proofs.Common.{[], ◌∷◌, length, map, set, not, nat_lt, Some, None, inl, inr}
use Rattle.std.proofs.Common.{refl, sym, ap, subst, ◌∙◌, arith}
use Rattle.std.specs.List.{All, position, position_or_len, slice_get, zip}

pub some-same : {X : Type 0} {a b : X} → Some a ≡ Some b → a ≡ b
some-same is = cc

-- what a place of such a list has
pub get-set : {X : Type 0} (xs : List X) (at k : ℕ) (y z : X) → slice_get (set xs at y) k ≡ Some z
    → ((k ≡ at) × (z ≡ y)) ⊎ (slice_get xs k ≡ Some z)
get-set [] at k y z is = inr is
get-set (x ∷ xs) zero zero y z is = inl (refl, sym (some-same is))
get-set (x ∷ xs) zero (suc k) y z is = inr is
get-set (x ∷ xs) (suc at) zero y z is = inr is
get-set (x ∷ xs) (suc at) (suc k) y z is = elim (get-set xs at k y z is) [
  | inl here ↦ inl (ap suc here.0, here.1)
  | inr other ↦ inr other
]

pub set-get : {X : Type 0} (xs : List X) (at : ℕ) (y z : X) → slice_get xs at ≡ Some z
    → slice_get (set xs at y) at ≡ Some y
set-get [] at y z is = absurd (let no' : None ≡ Some z = is in cc)
set-get (x ∷ xs) zero y z is = refl
set-get (x ∷ xs) (suc at) y z is = set-get xs at y z is

pub set-other : {X : Type 0} (xs : List X) (at k : ℕ) (y : X) → k ≢ at
    → slice_get (set xs at y) k ≡ slice_get xs k
set-other [] at k y other = refl
set-other (x ∷ xs) zero zero y other = absurd (other refl)
set-other (x ∷ xs) zero (suc k) y other = refl
set-other (x ∷ xs) (suc at) zero y other = refl
set-other (x ∷ xs) (suc at) (suc k) y other = set-other xs at k y (λ is. other (ap suc is))

-- each item at its place
pub all-at : {X : Type 0} (P : X → Type 0) (xs : List X) (k : ℕ) (x : X) → All P xs
    → slice_get xs k ≡ Some x → P x
all-at P [] k x all is = absurd (let no' : None ≡ Some x = is in cc)
all-at P (y ∷ xs) zero x all is = subst P (some-same is) (all 0 x (omega arith))
all-at P (y ∷ xs) (suc k) x all is =
    all-at P xs k x (λ j d within. all (suc j) d (omega (arith, within))) is

pub map-at : {X Y : Type 0} (f : X → Y) (xs : List X) (k : ℕ) (y : Y)
    → slice_get (map f xs) k ≡ Some y → (x : X) × (slice_get xs k ≡ Some x) × (y ≡ f x)
map-at f [] k y is = absurd (let no' : None ≡ Some y = is in cc)
map-at f (x ∷ xs) zero y is = (x, refl, sym (some-same is))
map-at f (x ∷ xs) (suc k) y is = map-at f xs k y is

pub at-map : {X Y : Type 0} (f : X → Y) (xs : List X) (k : ℕ) (x : X) → slice_get xs k ≡ Some x
    → slice_get (map f xs) k ≡ Some (f x)
at-map f [] k x is = absurd (let no' : None ≡ Some x = is in cc)
at-map f (y ∷ xs) zero x is = ap (λ (z : _). Some (f z)) (some-same is)
at-map f (y ∷ xs) (suc k) x is = at-map f xs k x is

-- and of two lists
pub at-zip : {X Y : Type 0} (xs : List X) (ys : List Y) (k : ℕ) (x : X) (y : Y)
    → slice_get xs k ≡ Some x → slice_get ys k ≡ Some y
    → slice_get (zip xs ys) k ≡ Some (x, y)
at-zip [] ys k x y is is' = absurd (let no' : None ≡ Some x = is in cc)
at-zip (a ∷ xs) [] k x y is is' = absurd (let no' : None ≡ Some y = is' in cc)
at-zip (a ∷ xs) (b ∷ ys) zero x y is is' = λ i. Some (some-same is i, some-same is' i)
at-zip (a ∷ xs) (b ∷ ys) (suc k) x y is is' = at-zip xs ys k x y is is'

pub zip-at : {X Y : Type 0} (xs : List X) (ys : List Y) (k : ℕ) (z : X × Y)
    → slice_get (zip xs ys) k ≡ Some z
    → (slice_get xs k ≡ Some z.0) × (slice_get ys k ≡ Some z.1)
zip-at [] ys k z is = absurd (let no' : None ≡ Some z = is in cc)
zip-at (a ∷ xs) [] k z is = absurd (let no' : None ≡ Some z = is in cc)
zip-at {X} {Y} (a ∷ xs) (b ∷ ys) zero z is =
    let same : (a, b) ≡ z = some-same is in
    (ap (λ (w : X × Y). Some w.0) same, ap (λ (w : X × Y). Some w.1) same)
zip-at (a ∷ xs) (b ∷ ys) (suc k) z is = zip-at xs ys k z is

-- the first that passes does
first-passes : {X : Type 0} (p : X → Bool) (xs : List X) (x : X)
    → slice_get xs (position_or_len p xs) ≡ Some x → p x ≡ true
first-passes p [] x is = absurd (let no' : None ≡ Some x = is in cc)
first-passes p (y ∷ ys) x is = at (p y) refl is (first-passes p ys x)
  where
    at : (b : Bool) → p y ≡ b
        → slice_get (y ∷ ys) (cond (not b) (1 + position_or_len p ys) 0) ≡ Some x
        → (slice_get ys (position_or_len p ys) ≡ Some x → p x ≡ true) → p x ≡ true
    at true here is' later = ap p (sym (some-same is')) ∙ here
    at false here is' later =
        let next : 1 + position_or_len p ys ≡ suc (position_or_len p ys) = omega arith in
        later (subst (λ k. slice_get (y ∷ ys) k ≡ Some x) next is')

pub position-passes : {X : Type 0} (p : X → Bool) (xs : List X) (k : ℕ) (x : X)
    → position p xs ≡ Some k → slice_get xs k ≡ Some x → p x ≡ true
position-passes p xs k x found is = at (nat_lt (position_or_len p xs) (length xs)) found
  where
    at : (b : Bool) → cond b (Some (position_or_len p xs)) None ≡ Some k → p x ≡ true
    at true found' = first-passes p xs x
        (subst (λ j. slice_get xs j ≡ Some x) (sym (some-same found')) is)
    at false found' = absurd (let no' : None ≡ Some k = found' in cc)
