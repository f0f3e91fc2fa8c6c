-- Lists beside each other.
use Rattle.std.proofs.Common.{◌≡◌, ℕ, zero, suc, Bool, true, false, cond, List, [], ◌∷◌, ◌++◌}
use Rattle.std.proofs.Common.{Some, get_or, length, map, refl, sym, ap, subst, ◌∙◌, arith}
use Rattle.std.specs.List.{All, AllZip, Contains, filter, slice_get}
use Rattle.std.proofs.lemmas.List.Elements.{All-cons, All-head, All-nil, All-tail}
use Rattle.std.proofs.lemmas.List.Elements.{Contains-get_or}
use Rattle.std.proofs.lemmas.Option.{get_or_from_slice_get, slice_get_within}

pub contains-at : {X : Type 0} (xs : List X) (k : ℕ) (x : X) → slice_get xs k ≡ Some x
    → Contains xs x
contains-at xs k x is = (k, slice_get_within xs k x is, get_or_from_slice_get xs k x x is)

pub contains-map : {X Y : Type 0} (f : X → Y) (xs : List X) (x : X) → Contains xs x
    → Contains (map f xs) (f x)
contains-map f [] x there = absurd (let low = there.1 in omega (arith, low))
contains-map f (y ∷ ys) x (zero, low, is) = (0, omega arith, ap f is)
contains-map f (y ∷ ys) x (suc k, low, is) =
    let rest = contains-map f ys x (k, omega (arith, low), is) in
    (suc rest.0, let more = rest.1 in omega (arith, more), rest.2)

pub contains-filter : {X : Type 0} (test : X → Bool) (xs : List X) (x : X) → test x ≡ true
    → Contains xs x → Contains (filter test xs) x
contains-filter test [] x is there = absurd (let low = there.1 in omega (arith, low))
contains-filter test (y ∷ ys) x is (zero, low, same) =
    subst (λ l. Contains l x)
    (sym (ap (λ b. cond b (y ∷ filter test ys) (filter test ys)) (ap test same ∙ is)))
    (0, omega arith, same)
contains-filter test (y ∷ ys) x is (suc k, low, same) =
    at (test y) (contains-filter test ys x is (k, omega (arith, low), same))
  where
    at : (b : Bool) → Contains (filter test ys) x
        → Contains (cond b (y ∷ filter test ys) (filter test ys)) x
    at true there = (suc there.0, let more = there.1 in omega (arith, more), there.2)
    at false there = there

-- another relation, where something holds of each item of the first list
pub zip-with : {A B : Type 0} (S : A → Type 0) (P Q : A → B → Type 0)
    → ((a : A) (b : B) → S a → P a b → Q a b) → (xs : List A) (ys : List B) → All S xs
    → AllZip P xs ys → AllZip Q xs ys
zip-with S P Q f [] [] each all = all
zip-with S P Q f [] (y ∷ ys) each all = absurd all
zip-with S P Q f (x ∷ xs) [] each all = absurd all
zip-with S P Q f (x ∷ xs) (y ∷ ys) each all =
    (f x y (All-head S x xs each) all.0, zip-with S P Q f xs ys (All-tail S x xs each) all.1)

pub zip-map : {A B C : Type 0} (S : A → C → Type 0) (g : B → C) (xs : List A) (ys : List B)
    → AllZip (λ x y. S x (g y)) xs ys → AllZip S xs (map g ys)
zip-map S g [] [] all = tt
zip-map S g [] (y ∷ ys) all = absurd all
zip-map S g (x ∷ xs) [] all = absurd all
zip-map S g (x ∷ xs) (y ∷ ys) all = (all.0, zip-map S g xs ys all.1)

pub zip-first : {A B : Type 0} (P : A → B → Type 0) (Q : A → Type 0)
    → ((a : A) (b : B) → P a b → Q a) → (xs : List A) (ys : List B) → AllZip P xs ys → All Q xs
zip-first P Q f [] [] all = All-nil Q
zip-first P Q f [] (y ∷ ys) all = absurd all
zip-first P Q f (x ∷ xs) [] all = absurd all
zip-first P Q f (x ∷ xs) (y ∷ ys) all =
    All-cons Q x xs (f x y all.0) (zip-first P Q f xs ys all.1)

pub zip-second : {A B : Type 0} (P : A → B → Type 0) (Q : B → Type 0)
    → ((a : A) (b : B) → P a b → Q b) → (xs : List A) (ys : List B) → AllZip P xs ys → All Q ys
zip-second P Q f [] [] all = All-nil Q
zip-second P Q f [] (y ∷ ys) all = absurd all
zip-second P Q f (x ∷ xs) [] all = absurd all
zip-second P Q f (x ∷ xs) (y ∷ ys) all =
    All-cons Q y ys (f x y all.0) (zip-second P Q f xs ys all.1)

-- what holds of each image
pub from-images : {X Y : Type 0} (P : Y → Type 0) (f : X → Y) (xs : List X) → All P (map f xs)
    → All (λ x. P (f x)) xs
from-images P f [] all = All-nil (λ x. P (f x))
from-images P f (x ∷ xs) all = All-cons (λ y. P (f y)) x xs (All-head P (f x) (map f xs) all)
    (from-images P f xs (All-tail P (f x) (map f xs) all))

-- what holds of each item of a list for its place there
pub all-there : {X : Type 0} (P : X → Type 0) (xs : List X) → ((x : X) → Contains xs x → P x)
    → All P xs
all-there P xs f k d low = f (get_or xs k d) (Contains-get_or xs k d low)

-- one pair more
pub zip-push : {A B : Type 0} (R : A → B → Type 0) (xs : List A) (ys : List B) (x : A) (y : B)
    → AllZip R xs ys → R x y → AllZip R (xs ++ x ∷ []) (ys ++ y ∷ [])
zip-push R [] [] x y all it = (it, tt)
zip-push R [] (b ∷ ys) x y all it = absurd all
zip-push R (a ∷ xs) [] x y all it = absurd all
zip-push R (a ∷ xs) (b ∷ ys) x y all it = (all.0, zip-push R xs ys x y all.1 it)

pub zip-none : {A B : Type 0} (R : A → B → Type 0) (ys : List B) → AllZip R [] ys → ys ≡ []
zip-none R [] all = refl
zip-none R (y ∷ ys) all = absurd all

pub none-long : {X : Type 0} (xs : List X) → length xs ≡ 0 → xs ≡ []
none-long [] none = refl
none-long (x ∷ xs) none = absurd (omega (arith, none))
