-- Lists place by place.
use Rattle.std.proofs.Common.{◌≡◌, ◌≢◌, ℕ, zero, suc, ◌+◌, Bool, true, false, cond, List, []}
use Rattle.std.proofs.Common.{◌∷◌, ◌++◌, length, map, set, Some, None, refl, sym, ap, subst}
use Rattle.std.proofs.Common.{◌∙◌, ◌<◌, add-one, arith, drop, drop-cons, get_or}
use Rattle.std.proofs.Common.{not, nat_lt, ◌≤◌, ⊎_elim}
use Rattle.std.proofs.lemmas.Bool.{cases_Bool, ltb-false}
use Rattle.std.proofs.lemmas.List.Elements.{All-cons, All-nil}
use Rattle.std.proofs.lemmas.Option.{slice_get_read}
use Rattle.std.specs.List.{All, AllZip, find, position, position_or_len, slice_get, zip}

-- the item of the other list at a place
pub zip-at : {A B : Type 0} (R : A → B → Type 0) (xs : List A) (ys : List B) (k : ℕ) (y : B)
    → AllZip R xs ys
    → slice_get ys k ≡ Some y → (x : A) × (slice_get xs k ≡ Some x) × R x y
zip-at R [] [] k y all is = absurd (cc)
zip-at R [] (z ∷ ys) k y all is = absurd all
zip-at R (x ∷ xs) [] k y all is = absurd all
zip-at R (x ∷ xs) (z ∷ ys) zero y all is = let same : z ≡ y = cc in
    (x, refl, subst (R x) same all.0)
zip-at R (x ∷ xs) (z ∷ ys) (suc k) y all is = zip-at R xs ys k y all.1 is

pub zip-at-first : {A B : Type 0} (R : A → B → Type 0) (xs : List A) (ys : List B) (k : ℕ) (x : A)
    → AllZip R xs ys
    → slice_get xs k ≡ Some x → (y : B) × (slice_get ys k ≡ Some y) × R x y
zip-at-first R [] [] k x all is = absurd (cc)
zip-at-first R [] (z ∷ ys) k x all is = absurd all
zip-at-first R (w ∷ xs) [] k x all is = absurd all
zip-at-first R (w ∷ xs) (z ∷ ys) zero x all is = let same : w ≡ x = cc in
    (z, refl, subst (λ (v : _). R v z) same all.0)
zip-at-first R (w ∷ xs) (z ∷ ys) (suc k) x all is = zip-at-first R xs ys k x all.1 is

-- another relation at each place
pub zip-other : {A B : Type 0} (R S : A → B → Type 0) (xs : List A) (ys : List B) → AllZip R xs ys
    → ((k : ℕ) (x : A) (y : B) → slice_get xs k ≡ Some x → slice_get ys k ≡ Some y → R x y → S x y)
    → AllZip S xs ys
zip-other R S [] [] all f = tt
zip-other R S [] (y ∷ ys) all f = absurd all
zip-other R S (x ∷ xs) [] all f = absurd all
zip-other R S (x ∷ xs) (y ∷ ys) all
    f = (f 0 x y refl refl all.0, zip-other R S xs ys all.1 (λ k. f (suc k)))

-- one item is another
pub zip-set : {A B : Type 0} (R S : A → B → Type 0) (xs : List A) (ys : List B) (at : ℕ) (new : B)
    → AllZip R xs ys
    → ((x : A) → slice_get xs at ≡ Some x → S x new)
    → ((k : ℕ) (x : A) (y : B) → k ≢ at → slice_get xs k ≡ Some x → slice_get ys k ≡ Some y → R x y
    → S x y)
    → AllZip S xs (set ys at new)
zip-set R S [] [] at new all it f = tt
zip-set R S [] (y ∷ ys) at new all it f = absurd all
zip-set R S (x ∷ xs) [] at new all it f = absurd all
zip-set R S (x ∷ xs) (y ∷ ys) zero new all it f =
    (it x refl, zip-other R S xs ys all.1 (λ k a b. f (suc k) a b (λ e. absurd (cc))))
zip-set R S (x ∷ xs) (y ∷ ys) (suc at) new all it f = (
  f 0 x y (λ e. absurd (cc)) refl refl all.0,
  zip-set R S xs ys at new all.1 it
      (λ k a b other. f (suc k) a b (λ e. other (omega (arith, e)))),
)

-- the same as a map where each item is the image
pub zip-same-map : {A B C : Type 0} (R : A → B → Type 0) (f : A → C) (g : B → C) (xs : List A)
    (ys : List B) → AllZip R xs ys
    → ((x : A) (y : B) → R x y → g y ≡ f x) → map g ys ≡ map f xs
zip-same-map R f g [] [] all same = refl
zip-same-map R f g [] (y ∷ ys) all same = absurd all
zip-same-map R f g (x ∷ xs) [] all same = absurd all
zip-same-map R f g (x ∷ xs) (y ∷ ys) all same = λ i. same x y all.0 i ∷ zip-same-map R f g xs ys
    all.1 same i

pub zip-push : {A B : Type 0} (R : A → B → Type 0) (xs : List A) (ys : List B) (x : A) (y : B)
    → AllZip R xs ys → R x y
    → AllZip R (xs ++ x ∷ []) (ys ++ y ∷ [])
zip-push R [] [] x y all it = (it, tt)
zip-push R [] (b ∷ ys) x y all it = absurd all
zip-push R (a ∷ xs) [] x y all it = absurd all
zip-push R (a ∷ xs) (b ∷ ys) x y all it = (all.0, zip-push R xs ys x y all.1 it)

-- the first place of an item, in lists that pass alike
zip-long : {A B : Type 0} (R : A → B → Type 0) (xs : List A) (ys : List B) → AllZip R xs ys
    → length ys ≡ length xs
zip-long R [] [] all = refl
zip-long R [] (y ∷ ys) all = absurd all
zip-long R (x ∷ xs) [] all = absurd all
zip-long R (x ∷ xs) (y ∷ ys) all = ap suc (zip-long R xs ys all.1)

zip-first : {A B : Type 0} (R : A → B → Type 0) (p : A → Bool) (q : B → Bool) (xs : List A)
    (ys : List B) → AllZip R xs ys
    → ((x : A) (y : B) → R x y → p x ≡ q y) → position_or_len q ys ≡ position_or_len p xs
zip-first R p q [] [] all same = refl
zip-first R p q [] (y ∷ ys) all same = absurd all
zip-first R p q (x ∷ xs) [] all same = absurd all
zip-first R p q (x ∷ xs) (y ∷ ys) all same =
    ap (λ n. cond (not (q y)) (1 + n) 0) (zip-first R p q xs ys all.1 same)
    ∙ ap (λ t. cond (not t) (1 + position_or_len p xs) 0) (sym (same x y all.0))

pub zip-position : {A B : Type 0} (R : A → B → Type 0) (p : A → Bool) (q : B → Bool) (xs : List A)
    (ys : List B) → AllZip R xs ys
    → ((x : A) (y : B) → R x y → p x ≡ q y) → position q ys ≡ position p xs
zip-position R p q xs ys all same =
    ap (λ n. cond (nat_lt (position_or_len q ys) n) (Some (position_or_len q ys)) None)
    (zip-long R xs ys all)
    ∙ ap (λ k. cond (nat_lt k (length xs)) (Some k) None) (zip-first R p q xs ys all same)

not-within : (n size : ℕ) → cond (nat_lt n size) (Some n) None ≡ None → size ≤ n
not-within n size none = ⊎_elim
    (λ (low : nat_lt n size ≡ true). absurd
    (let no' : Some n ≡ None = sym (ap (λ b. cond b (Some n) None) low) ∙ none in cc))
    (λ (high : nat_lt n size ≡ false). ltb-false n size high)
    (cases_Bool (nat_lt n size))

not-first : {X : Type 0} (p : X → Bool) (y : X) (ys : List X)
    → length (y ∷ ys) ≤ position_or_len p (y ∷ ys)
    → (p y ≡ false) × (length ys ≤ position_or_len p ys)
not-first p y ys far = ⊎_elim
    (λ (yes : p y ≡ true).
    absurd (let z : position_or_len p (y ∷ ys) ≡ 0 = ap
    (λ b. cond (not b) (1 + position_or_len p ys) 0) yes in omega (arith, z, far)))
    (λ (no' : p y ≡ false).
    let more : position_or_len p (y ∷ ys) ≡ 1 + position_or_len p ys = ap
    (λ b. cond (not b) (1 + position_or_len p ys) 0) no' in
    (no', omega (arith, more, far)))
    (cases_Bool (p y))

all-fail : {X : Type 0} (p : X → Bool) (ys : List X) (j : ℕ) (x : X)
    → length ys ≤ position_or_len p ys → slice_get ys j ≡ Some x → p x ≡ false
all-fail p [] j x far is = absurd (cc)
all-fail p (y ∷ ys) zero x far is = let same : y ≡ x = cc in ap p (sym same)
    ∙ (not-first p y ys far).0
all-fail p (y ∷ ys) (suc j) x far is = all-fail p ys j x (not-first p y ys far).1 is

pub position-none : {X : Type 0} (p : X → Bool) (xs : List X) (k : ℕ) (x : X) → position p xs ≡ None
    → slice_get xs k ≡ Some x → p x ≡ false
position-none p xs k x none is = all-fail p xs k x
    (not-within (position_or_len p xs) (length xs) none) is

-- an item that is there
pub set-there : {X : Type 0} (xs : List X) (at : ℕ) (x : X) → slice_get xs at ≡ Some x
    → set xs at x ≡ xs
set-there [] at x is = absurd (cc)
set-there (y ∷ xs) zero x is = let same : y ≡ x = cc in λ i. sym same i ∷ xs
set-there (y ∷ xs) (suc at) x is = λ i. y ∷ set-there xs at x is i

-- a list of no items
pub none-long : {X : Type 0} (xs : List X) (size : ℕ) → size ≡ length xs → size ≡ 0 → xs ≡ []
none-long [] size is none = refl
none-long (x ∷ xs) size is none = absurd (omega (arith, is, none))

-- what each item of the second list keeps
pub zip-each : {A B : Type 0} (R : A → B → Type 0) (P : B → Type 0) (xs : List A) (ys : List B)
    → AllZip R xs ys
    → ((x : A) (y : B) → R x y → P y) → All P ys
zip-each R P [] [] all f = All-nil P
zip-each R P [] (y ∷ ys) all f = absurd all
zip-each R P (x ∷ xs) [] all f = absurd all
zip-each R P (x ∷ xs) (y ∷ ys) all f = All-cons P y ys (f x y all.0) (zip-each R P xs ys all.1 f)

-- two relations one after another
pub zip-both : {A B C : Type 0} (R : A → B → Type 0) (S : B → C → Type 0) (T : A → C → Type 0)
    (xs : List A) (ys : List B) (zs : List C)
    → AllZip R xs ys → AllZip S ys zs → ((x : A) (y : B) (z : C) → R x y → S y z → T x z)
    → AllZip T xs zs
zip-both R S T [] [] [] a b f = tt
zip-both R S T [] [] (z ∷ zs) a b f = absurd b
zip-both R S T [] (y ∷ ys) zs a b f = absurd a
zip-both R S T (x ∷ xs) [] zs a b f = absurd a
zip-both R S T (x ∷ xs) (y ∷ ys) [] a b f = absurd b
zip-both R S T (x ∷ xs) (y ∷ ys) (z ∷ zs) a b
    f = (f x y z a.0 b.0, zip-both R S T xs ys zs a.1 b.1 f)

-- a list from a place on is the item there and those behind it
cut-at : {A : Type 0} (xs : List A) (at : ℕ) (x : A) → at < length xs → x ≡ get_or xs at x
    → drop at xs ≡ x ∷ drop (at + 1) xs
cut-at xs at x within is =
    drop-cons xs at x within ∙ ap (λ first. first ∷ drop (suc at) xs) (sym is)
    ∙ ap (λ next. x ∷ drop next xs) (sym (add-one at))

-- and so it is with pairs
pub pairs-cut : {A B : Type 0} (xs : List A) (ys : List B) (at : ℕ) (x : A) (y : B)
    → at < length xs → at < length ys → x ≡ get_or xs at x → y ≡ get_or ys at y
    → zip (drop at xs) (drop at ys) ≡ (x, y) ∷ zip (drop (at + 1) xs) (drop (at + 1) ys)
pairs-cut xs ys at x y within there is that =
    ap (λ front. zip front (drop at ys)) (cut-at xs at x within is)
    ∙ ap (λ front. zip (x ∷ drop (at + 1) xs) front) (cut-at ys at y there that)

-- what is found where it stands alone
pub found-at : {X : Type 0} (p : X → Bool) (xs : List X) (at : ℕ) (x : X)
    → slice_get xs at ≡ Some x → p x ≡ true
    → ((k : ℕ) (y : X) → k ≢ at → slice_get xs k ≡ Some y → p y ≡ false)
    → find p xs ≡ Some x
found-at p [] at x is passes others = absurd (cc)
found-at p (y ∷ xs) zero x is passes others =
    let there : y ≡ x = cc in
    ap (λ b. cond b (Some y) (find p xs)) (ap p there ∙ passes) ∙ ap Some there
found-at p (y ∷ xs) (suc at) x is passes others =
    ap (λ b. cond b (Some y) (find p xs)) (others 0 y (λ e. absurd (cc)) refl)
    ∙ found-at p xs at x is passes (λ k z apart. others (suc k) z (λ e. apart (omega (arith, e))))

-- so it is once another one stands there
pub set-found : {X : Type 0} (p : X → Bool) (xs : List X) (at : ℕ) (x y : X)
    → slice_get xs at ≡ Some x → p y ≡ true
    → ((k : ℕ) (z : X) → k ≢ at → slice_get xs k ≡ Some z → p z ≡ false)
    → find p (set xs at y) ≡ Some y
set-found p [] at x y is passes others = absurd (cc)
set-found p (z ∷ xs) zero x y is passes others = ap (λ b. cond b (Some y) (find p xs)) passes
set-found p (z ∷ xs) (suc at) x y is passes others =
    ap (λ b. cond b (Some z) (find p (set xs at y))) (others 0 z (λ e. absurd (cc)) refl)
    ∙ set-found p xs at x y is passes
    (λ k w apart. others (suc k) w (λ e. apart (omega (arith, e))))

-- what holds between the items of lists holds between images
pub zip-map : {A B C : Type 0} (R : A → B → Type 0) (S : A → C → Type 0) (g : B → C) (xs : List A)
    (ys : List B) → AllZip R xs ys
    → ((x : A) (y : B) → R x y → S x (g y)) → AllZip S xs (map g ys)
zip-map R S g [] [] all f = tt
zip-map R S g [] (y ∷ ys) all f = absurd all
zip-map R S g (x ∷ xs) [] all f = absurd all
zip-map R S g (x ∷ xs) (y ∷ ys) all f = (f x y all.0, zip-map R S g xs ys all.1 f)

-- what is looked for and stands nowhere
pub find-none : {X : Type 0} (p : X → Bool) (xs : List X)
    → ((k : ℕ) (y : X) → slice_get xs k ≡ Some y → p y ≡ false) → find p xs ≡ None
find-none p [] others = refl
find-none p (y ∷ xs) others =
    ap (λ b. cond b (Some y) (find p xs)) (others 0 y refl)
    ∙ find-none p xs (λ k. others (suc k))

-- what is found stands somewhere
pub found-place : {X : Type 0} (p : X → Bool) (xs : List X) (x : X) → find p xs ≡ Some x
    → (k : ℕ) × (slice_get xs k ≡ Some x) × (p x ≡ true)
found-place p [] x found = absurd (cc)
found-place p (y ∷ xs) x found = ⊎_elim
    (λ (yes : p y ≡ true).
    let first : find p (y ∷ xs) ≡ Some y = ap (λ b. cond b (Some y) (find p xs)) yes in
    let both : Some y ≡ Some x = sym first ∙ found in
    let same : y ≡ x = cc in
    (0, ap Some same, ap p (sym same) ∙ yes))
    (λ (no' : p y ≡ false).
    let rest = found-place p xs x
    (sym (ap (λ b. cond b (Some y) (find p xs)) no') ∙ found) in
    (suc rest.0, rest.1, rest.2))
    (cases_Bool (p y))

-- what holds at each place of a list
pub from-places : {X : Type 0} (P : X → Type 0) (xs : List X)
    → ((k : ℕ) (x : X) → slice_get xs k ≡ Some x → P x) → All P xs
from-places P [] each = All-nil P
from-places P (x ∷ xs) each =
    All-cons P x xs (each 0 x refl) (from-places P xs (λ k. each (suc k)))

-- pairs of the items of two lists, place by place
pub zip-there : {A B : Type 0} (xs : List A) (ys : List B) (k : ℕ) (x : A) (y : B)
    → slice_get xs k ≡ Some x → slice_get ys k ≡ Some y → slice_get (zip xs ys) k ≡ Some (x, y)
zip-there [] ys k x y at-x at-y = absurd (cc)
zip-there (w ∷ xs) [] k x y at-x at-y = absurd (cc)
zip-there (w ∷ xs) (z ∷ ys) zero x y at-x at-y =
    let one : w ≡ x = cc in let two : z ≡ y = cc in λ i. Some (one i, two i)
zip-there (w ∷ xs) (z ∷ ys) (suc k) x y at-x at-y = zip-there xs ys k x y at-x at-y

pub zip-parts : {A B : Type 0} (xs : List A) (ys : List B) (k : ℕ) (of : A × B)
    → slice_get (zip xs ys) k ≡ Some of
    → (slice_get xs k ≡ Some of.0) × (slice_get ys k ≡ Some of.1)
zip-parts [] ys k of is = absurd (cc)
zip-parts (w ∷ xs) [] k of is = absurd (cc)
zip-parts (w ∷ xs) (z ∷ ys) zero of is =
    let same : (w, z) ≡ of = cc in (λ i. Some (same i).0, λ i. Some (same i).1)
zip-parts (w ∷ xs) (z ∷ ys) (suc k) of is = zip-parts xs ys k of is

-- an image stands for an item
pub map-there : {A B : Type 0} (g : A → B) (xs : List A) (k : ℕ) (y : B)
    → slice_get (map g xs) k ≡ Some y → (x : A) × (slice_get xs k ≡ Some x) × (g x ≡ y)
map-there g [] k y is = absurd (cc)
map-there g (x ∷ xs) zero y is = let same : g x ≡ y = cc in (x, refl, same)
map-there g (x ∷ xs) (suc k) y is = map-there g xs k y is

-- the item that a loop over a slice reads
pub item-there : {X : Type 0} (items xs : List X) (at : ℕ) (x : X) → items ≡ xs
    → at < length items → x ≡ get_or items at x → slice_get xs at ≡ Some x
item-there items xs at x same low is =
    subst (λ (l : List _). slice_get l at ≡ Some x) same
    (slice_get_read items (length items) at x refl low is)
