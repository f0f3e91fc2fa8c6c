-- Sums and counts over lists.
use Rattle.std.proofs.Common.{◌≡◌, ℕ, zero, suc, ◌+◌, ◌≤◌, false, cond, List, []}
use Rattle.std.proofs.Common.{◌∷◌, map, refl, sym, ap, ◌∙◌, arith, inl, inr}
use Rattle.std.specs.Prelude.{Contains, flat_map, nat_eq, ◌==◌}
use Rattle.std.specs.List.{AllByRecursion as Each, IsDistinct, count_by, sum_by}
use Rattle.std.proofs.lemmas.Bool.{cases_Bool, eqb-true}
use Rattle.std.proofs.lemmas.List.Sums.{sum_by-append, sum_by-cons}
use Rattle.ring_laws.proofs.Lists.{count-cons}

-- the sum over a list of which each has a list of its own
pub sum-flat : {X Y : Type 0} (f : Y → ℕ) (parts : X → List Y) (xs : List X)
    → sum_by f (flat_map parts xs) ≡ sum_by (λ x. sum_by f (parts x)) xs
sum-flat f parts [] = refl
sum-flat f parts (x ∷ xs) =
    sum_by-append f (parts x) (flat_map parts xs)
    ∙ ap (λ n. sum_by f (parts x) + n) (sum-flat f parts xs)
    ∙ sym (sum_by-cons (λ y. sum_by f (parts y)) x xs)

-- a sum over what a map made
pub sum-mapped : {X Y : Type 0} (f : Y → ℕ) (g : X → Y) (xs : List X)
    → sum_by f (map g xs) ≡ sum_by (λ x. f (g x)) xs
sum-mapped f g [] = refl
sum-mapped f g (x ∷ xs) =
    sum_by-cons f (g x) (map g xs)
    ∙ ap (λ n. f (g x) + n) (sum-mapped f g xs)
    ∙ sym (sum_by-cons (λ y. f (g y)) x xs)

-- sums by two lists, in either order
pub sum-none : {X : Type 0} (xs : List X) → sum_by (λ (x : X). 0) xs ≡ 0
sum-none [] = refl
sum-none {X} (x ∷ xs) =
    let step = sum_by-cons (λ (y : X). 0) x xs in
    let rest = sum-none xs in
    omega arith

pub sum-both : {X : Type 0} (f g : X → ℕ) (xs : List X)
    → sum_by (λ x. f x + g x) xs ≡ sum_by f xs + sum_by g xs
sum-both f g [] = refl
sum-both f g (x ∷ xs) =
    let rest = sum-both f g xs in
    let all = sum_by-cons (λ y. f y + g y) x xs in
    let one = sum_by-cons f x xs in
    let two = sum_by-cons g x xs in
    omega arith

pub sum-same : {X : Type 0} (f g : X → ℕ) (xs : List X) → ((x : X) → f x ≡ g x)
    → sum_by f xs ≡ sum_by g xs
sum-same f g [] each = refl
sum-same f g (x ∷ xs) each =
    let rest = sum-same f g xs each in
    let one = sum_by-cons f x xs in
    let two = sum_by-cons g x xs in
    let here = each x in
    omega arith

-- where the shares of each thing are at most the whole of it, so are all shares of all things
pub shares : {N X : Type 0} (share : N → X → ℕ) (whole : X → ℕ) (ns : List N) (xs : List X)
    → ((x : X) → sum_by (λ n. share n x) ns ≤ whole x)
    → sum_by (λ n. sum_by (share n) xs) ns ≤ sum_by whole xs
shares share whole ns [] each = let none = sum-none ns in
    omega arith
shares share whole ns (x ∷ xs) each =
    let here = each x in
    let rest = shares share whole ns xs each in
    let step = sum-same (λ n. sum_by (share n) (x ∷ xs)) (λ n. share n x + sum_by (share n) xs) ns
    (λ n. sum_by-cons (share n) x xs) in
    let parts = sum-both (λ n. share n x) (λ n. sum_by (share n) xs) ns in
    let all = sum_by-cons whole x xs in
    omega arith

-- each number stands at most once where numbers differ
none-other : (m x : ℕ) (xs : List ℕ) → m ≡ x → Each (λ y. nat_eq x y ≡ false) xs
    → count_by (λ n. m == n) xs ≡ 0
none-other m x [] same all = refl
none-other m x (y ∷ ys) same all =
    let rest = none-other m x ys same all.1 in
    let off : (m == y) ≡ false = ap (λ k. k == y) same ∙ all.0 in
    let here : cond {A = ℕ} (m == y) 1 0 ≡ 0 = ap (λ b. cond b 1 0) off in
    let step = count-cons (λ n. m == n) y ys in
    omega arith

pub once-distinct : (m : ℕ) (xs : List ℕ) → IsDistinct nat_eq xs → count_by (λ n. m == n) xs ≤ 1
unfolding IsDistinct
once-distinct m [] distinct = omega arith
once-distinct m (x ∷ xs) distinct =
    let rest = once-distinct m xs distinct.1 in
    let step = count-cons (λ n. m == n) x xs in
    elim (cases_Bool (m == x)) [
      | inl is ↦
          let none = none-other m x xs (eqb-true m x is) distinct.0 in
          let here : cond {A = ℕ} (m == x) 1 0 ≡ 1 = ap (λ b. cond b 1 0) is in
          omega arith
      | inr is ↦
          let here : cond {A = ℕ} (m == x) 1 0 ≡ 0 = ap (λ b. cond b 1 0) is in
          omega arith
    ]

-- one of a list adds no more than all of it do
pub sum-there : {X : Type 0} (f : X → ℕ) (xs : List X) (x : X) → Contains xs x
    → f x ≤ sum_by f xs
sum-there f [] x there = absurd (let low = there.1 in omega (arith, low))
sum-there f (y ∷ ys) x (zero, low, is) =
    let step = sum_by-cons f y ys in
    let same = ap f is in
    omega (arith, step, same)
sum-there f (y ∷ ys) x (suc k, low, is) =
    let step = sum_by-cons f y ys in
    let rest = sum-there f ys x (k, omega (arith, low), is) in
    omega (arith, step, rest)
