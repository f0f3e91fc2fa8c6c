-- Lists: all of them, counts, and what is known of a place after a write.
use Rattle.std.proofs.Common.{◌≡◌, ℕ, zero, suc, ◌+◌, ◌<◌, ◌≤◌, ◌==◌, Bool, true, false, cond, List}
use Rattle.std.proofs.Common.{[], ◌∷◌, ◌++◌, get_or, set, drop, length, filter, count_by, Contains}
use Rattle.std.proofs.Common.{refl, sym, ap, ◌∙◌, subst, ⊎_elim, arith, get_or-set_same}
use Rattle.std.proofs.Common.{get_or-set_other}
use Rattle.std.proofs.lemmas.Bool.{eqb-true, eq-eqb, cases_eq, cases_Bool, and_parts, and_from}
use Rattle.std.proofs.lemmas.Bool.{cond_both}
use Rattle.std.proofs.lemmas.List.Sums.{sum_by-cons, sum_by_push}
use Rattle.ring_core.specs.MstrBlock.{CallId}
use Rattle.ring_core.specs.Words.{is_same_call}
use Rattle.ring_laws.proofs.Rests.{Each}

pub each-push : {X : Type 0} (P : X → Type 0) (xs : List X) (x : X) → Each P xs → P x
    → Each P (xs ++ x ∷ [])
each-push P [] x e p = (p, tt)
each-push P (y ∷ ys) x e p = (e.0, each-push P ys x e.1 p)

pub each-drop : {X : Type 0} (P : X → Type 0) (xs : List X) → Each P xs → Each P (drop 1 xs)
each-drop P [] e = tt
each-drop P (y ∷ ys) e = e.1

pub each-map : {X : Type 0} (P Q : X → Type 0) (xs : List X) → ((x : X) → P x → Q x)
    → Each P xs → Each Q xs
each-map P Q [] f e = tt
each-map P Q (x ∷ xs) f e = (f x e.0, each-map P Q xs f e.1)

pub each-filter : {X : Type 0} (P : X → Type 0) (test : X → Bool) (xs : List X) → Each P xs
    → Each P (filter test xs)
each-filter P test [] e = tt
each-filter P test (x ∷ xs) e = cond_both (test x) (x ∷ filter test xs) (filter test xs) (Each P)
    (λ _. (e.0, each-filter P test xs e.1))
    (λ _. each-filter P test xs e.1)

-- what holds of all holds of one that is there
pub each-contains : {X : Type 0} (P : X → Type 0) (xs : List X) (x : X) → Each P xs
    → Contains xs x → P x
each-contains P [] x e c = absurd (omega (arith, c.1))
each-contains P (y ∷ ys) x e (zero, low, is) = subst P is e.0
each-contains P (y ∷ ys) x e (suc k, low, is) = each-contains P ys x e.1 (k, omega (arith, low), is)

-- counts
pub count-push : {X : Type 0} (p : X → Bool) (xs : List X) (x : X)
    → count_by p (xs ++ x ∷ []) ≡ count_by p xs + cond (p x) 1 0
count-push p xs x = sum_by_push (λ y. cond (p y) 1 0) xs x

pub count-cons : {X : Type 0} (p : X → Bool) (x : X) (xs : List X)
    → count_by p (x ∷ xs) ≡ cond (p x) 1 0 + count_by p xs
count-cons p x xs = sum_by-cons (λ y. cond (p y) 1 0) x xs

pub one-if : (b : Bool) → b ≡ true → (◌≡◌) {A = ℕ} (cond b 1 0) 1
one-if true e = refl
one-if false e = absurd (cc)

pub none-if : (b : Bool) → b ≡ false → (◌≡◌) {A = ℕ} (cond b 1 0) 0
none-if true e = absurd (cc)
none-if false e = refl

-- where one is there the count is not 0
pub contains-count : {X : Type 0} (p : X → Bool) (xs : List X) (x : X) → p x ≡ true → Contains xs x
    → 1 ≤ count_by p xs
contains-count p [] x is c = absurd (omega (arith, c.1))
contains-count p (y ∷ ys) x is (zero, low, same) =
    let c = count-cons p y ys in let o = one-if (p y) (ap p same ∙ is) in omega (arith, c, o)
contains-count p (y ∷ ys) x is (suc k, low, same) = let c = count-cons p y ys in
    let o = contains-count p ys x is (k, omega (arith, low), same) in omega
    (arith, c, o)

-- where the count is not 0 one is there
pub count-contains : {X : Type 0} (p : X → Bool) (xs : List X) → 1 ≤ count_by p xs
    → (x : X) × Contains xs x × (p x ≡ true)
count-contains p [] h = absurd (omega (arith, h))
count-contains p (x ∷ xs) h = ⊎_elim (λ (a : p x ≡ true). (x, (0, omega arith, refl), a))
    (λ (b : p x ≡ false).
    let c = count-cons p x xs in let o = none-if (p x) b in
    let rest = count-contains p xs (omega (arith, h, c, o)) in
    (rest.0, (suc rest.1.0, omega (arith, rest.1.1), rest.1.2), rest.2))
    (cases_Bool (p x))

-- at most one that passes: two that pass are one
pub only-one : {X : Type 0} (p : X → Bool) (xs : List X) (x y : X) → count_by p xs ≤ 1 → p x ≡ true
    → p y ≡ true → Contains xs x → Contains xs y → x ≡ y
only-one p [] x y le px py hx hy = absurd (omega (arith, hx.1))
only-one p (z ∷ zs) x y le px py (zero, low, is) (zero, low', is') = sym is ∙ is'
only-one p (z ∷ zs) x y le px py (zero, low, is) (suc j, low', is') =
    let c = count-cons p z zs in let o = one-if (p z) (ap p is ∙ px) in
    let q = contains-count p zs y py (j, omega (arith, low'), is') in
    absurd (omega (arith, le, c, o, q))
only-one p (z ∷ zs) x y le px py (suc k, low, is) (zero, low', is') =
    let c = count-cons p z zs in let o = one-if (p z) (ap p is' ∙ py) in
    let q = contains-count p zs x px (k, omega (arith, low), is) in
    absurd (omega (arith, le, c, o, q))
only-one p (z ∷ zs) x y le px py (suc k, low, is) (suc j, low', is') =
    let c = count-cons p z zs in
    only-one p zs x y (omega (arith, le, c)) px py (k, omega (arith, low), is)
    (j, omega (arith, low'), is')

-- a test that is stronger counts no more
pub count-weaker : {X : Type 0} (p q : X → Bool) (xs : List X)
    → Each (λ x. p x ≡ true → q x ≡ true) xs → count_by p xs ≤ count_by q xs
count-weaker p q [] e = omega arith
count-weaker p q (x ∷ xs) e =
    let a = count-cons p x xs in let b = count-cons q x xs in let h = count-weaker p q xs e.1 in
    ⊎_elim (λ (y : p x ≡ true).
    let i = one-if (p x) y in let j = one-if (q x) (e.0 y) in omega (arith, a, b, h, i, j))
    (λ (n : p x ≡ false). let i = none-if (p x) n in omega (arith, a, b, h, i)) (cases_Bool (p x))

-- what holds of each place after a write, in a range
pub put-at : {X : Type 0} (P : ℕ → X → Type 0) (xs : List X) (d : X) (m : ℕ) (x : X) → m < length xs
    → ((n : ℕ) → (n ≡ m → ⊥) → P n (get_or xs n d)) → P m x
    → (n : ℕ) → P n (get_or (set xs m x) n d)
put-at {X} P xs d m x range all it n = ⊎_elim
    (λ (e : n ≡ m). subst (λ (k : ℕ). P k (get_or (set xs m x) k d)) (sym e)
    (subst (P m) (sym (get_or-set_same xs m x d range)) it))
    (λ (o : n ≡ m → ⊥). subst (P n) (sym (get_or-set_other xs m n x d o)) (all n o))
    (cases_eq n m)

-- the same with no bound, where it holds of all before
pub each-put : {X : Type 0} (P : ℕ → X → Type 0) (xs : List X) (d : X) (m : ℕ) (x : X)
    → ((n : ℕ) → P n (get_or xs n d)) → P m x → (n : ℕ) → P n
    (get_or (set xs m x) n d)
each-put P [] d m x all it n = all n
each-put P (y ∷ ys) d zero x all it zero = it
each-put P (y ∷ ys) d zero x all it (suc n) = all (suc n)
each-put P (y ∷ ys) d (suc m) x all it zero = all zero
each-put P (y ∷ ys) d (suc m) x all it (suc n) =
    each-put (λ k. P (suc k)) ys d m x (λ k. all (suc k)) it n

-- names of calls
pub same-eq : (a b : CallId) → is_same_call a b ≡ true → a ≡ b
same-eq a b e =
    let first = and_parts (a.node == b.node) _ e in
    let two = and_parts (a.path == b.path) (a.seq == b.seq) first.1 in
    let n = eqb-true a.node b.node first.0 in
    let p = eqb-true a.path b.path two.0 in let k = eqb-true a.seq b.seq two.1 in
    (λ i. record { node = n i; path = p i; seq = k i })

pub same-refl : (a : CallId) → is_same_call a a ≡ true
same-refl a = and_from _ _ (eq-eqb a.node a.node refl)
    (and_from _ _ (eq-eqb a.path a.path refl) (eq-eqb a.seq a.seq refl))
