-- Runs of registers: what stands in one, and what a store of words into one leaves.
use Rattle.std.proofs.Common.{◌≡◌, ◌≢◌, ℕ, zero, suc, ◌+◌, ◌<◌, ◌≤◌, Bool, true, false, cond, List}
use Rattle.std.proofs.Common.{[], ◌∷◌, ◌++◌, length, get_or, Option, Some, is_some, refl, sym, ap}
use Rattle.std.proofs.Common.{◌∙◌, arith}
use Rattle.std.specs.Ordering.{is_eq, eq_by_cmp}
use Rattle.std.specs.declared.cmp.Ordering.{Ordering}
use Rattle.std.specs.declared.cmp.Ordering.TheVariants.{Less, Equal, Greater}
use Rattle.std.specs.Cmp.{tied_itself}
use Rattle.std.proofs.lemmas.List.{ext_get_or}
use Rattle.std.specs.FinMap.{get, insert, contains_key, get-insert}
use Rattle.plant_types.specs.declared.reference.Ref.{Ref}
use Rattle.plant_types.specs.Reference.{ref_cmp, ref_from}
use Rattle.plant_types.specs.Store.{Contents, word_at, HasRegisters, Keeps, words_from, with_words}
use Rattle.plant_types.proofs.Contents.{refs_total, exact_refs}

-- no place on is the same reference
pub ref_from-zero : (at : Ref) → ref_from at 0 ≡ at
ref_from-zero at i =
    let e : at.number + 0 ≡ at.number = omega arith in record { kind = at.kind; number = e i }

-- places on add up
pub ref_from-ref_from : (at : Ref) (a b : ℕ) → ref_from (ref_from at a) b ≡ ref_from at (a + b)
ref_from-ref_from at a b i = let e : at.number + a + b ≡ at.number + (a + b) =
    omega arith in record { kind = at.kind; number = e i }

one_and : (at : Ref) (n : ℕ) → ref_from (ref_from at 1) n ≡ ref_from at (suc n)
one_and at n i = let e : at.number + 1 + n ≡ at.number + suc n =
    omega arith in record { kind = at.kind; number = e i }

-- different numbers of places on are different references
pub ref_from-apart : (at : Ref) (a b : ℕ) → a ≢ b → ref_from at a ≢ ref_from at b
ref_from-apart at a b apart e =
    apart (let n : at.number + a ≡ at.number + b = ap (λ (r : Ref). r.number) e in omega arith)

-- a run has as many words as are asked for
pub length-words_from : (m : Contents) (at : Ref) (n : ℕ) → length (words_from m at n) ≡ n
unfolding words_from
length-words_from m at zero = refl
length-words_from m at (suc n) = ap suc (length-words_from m (ref_from at 1) n)

-- the word of a run at a place is that of the register so many places on
pub get_or-words_from : (m : Contents) (at : Ref) (n k d : ℕ) → k < n
    → get_or (words_from m at n) k d ≡ word_at m (ref_from at k)
unfolding words_from
get_or-words_from m at zero k d h = absurd (omega arith)
get_or-words_from m at (suc n) zero d h = ap (word_at m) (sym (ref_from-zero at))
get_or-words_from m at (suc n) (suc k) d h = get_or-words_from m (ref_from at 1) n k d (omega arith)
    ∙ ap (word_at m) (one_and at k)

-- a list that has each register's word at its place is the run
pub words_from-by_place : (m : Contents) (at : Ref) (n : ℕ) (xs : List ℕ) → length xs ≡ n
    → ((k : ℕ) → k < n → get_or xs k 0 ≡ word_at m (ref_from at k)) → xs ≡ words_from m at n
words_from-by_place m at n xs e h =
    ext_get_or 0 xs (words_from m at n) (e ∙ sym (length-words_from m at n))
    (λ k b. let l : k < n = omega arith in h k l ∙ sym (get_or-words_from m at n k 0 l))

-- a run of two lengths joined is the two runs joined
pub words_from-append : (m : Contents) (at : Ref) (a b : ℕ)
    → words_from m at (a + b) ≡ words_from m at a ++ words_from m (ref_from at a) b
unfolding words_from
words_from-append m at zero b =
    let e : 0 + b ≡ b = omega arith in
    ap (words_from m at) e ∙ ap (λ r. words_from m r b) (sym (ref_from-zero at))
words_from-append m at (suc a) b =
    let e : suc a + b ≡ suc (a + b) = omega arith in
    ap (words_from m at) e
    ∙ ap (λ ws. word_at m at ∷ ws)
    (words_from-append m (ref_from at 1) a b
    ∙ ap (λ r. words_from m (ref_from at 1) a ++ words_from m r b) (one_and at a))

-- words stored in two parts
pub with_words-append : (m : Contents) (at : Ref) (xs ys : List ℕ)
    → with_words m at (xs ++ ys) ≡ with_words (with_words m at xs) (ref_from at (length xs)) ys
unfolding with_words
with_words-append m at [] ys = ap (λ r. with_words m r ys) (sym (ref_from-zero at))
with_words-append m at (x ∷ xs) ys = with_words-append (insert m at x) (ref_from at 1) xs ys
    ∙ ap (λ r. with_words (with_words (insert m at x) (ref_from at 1) xs) r ys)
    (one_and at (length xs))

-- one more word stored behind the others
pub with_words-push : (m : Contents) (at : Ref) (xs : List ℕ) (x : ℕ)
    → with_words m at (xs ++ x ∷ []) ≡ insert (with_words m at xs) (ref_from at (length xs)) x
unfolding with_words
with_words-push m at xs x = with_words-append m at xs (x ∷ [])

same_ordering : (o : Ordering) → is_eq o ≡ true → o ≡ Equal
same_ordering Less e = cc
same_ordering Equal e = refl
same_ordering Greater e = cc

by_test : (b : Bool) (v w : Option ℕ) → (b ≡ true → ⊥) → cond b v w ≡ w
by_test true v w h = absurd (h refl)
by_test false v w h = refl

-- a store at one reference leaves every other
pub get-insert_other : (m : Contents) (at : Ref) (value : ℕ) (q : Ref) → at ≢ q
    → get (insert m at value) q ≡ get m q
get-insert_other m at value q apart =
    get-insert refs_total m at value q
    ∙ by_test (eq_by_cmp ref_cmp q at) (Some value) (get m q)
    (λ e. apart (sym (exact_refs q at (same_ordering (ref_cmp q at) e))))

-- and the value is found where it was stored
pub get-insert_same : (m : Contents) (at : Ref) (value : ℕ)
    → get (insert m at value) at ≡ Some value
get-insert_same m at value =
    get-insert refs_total m at value at
    ∙ ap (λ o. cond (is_eq o) (Some value) (get m at)) (tied_itself refs_total at)

-- words stored in a run leave every reference outside of it
pub get-with_words_other : (m : Contents) (at : Ref) (xs : List ℕ) (q : Ref)
    → ((i : ℕ) → i < length xs → ref_from at i ≢ q)
    → get (with_words m at xs) q ≡ get m q
unfolding with_words
get-with_words_other m at [] q apart = refl
get-with_words_other m at (x ∷ xs) q apart =
    get-with_words_other (insert m at x) (ref_from at 1) xs q
    (λ i l e. apart (suc i) (omega arith) (sym (one_and at i) ∙ e))
    ∙ get-insert_other m at x q (λ e. apart 0 (omega arith) (ref_from-zero at ∙ e))

-- and are found in it, each at its place
pub get-with_words_at : (m : Contents) (at : Ref) (xs : List ℕ) (i d : ℕ) → i < length xs
    → get (with_words m at xs) (ref_from at i) ≡ Some (get_or xs i d)
unfolding with_words
get-with_words_at m at [] i d h = absurd (omega arith)
get-with_words_at m at (x ∷ xs) zero d h =
    get-with_words_other (insert m at x) (ref_from at 1) xs (ref_from at 0)
    (λ i l e. ref_from-apart at (suc i) 0 (λ n. absurd (omega arith)) (sym (one_and at i) ∙ e))
    ∙ ap (get (insert m at x)) (ref_from-zero at) ∙ get-insert_same m at x
get-with_words_at m at (x ∷ xs) (suc i) d h =
    ap (get (with_words (insert m at x) (ref_from at 1) xs)) (sym (one_and at i))
    ∙ get-with_words_at (insert m at x) (ref_from at 1) xs i d (omega arith)

kept_by_test : (b : Bool) (v : ℕ) (o : Option ℕ) → is_some o ≡ true
    → is_some (cond b (Some v) o) ≡ true
kept_by_test true v o h = refl
kept_by_test false v o h = h

-- a store at one reference keeps all that stand
pub Keeps-insert : (m : Contents) (at : Ref) (value : ℕ) → Keeps m (insert m at value)
Keeps-insert m at value q h = ap is_some (get-insert refs_total m at value q)
    ∙ kept_by_test (eq_by_cmp ref_cmp q at) value (get m q) h

-- words stored in a run keep all that stand
pub Keeps-with_words : (m : Contents) (at : Ref) (xs : List ℕ) → Keeps m (with_words m at xs)
unfolding with_words
Keeps-with_words m at [] = λ q h. h
Keeps-with_words m at (x ∷ xs) =
    λ q h. Keeps-with_words (insert m at x) (ref_from at 1) xs q (Keeps-insert m at x q h)

-- registers that stood before still stand
pub HasRegisters-kept : (m n : Contents) (at : Ref) (count : ℕ) → Keeps m n
    → HasRegisters m at count → HasRegisters n at count
HasRegisters-kept m n at count keeps h =
    record { kind = h.kind; range = h.range; held = λ i l. keeps (ref_from at i) (h.held i l) }

-- a part of a run of registers
pub HasRegisters-part : (m : Contents) (at : Ref) (count k part : ℕ) → HasRegisters m at count
    → k + part ≤ count → HasRegisters m (ref_from at k) part
HasRegisters-part m at count k part h fits = record {
  kind = h.kind;
  range = let r = h.range in omega arith;
  held = λ i l. ap (contains_key m) (ref_from-ref_from at k i) ∙ h.held (k + i) (omega arith);
}
