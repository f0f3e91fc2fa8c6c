-- The ring of a network among the rings of a run, and pass 0 beside it.
use Rattle.std.proofs.Common.{◌≡◌, ℕ, zero, suc, ◌+◌, ◌<◌, ◌≤◌, Bool, true, false, not, cond}
use Rattle.std.proofs.Common.{List, [], ◌∷◌}
use Rattle.std.proofs.Common.{◌≢◌, Some, None, is_some, length, set, find, slice_get}
use Rattle.std.proofs.Common.{slice_index_or, count_by, sym, ap, ◌∙◌, subst, arith, ⊎_elim}
use Rattle.std.proofs.lemmas.Bool.{cases_Bool}
use Rattle.std.proofs.lemmas.List.{get_or-set_same, set-set}
use Rattle.std.proofs.lemmas.List.Sums.{sum_by-append}
use Rattle.std.specs.List.{AllZip, position_or_len, sum_by}
use Rattle.turn_gate.specs.Known.{PassFacts, is_among}
use Rattle.ring_core.specs.declared.entry.RingEntry.{RingEntry}
use Rattle.live_run.specs.Homes.{HasRing, IsHomeOf, IsZero, KeepsFor, KeepsZero, Purse, RingGate}
use Rattle.live_run.specs.Homes.{is_ring_of, place_of_ring}
use Rattle.live_workers.proofs.Ran.{zip-long}

module _ {A : Type 0} (test : A → Bool) where
  pub find-here : (x : A) (xs : List A) → test x ≡ true → find test (x ∷ xs) ≡ Some x
  find-here x xs is = ap (λ b. cond b (Some x) (find test xs)) is

  pub find-later : (x : A) (xs : List A) → test x ≡ false → find test (x ∷ xs) ≡ find test xs
  find-later x xs is = ap (λ b. cond b (Some x) (find test xs)) is

  pub place-here : (x : A) (xs : List A) → test x ≡ true → position_or_len test (x ∷ xs) ≡ 0
  place-here x xs is = ap (λ b. cond (not b) (1 + position_or_len test xs) 0) is

  pub place-later : (x : A) (xs : List A) → test x ≡ false
      → position_or_len test (x ∷ xs) ≡ suc (position_or_len test xs)
  place-later x xs is =
      let step : position_or_len test (x ∷ xs) ≡ 1 + position_or_len test xs =
      ap (λ b. cond (not b) (1 + position_or_len test xs) 0) is in omega (arith, step)

  -- what is found stands at its place, and passes
  pub find-there : (xs : List A) (x : A) → find test xs ≡ Some x
      → (slice_get xs (position_or_len test xs) ≡ Some x) × (test x ≡ true)
  find-there [] x is = absurd (let no' : None ≡ Some x = is in cc)
  find-there (u ∷ xs) x is = ⊎_elim
      (λ (here : test u ≡ true).
      let same : u ≡ x = (let e = sym (find-here u xs here) ∙ is in cc) in (
        ap (slice_get (u ∷ xs)) (place-here u xs here) ∙ ap Some same,
        ap test (sym same) ∙ here,
      ))
      (λ (later : test u ≡ false).
      let rest = find-there xs x (sym (find-later u xs later) ∙ is) in (
        ap (slice_get (u ∷ xs)) (place-later u xs later) ∙ rest.0,
        rest.1,
      ))
      (cases_Bool (test u))

  count-cons : (x : A) (xs : List A) → count_by test (x ∷ xs) ≡ cond (test x) 1 0 + count_by test xs
  count-cons x xs =
      let f : A → ℕ = λ y. cond (test y) 1 0 in
      let first : sum_by f (x ∷ []) ≡ f x = omega arith in
      sum_by-append f (x ∷ []) xs ∙ ap (λ n. n + sum_by f xs) first

  -- behind one that passes, and before one that does, none passes where no two do
  pub none-later : (x : A) (xs : List A) → test x ≡ true → count_by test (x ∷ xs) ≤ 1
      → count_by test xs ≡ 0
  none-later x xs is once =
      let all = count-cons x xs ∙ ap (λ b. cond b 1 0 + count_by test xs) is in
      omega (arith, all, once)

  pub fewer-later : (x : A) (xs : List A) → count_by test (x ∷ xs) ≤ 1 → count_by test xs ≤ 1
  fewer-later x xs once = let all = count-cons x xs in omega (arith, all, once)

  pub none-here : (x : A) (xs : List A) → count_by test (x ∷ xs) ≡ 0
      → (test x ≡ false) × (count_by test xs ≡ 0)
  none-here x xs none = ⊎_elim
      (λ (is : test x ≡ true).
      absurd (let all = count-cons x xs ∙ ap (λ b. cond b 1 0 + count_by test xs) is in
      omega (arith, all, none)))
      (λ (is : test x ≡ false). (is, let all = count-cons x xs in omega (arith, all, none)))
      (cases_Bool (test x))

pub zip-weaker : {A B : Type 0} (R Q : A → B → Type 0) (xs : List A) (ys : List B)
    → ((x : A) (y : B) → R x y → Q x y) → AllZip R xs ys → AllZip Q xs ys
zip-weaker R Q [] [] keeps all = tt
zip-weaker R Q [] (y ∷ ys) keeps all = absurd all
zip-weaker R Q (x ∷ xs) [] keeps all = absurd all
zip-weaker R Q (x ∷ xs) (y ∷ ys) keeps all =
    (keeps x y all.0, zip-weaker R Q xs ys keeps all.1)

module _ {A B : Type 0} (test : A → Bool) where
  -- what stands beside the first that passes
  pub zip-there : (R : A → B → Type 0) (xs : List A) (ys : List B) (x : A)
      → AllZip R xs ys → find test xs ≡ Some x
      → (y : B) × (slice_get ys (position_or_len test xs) ≡ Some y) × R x y
  zip-there R [] ys x all is = absurd (let no' : None ≡ Some x = is in cc)
  zip-there R (u ∷ xs) [] x all is = absurd all
  zip-there R (u ∷ xs) (v ∷ ys) x all is = ⊎_elim
      (λ (here : test u ≡ true).
      let same : u ≡ x = (let e = sym (find-here test u xs here) ∙ is in cc) in
      (v, ap (slice_get (v ∷ ys)) (place-here test u xs here), subst (λ a. R a v) same all.0))
      (λ (later : test u ≡ false).
      let rest = zip-there R xs ys x all.1 (sym (find-later test u xs later) ∙ is) in
      (rest.0, ap (slice_get (v ∷ ys)) (place-later test u xs later) ∙ rest.1, rest.2))
      (cases_Bool (test u))

  -- one of these, where it is known
  pub zip-at : (R : A → B → Type 0) (xs : List A) (ys : List B) (x : A) (y : B)
      → AllZip R xs ys → find test xs ≡ Some x
      → slice_get ys (position_or_len test xs) ≡ Some y → R x y
  zip-at R xs ys x y all is at =
      let there = zip-there R xs ys x all is in
      let same : there.0 ≡ y = (let e = sym there.1 ∙ at in cc) in subst (R x) same there.2

  -- another is put beside it
  pub zip-put : (R Q : A → B → Type 0) (xs : List A) (ys : List B) (x : A) (new : B)
      → ((u : A) (v : B) → R u v → Q u v) → AllZip R xs ys → find test xs ≡ Some x → Q x new
      → AllZip Q xs (set ys (position_or_len test xs) new)
  zip-put R Q [] ys x new keeps all is q = absurd (let no' : None ≡ Some x = is in cc)
  zip-put R Q (u ∷ xs) [] x new keeps all is q = absurd all
  zip-put R Q (u ∷ xs) (v ∷ ys) x new keeps all is q = ⊎_elim
      (λ (here : test u ≡ true).
      let same : u ≡ x = (let e = sym (find-here test u xs here) ∙ is in cc) in
      subst (λ n. AllZip Q (u ∷ xs) (set (v ∷ ys) n new)) (sym (place-here test u xs here))
      (subst (λ a. Q a new) (sym same) q, zip-weaker R Q xs ys keeps all.1))
      (λ (later : test u ≡ false).
      subst (λ n. AllZip Q (u ∷ xs) (set (v ∷ ys) n new)) (sym (place-later test u xs later)) (
        keeps u v all.0,
        zip-put R Q xs ys x new keeps all.1 (sym (find-later test u xs later) ∙ is) q,
      ))
      (cases_Bool (test u))

  zip-others : (R Q : A → B → Type 0) (xs : List A) (ys : List B)
      → ((u : A) (v : B) → test u ≡ false → R u v → Q u v) → count_by test xs ≡ 0
      → AllZip R xs ys → AllZip Q xs ys
  zip-others R Q [] [] keeps none all = tt
  zip-others R Q [] (y ∷ ys) keeps none all = absurd all
  zip-others R Q (x ∷ xs) [] keeps none all = absurd all
  zip-others R Q (x ∷ xs) (y ∷ ys) keeps none all =
      let rest = none-here test x xs none in
      (keeps x y rest.0 all.0, zip-others R Q xs ys keeps rest.1 all.1)

  -- the same, where no other passes
  pub zip-put-apart : (R Q : A → B → Type 0) (xs : List A) (ys : List B) (x : A) (new : B)
      → ((u : A) (v : B) → test u ≡ false → R u v → Q u v) → count_by test xs ≤ 1
      → AllZip R xs ys → find test xs ≡ Some x → Q x new
      → AllZip Q xs (set ys (position_or_len test xs) new)
  zip-put-apart R Q [] ys x new keeps once all is q =
      absurd (let no' : None ≡ Some x = is in cc)
  zip-put-apart R Q (u ∷ xs) [] x new keeps once all is q = absurd all
  zip-put-apart R Q (u ∷ xs) (v ∷ ys) x new keeps once all is q = ⊎_elim
      (λ (here : test u ≡ true).
      let same : u ≡ x = (let e = sym (find-here test u xs here) ∙ is in cc) in
      subst (λ n. AllZip Q (u ∷ xs) (set (v ∷ ys) n new)) (sym (place-here test u xs here)) (
        subst (λ a. Q a new) (sym same) q,
        zip-others R Q xs ys keeps (none-later test u xs here once) all.1,
      ))
      (λ (later : test u ≡ false).
      subst (λ n. AllZip Q (u ∷ xs) (set (v ∷ ys) n new)) (sym (place-later test u xs later)) (
        keeps u v later all.0,
        zip-put-apart R Q xs ys x new keeps (fewer-later test u xs once) all.1
            (sym (find-later test u xs later) ∙ is) q,
      ))
      (cases_Bool (test u))

-- what is read at a place
pub got : {A : Type 0} (xs : List A) (k : ℕ) (x d : A) → slice_get xs k ≡ Some x
    → (slice_index_or xs k d ≡ x) × (k < length xs)
got [] k x d is = absurd (let no' : None ≡ Some x = is in cc)
got (u ∷ xs) zero x d is = (let e : Some u ≡ Some x = is in cc, omega arith)
got (u ∷ xs) (suc k) x d is =
    let rest = got xs k x d is in (rest.0, omega (arith, rest.1))

-- the gate at the place of a network's ring
pub home-at : (gates : List RingGate) (network place : ℕ) (gate home : RingGate)
    → IsHomeOf gates network gate → place ≡ place_of_ring gates network
    → home ≡ slice_index_or gates place home → home ≡ gate
home-at gates network place gate home is at read =
    read ∙ (ap (λ k. slice_index_or gates k home) at
    ∙ (got gates (place_of_ring gates network) gate home
    (find-there (is_ring_of network) gates gate is).0).0)

-- a network that has its ring among these has a place there
pub has-place : (gates : List RingGate) (network : ℕ) → HasRing gates network
    → place_of_ring gates network < length gates
has-place gates network ring =
    (got gates (place_of_ring gates network) ring.0 ring.0
    (find-there (is_ring_of network) gates ring.0 ring.1).0).1

module _ (R : RingGate → Purse → Type 0) (gates : List RingGate) (purses : List Purse)
    (network place : ℕ) (gate : RingGate) (all : AllZip R gates purses)
    (is : IsHomeOf gates network gate) (at : place ≡ place_of_ring gates network) where
  -- what is read at the place of a network's ring
  purse-read : (purse d : Purse) → slice_get purses (place_of_ring gates network) ≡ Some purse
      → slice_index_or purses place d ≡ purse
  purse-read purse d there =
      ap (λ k. slice_index_or purses k d) at
      ∙ (got purses (place_of_ring gates network) purse d there).0

  pub some-there : ((purse : Purse) → R gate purse → is_some purse ≡ true) → (d : Purse)
      → is_some (slice_index_or purses place d) ≡ true
  some-there keeps d =
      let t = zip-there (is_ring_of network) R gates purses gate all is in
      ap is_some (purse-read t.0 d t.1) ∙ keeps t.0 t.2

  -- the pass that is kept there
  pub pass-there : (pass : PassFacts RingEntry) (d : Purse)
      → slice_index_or purses place d ≡ Some pass
      → slice_get purses (place_of_ring gates network) ≡ Some (Some pass)
  pass-there pass d read =
      let t = zip-there (is_ring_of network) R gates purses gate all is in
      t.1 ∙ ap Some (sym (purse-read t.0 d t.1) ∙ read)

  pub pass-is : (pass : PassFacts RingEntry) (d : Purse)
      → slice_index_or purses place d ≡ Some pass → R gate (Some pass)
  pass-is pass d read =
      zip-at (is_ring_of network) R gates purses gate (Some pass) all is (pass-there pass d read)

  pub place-within : place < length gates → place < length purses
  place-within low = let long = zip-long R gates purses all in omega (arith, long, low)

pub keeps-some : (gate : RingGate) (purse : Purse) → KeepsZero gate purse → is_some purse ≡ true
keeps-some gate purse k = ap is_some k.kept

pub zero-kept : (gate : RingGate) (pass : PassFacts RingEntry) → KeepsZero gate (Some pass)
    → IsZero gate pass
zero-kept gate pass k =
    let same : k.pass ≡ pass = (let e = sym k.kept in cc) in subst (IsZero gate) same k.zero

pub fresh-kept : (node : ℕ) (gate : RingGate) (pass : PassFacts RingEntry)
    → KeepsFor node gate (Some pass) → (node ≢ 0) × (is_among node pass.given ≡ false)
fresh-kept node gate pass k =
    let same : k.keeps.pass ≡ pass = (let e = sym k.keeps.kept in cc) in
    (k.fresh.0, ap (λ (p : PassFacts RingEntry). is_among node p.given) (sym same) ∙ k.fresh.1)

-- a place that was emptied is empty, and what is put there stands there
pub emptied-at : (purses : List Purse) (place : ℕ) (mid d : Purse) → place < length purses
    → mid ≡ None → slice_index_or (set purses place mid) place d ≡ None
emptied-at purses place mid d within none = get_or-set_same purses place mid d within ∙ none

pub put-at : (purses : List Purse) (place there : ℕ) (mid new last : Purse) → place ≡ there
    → new ≡ last → set (set purses place mid) place new ≡ set purses there last
put-at purses place there mid new last is same =
    set-set purses place mid new ∙ (λ i. set purses (is i) (same i))
