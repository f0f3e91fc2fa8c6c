-- Lists that have one of each kind have as many.
use Rattle.std.proofs.Common.{◌≡◌, ◌∙◌, ℕ, suc, ◌≤◌, Bool, true, false, List, [], ◌∷◌}
use Rattle.std.proofs.Common.{length, Some, refl, sym, ap, subst, arith, ⊎_elim}
use Rattle.std.proofs.Common.{true≢false}
use Rattle.std.specs.Prelude.{◌||◌, eqb, slice_get}
use Rattle.std.specs.List.{AllByRecursion, IsDistinct, list_any}
use Rattle.std.proofs.lemmas.Bool.{cases_Bool, eqb-true, or_cases}
use Rattle.std.proofs.lemmas.Map.Keys.{IsDistinct-cons}
use Rattle.std.proofs.lemmas.Map.Steps.{length-le_from_distinct_below}
use Rattle.std.proofs.lemmas.Option.{slice_get_within}

or-left : (b c : Bool) → b ≡ true → (b || c) ≡ true
or-left true c is = refl
or-left false c is = absurd (true≢false (sym is))

or-right : (b c : Bool) → c ≡ true → (b || c) ≡ true
or-right true c is = refl
or-right false c is = is

-- what is not among numbers is none of them
not-any : (q : ℕ) (ks : List ℕ) → (list_any (eqb q) ks ≡ true → ⊥)
    → AllByRecursion (λ k. eqb q k ≡ false) ks
not-any q [] not = tt
not-any q (k ∷ ks) not = (
  ⊎_elim (λ is. absurd (not (or-left (eqb q k) (list_any (eqb q) ks) is))) (λ is. is)
      (cases_Bool (eqb q k)),
  not-any q ks (λ more. not (or-right (eqb q k) (list_any (eqb q) ks) more)),
)

module _ {S : Type 0} (IsLike : S → S → Type 0)
    (back : (s t : S) → IsLike s t → IsLike t s)
    (on : (s t u : S) → IsLike s t → IsLike t u → IsLike s u) where
  -- one of a list is like it
  pub record Has (ys : List S) (s : S) : Type 0 where
    pub place : ℕ
    pub one : S
    pub is_there : slice_get ys place ≡ Some one
    pub like : IsLike s one

  -- each one of a list has one of another
  abbrev pub Each : List S → List S → Type 0
  Each xs ys = (i : ℕ) (s : S) → slice_get xs i ≡ Some s → Has ys s

  -- no two are like each other
  abbrev pub Apart : List S → Type 0
  Apart xs = (i j : ℕ) (s t : S) → slice_get xs i ≡ Some s → slice_get xs j ≡ Some t
      → IsLike s t → i ≡ j

  abbrev places : (ys xs : List S) → Each xs ys → List ℕ
  places ys [] each = []
  places ys (x ∷ xs) each = (each 0 x refl).place ∷ places ys xs (λ i s is. each (suc i) s is)

  -- a place is that of one of the list
  record Placed (ys xs : List S) (q : ℕ) : Type 0 where
    at : ℕ
    one : S
    is_there : slice_get xs at ≡ Some one
    other : S
    stands : slice_get ys q ≡ Some other
    like : IsLike one other

  placed : (ys xs : List S) (each : Each xs ys) (q : ℕ)
      → list_any (eqb q) (places ys xs each) ≡ true → Placed ys xs q
  placed ys [] each q is = absurd (true≢false (sym is))
  placed ys (x ∷ xs) each q is =
      let here = each 0 x refl in
      let rest : Each xs ys = λ i s there. each (suc i) s there in
      ⊎_elim
      (λ (same : eqb q here.place ≡ true). record {
        at = 0;
        one = x;
        is_there = refl;
        other = here.one;
        stands = ap (slice_get ys) (eqb-true q here.place same) ∙ here.is_there;
        like = here.like;
      })
      (λ (more : list_any (eqb q) (places ys xs rest) ≡ true).
      let found = placed ys xs rest q more in
      record {
        at = suc found.at;
        one = found.one;
        is_there = found.is_there;
        other = found.other;
        stands = found.stands;
        like = found.like;
      })
      (or_cases (eqb q here.place) (list_any (eqb q) (places ys xs rest)) is)

  some-same : (a b : S) → Some a ≡ Some b → a ≡ b
  some-same a b e = cc

  -- the first one's place is none of the others
  first-alone : (ys : List S) (x : S) (xs : List S) (each : Each (x ∷ xs) ys) → Apart (x ∷ xs)
      → list_any (eqb (each 0 x refl).place) (places ys xs (λ i s is. each (suc i) s is)) ≡ true
      → ⊥
  first-alone ys x xs each apart is =
      let here = each 0 x refl in
      let rest : Each xs ys = λ i s there. each (suc i) s there in
      let found = placed ys xs rest here.place is in
      let same : found.other ≡ here.one =
      some-same found.other here.one (sym found.stands ∙ here.is_there) in
      let like = on found.one here.one x (subst (IsLike found.one) same found.like)
      (back x here.one here.like) in
      let none = apart (suc found.at) 0 found.one x found.is_there refl like in
      absurd (omega (arith, none))

  places-distinct : (ys xs : List S) (each : Each xs ys) → Apart xs
      → IsDistinct eqb (places ys xs each)
  unfolding IsDistinct
  places-distinct ys [] each apart = tt
  places-distinct ys (x ∷ xs) each apart =
      let rest : Each xs ys = λ i s there. each (suc i) s there in
      IsDistinct-cons eqb (each 0 x refl).place (places ys xs rest)
      (not-any (each 0 x refl).place (places ys xs rest) (first-alone ys x xs each apart))
      (places-distinct ys xs rest
      (λ i j s t one two like. let same = apart (suc i) (suc j) s t one two like in
      omega (arith, same)))

  length-places : (ys xs : List S) (each : Each xs ys) → length (places ys xs each) ≡ length xs
  length-places ys [] each = refl
  length-places ys (x ∷ xs) each = ap suc (length-places ys xs (λ i s is. each (suc i) s is))

  -- so a list of which no two are alike, and each has one of another, is no longer than that
  pub no-longer : (xs ys : List S) → Apart xs → Each xs ys → length xs ≤ length ys
  no-longer xs ys apart each =
      let few = length-le_from_distinct_below (places ys xs each) (length ys)
      (places-distinct ys xs each apart)
      (λ q is. let found = placed ys xs each q is in
      slice_get_within ys q found.other found.stands) in
      let size = length-places ys xs each in
      omega (arith, few, size)
