-- Elements of lists by their places, and the longer of two beginnings of one list.
use Rattle.std.proofs.Common.{◌≡◌, ◌≢◌, ◌⊎◌, ℕ, zero, suc, ◌+◌, ◌<◌, ◌≤◌, cond, List, [], ◌∷◌, ◌++◌}
use Rattle.std.proofs.Common.{length, drop, set, slice_index_or, All, Bool, true, false, refl, sym}
use Rattle.std.proofs.Common.{ap, ◌∙◌, subst, inl, inr, ⊎_elim, arith, ltb, ltb-true, ltb-false}
use Rattle.std.proofs.Common.{length-append}
use Rattle.std.proofs.lemmas.List.{append-nil}
use mathlib.Core.Logic.{dite}
use mathlib.Core.Option.{some, some-injective, some-ne-none}
use native.Mathlib.Decide.{ℕ_discrete}
use lib.ListN.{get_elem?}
use Rattle.atomic_table.proofs.Lists.{at_set, set_here, set_else}
use Rattle.turn_gate.specs.Known.{longer, StartsWith}

module _ {A : Type 0} where
  -- a place with an element is below the length
  pub inside_of : (l : List A) (i : ℕ) (a : A) → get_elem? l i ≡ some a → i < length l
  inside_of [] i a e = absurd (some-ne-none a (sym e))
  inside_of (x ∷ xs) zero a e = omega arith
  inside_of (x ∷ xs) (suc i) a e = let k = inside_of xs i a e in omega arith

  -- the element at a place below the length
  pub at_place : (l : List A) (k : ℕ) (d : A) → k < length l
      → get_elem? l k ≡ some (slice_index_or l k d)
  at_place [] k d low = absurd (omega arith)
  at_place (x ∷ xs) zero d low = refl
  at_place (x ∷ xs) (suc k) d low = at_place xs k d (omega arith)

  -- the same place, the other way round
  pub place_at : (l : List A) (k : ℕ) (a d : A) → get_elem? l k ≡ some a → slice_index_or l k d ≡ a
  place_at [] k a d e = absurd (some-ne-none a (sym e))
  place_at (x ∷ xs) zero a d e = some-injective x a e
  place_at (x ∷ xs) (suc k) a d e = place_at xs k a d e

  -- what holds of all elements holds of the one at a place
  pub all_at : (P : A → Type 0) (l : List A) → All P l → (k : ℕ) (a : A)
      → get_elem? l k ≡ some a → P a
  all_at P l all k a e = subst P (place_at l k a a e) (all k a (inside_of l k a e))

  -- what holds at each place holds of all elements
  pub all_from_places : (P : A → Type 0) (l : List A)
      → ((k : ℕ) (a : A) → get_elem? l k ≡ some a → P a) → All P l
  all_from_places P l each = λ k d low. each k (slice_index_or l k d) (at_place l k d low)

  -- what holds of each element stays so where one is replaced by another that has it
  pub each_set : (P : ℕ → A → Type 0) (l : List A) (me : ℕ) (w : A) → P me w
      → ((j : ℕ) (d : A) → j ≢ me → get_elem? l j ≡ some d → P j d)
      → (j : ℕ) (d : A) → get_elem? (set l me w) j ≡ some d → P j d
  each_set P l me w mine others j d e = ⊎_elim
      (λ (t : (j ≡ me) × (w ≡ d)). subst (λ (x : ℕ × A). P x.0 x.1) (λ i. (sym t.0 i, t.1 i)) mine)
      (λ (t : (j ≢ me) × (get_elem? l j ≡ some d)). others j d t.0 t.1) (at_set l me j w d e)

  -- a fact of some element stays, at the place, where an element that has the fact is replaced by
  -- one that has it
  pub witness : (P : A → Type 0) (vs : List A) (me : ℕ) (v w : A) → get_elem? vs me ≡ some v
      → (P v → P w) → (i : ℕ) (u : A)
      → get_elem? vs i ≡ some u → P u → (x : A) × (get_elem? (set vs me w) i ≡ some x) × P x
  witness P vs me v w at over i u there p =
      dite (ℕ_discrete i me)
      (λ (e : i ≡ me).
      let same : v ≡ u = some-injective v u (sym at ∙ (ap (get_elem? vs) (sym e) ∙ there)) in (
        w,
        ap (get_elem? (set vs me w)) e ∙ set_here vs me w (inside_of vs me v at),
        over (subst P (sym same) p),
      ))
      (λ ne. (u, set_else vs me i w ne ∙ there, p))

  -- an element of two lists together is one of the first or one of the second
  pub at_append : (xs ys : List A) (k : ℕ) (e : A) → get_elem? (xs ++ ys) k ≡ some e
      → (get_elem? xs k ≡ some e) ⊎ ((i : ℕ) × (get_elem? ys i ≡ some e))
  at_append [] ys k e h = inr (k, h)
  at_append (x ∷ xs) ys zero e h = inl h
  at_append (x ∷ xs) ys (suc k) e h = at_append xs ys k e h

  -- an element of the second list is one of both together
  pub at_right : (xs ys : List A) (k : ℕ) (e : A) → get_elem? ys k ≡ some e
      → (i : ℕ) × (get_elem? (xs ++ ys) i ≡ some e)
  at_right [] ys k e h = (k, h)
  at_right (x ∷ xs) ys k e h = let r = at_right xs ys k e h in (suc r.0, r.1)

  -- an element of a list with one more is an earlier one, or the last
  pub at_last_or : (l : List A) (a b : A) (j : ℕ) → get_elem? (l ++ a ∷ []) j ≡ some b
      → (get_elem? l j ≡ some b) ⊎ ((j ≡ length l) × (a ≡ b))
  at_last_or [] a b zero e = inr (refl, some-injective a b e)
  at_last_or [] a b (suc j) e = absurd (some-ne-none b (sym e))
  at_last_or (x ∷ xs) a b zero e = inl e
  at_last_or (x ∷ xs) a b (suc j) e = ⊎_elim inl
      (λ (t : (j ≡ length xs) × (a ≡ b)). inr (ap suc t.0, t.1)) (at_last_or xs a b j e)

  -- the last element stands at the length of the others
  pub at_end : (l : List A) (a : A) → get_elem? (l ++ a ∷ []) (length l) ≡ some a
  at_end [] a = refl
  at_end (x ∷ xs) a = at_end xs a

  -- a list of one has no other element
  pub at_only : (a b : A) (j : ℕ) → get_elem? (a ∷ []) j ≡ some b → a ≡ b
  at_only a b zero e = some-injective a b e
  at_only a b (suc j) e = absurd (some-ne-none b (sym e))

  -- a list with no element is empty
  pub none_at : (l : List A) → ((k : ℕ) (a : A) → get_elem? l k ≡ some a → ⊥) → l ≡ []
  none_at [] never = refl
  none_at (x ∷ xs) never = absurd (never 0 x refl)

  empty_of : (xs : List A) → length xs ≡ 0 → xs ≡ []
  empty_of [] e = refl
  empty_of (x ∷ xs) e = absurd (omega arith)

  -- of a beginning and the whole, the longer is the whole
  pub longer-right : (all a b : List A) → StartsWith all a → b ≡ all → longer a b ≡ all
  longer-right all a b starts is = go (ltb (length a) (length b)) refl
    where
      go : (t : Bool) → ltb (length a) (length b) ≡ t → cond t b a ≡ all
      go true e = is
      go false e =
          let low : length b ≤ length a = ltb-false (length a) (length b) e in
          let same : length all ≡ length a + length starts.0 = ap length starts.1
          ∙ length-append a starts.0 in
          let whole : length b ≡ length all = ap length is in
          let none_left : starts.0 ≡ [] = empty_of starts.0 (omega arith) in
          sym (starts.1 ∙ ap (λ l. a ++ l) none_left ∙ append-nil a)

  -- of the whole and a beginning, the longer is the whole
  pub longer-left : (all a b : List A) → a ≡ all → StartsWith all b → longer a b ≡ all
  longer-left all a b is starts = go (ltb (length a) (length b)) refl
    where
      go : (t : Bool) → ltb (length a) (length b) ≡ t → cond t b a ≡ all
      go false e = is
      go true e =
          let high : length a < length b = ltb-true (length a) (length b) e in
          let same : length all ≡ length b + length starts.0 = ap length starts.1
          ∙ length-append b starts.0 in
          let whole : length a ≡ length all = ap length is in
          absurd (omega arith)

  -- the longer of two beginnings is a beginning
  pub longer-starts : (all a b : List A) → StartsWith all a → StartsWith all b
      → StartsWith all (longer a b)
  longer-starts all a b p q = go (ltb (length a) (length b))
    where
      go : (t : Bool) → StartsWith all (cond t b a)
      go true = q
      go false = p

  -- of two beginnings of one list, the rest behind the shorter ends with the rest behind the longer
  pub rest_within : (a b c d : List A) → a ++ b ≡ c ++ d → length a ≤ length c
      → (mid : List A) × (b ≡ mid ++ d)
  rest_within [] b c d e low = (c, e)
  rest_within (x ∷ xs) b [] d e low = absurd (omega arith)
  rest_within (x ∷ xs) b (y ∷ ys) d e low = rest_within xs b ys d (ap (drop 1) e) (omega arith)
