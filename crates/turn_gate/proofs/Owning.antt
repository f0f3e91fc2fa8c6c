-- Which entries name a number, and the numbers that a view keeps.
use Rattle.std.proofs.Common.{◌≡◌, ◌≢◌, ◌⊎◌, ℕ, zero, suc, ◌==◌, eqb, cond, List, [], ◌∷◌, ◌++◌}
use Rattle.std.proofs.Common.{length, Bool, true, false, ◌||◌, refl, sym, ap, ◌∙◌, subst, inl, inr}
use Rattle.std.proofs.Common.{⊎_elim, arith, eq-eqb, eqb-true, ne_eqb, nat_eq}
use Rattle.std.proofs.lemmas.List.Elements.{filter-append}
use Rattle.std.proofs.lemmas.Map.Keys.{IsDistinct-cons, IsDistinct-head, IsDistinct-tail}
use Rattle.std.specs.List.{IsDistinct, AllByRecursion}
use mathlib.Core.Option.{some, some-injective, some-ne-none}
use lib.ListN.{get_elem?}
use Rattle.turn_gate.specs.Known.{made_by, is_among}
use Rattle.turn_gate.specs.Rule.{numbers_of}

module _ {E : Type 0} (maker : E → ℕ) where
  -- where no entry names a number, it owns none
  pub own-none : (n : ℕ) (es : List E) → ((k : ℕ) (e : E) → get_elem? es k ≡ some e → maker e ≢ n)
      → made_by maker n es ≡ []
  own-none n [] all = refl
  own-none n (x ∷ xs) all =
      let other : eqb (maker x) n ≡ false = ne_eqb (maker x) n (all 0 x refl) in
      subst (λ (b : Bool). cond b (x ∷ made_by maker n xs) (made_by maker n xs) ≡ []) (sym other)
      (own-none n xs (λ k. all (suc k)))

  -- where each entry names a number, it owns them all
  pub own-mine : (by : ℕ) (es : List E) → ((k : ℕ) (e : E) → get_elem? es k ≡ some e → maker e ≡ by)
      → made_by maker by es ≡ es
  own-mine by [] all = refl
  own-mine by (x ∷ xs) all =
      let mine : eqb (maker x) by ≡ true = eq-eqb (maker x) by (all 0 x refl) in
      subst (λ (b : Bool). cond b (x ∷ made_by maker by xs) (made_by maker by xs) ≡ x ∷ xs)
      (sym mine) (ap (λ l. x ∷ l) (own-mine by xs (λ k. all (suc k))))

  -- where each entry names a number, another owns none
  pub own-others : (by n : ℕ) (es : List E) → n ≢ by
      → ((k : ℕ) (e : E) → get_elem? es k ≡ some e → maker e ≡ by) → made_by maker n es ≡ []
  own-others by n es ne all = own-none n es (λ k e there is. ne (sym is ∙ all k e there))

  -- the maker of an entry owns it
  pub own-has : (es : List E) (k : ℕ) (e : E) → get_elem? es k ≡ some e
      → made_by maker (maker e) es ≡ [] → ⊥
  own-has [] k e there none = absurd (some-ne-none e (sym there))
  own-has (x ∷ xs) zero e there none =
      let yes : eqb (maker x) (maker e) ≡ true =
      eq-eqb (maker x) (maker e) (ap maker (some-injective x e there)) in
      let has : x ∷ made_by maker (maker e) xs ≡ [] =
      sym (ap (λ (b : Bool). cond b (x ∷ made_by maker (maker e) xs) (made_by maker (maker e) xs))
      yes) ∙ none in cc
  own-has (x ∷ xs) (suc k) e there none = either (eqb (maker x) (maker e))
      (own-has xs k e there) none
    where
      either : (b : Bool) → (made_by maker (maker e) xs ≡ [] → ⊥)
          → cond b (x ∷ made_by maker (maker e) xs) (made_by maker (maker e) xs) ≡ [] → ⊥
      either true later is = let has : x ∷ made_by maker (maker e) xs ≡ [] = is in cc
      either false later is = later is

  -- what is owned of two lists together
  pub own-append : (n : ℕ) (es fs : List E)
      → made_by maker n (es ++ fs) ≡ made_by maker n es ++ made_by maker n fs
  own-append n es fs = filter-append (λ e. maker e == n) es fs

  -- where a number owns nothing of a list, it owns nothing of an end of it
  pub none_within : (n : ℕ) (mid rest : List E) → made_by maker n (mid ++ rest) ≡ []
      → made_by maker n rest ≡ []
  none_within n mid rest e = ends (made_by maker n mid) (made_by maker n rest)
      (sym (own-append n mid rest) ∙ e)
    where
      ends : (xs ys : List E) → xs ++ ys ≡ [] → ys ≡ []
      ends [] ys e = e
      ends (x ∷ xs) ys e = absurd (let no = ap length e in omega arith)

or_later : (a b : Bool) → b ≡ true → (a || b) ≡ true
or_later true b e = refl
or_later false b e = e

module _ {E : Type 0} where
  -- a number that is kept is among the numbers
  pub among_kept : (n : ℕ) (kept : List (ℕ × List E)) (k : ℕ) (es : List E)
      → get_elem? kept k ≡ some (n, es) → is_among n (numbers_of kept) ≡ true
  among_kept n [] k es e = absurd (some-ne-none _ (sym e))
  among_kept n (x ∷ xs) zero es e = ap (λ b. b || is_among n (numbers_of xs))
      (eq-eqb n x.0 (sym (ap (λ (q : ℕ × List E). q.0) (some-injective _ _ e))))
  among_kept n (x ∷ xs) (suc k) es e = or_later (nat_eq n x.0) (is_among n (numbers_of xs))
      (among_kept n xs k es e)

  -- a number among the numbers is kept
  pub kept_among : (n : ℕ) (kept : List (ℕ × List E)) → is_among n (numbers_of kept) ≡ true
      → (es : List E) × ((k : ℕ) × (get_elem? kept k ≡ some (n, es)))
  kept_among n [] e = absurd (let no : false ≡ true = e in cc)
  kept_among n (x ∷ xs) e = here x xs (kept_among n xs) (nat_eq n x.0) refl e
    where
      here : (x : ℕ × List E) (xs : List (ℕ × List E))
          → (is_among n (numbers_of xs) ≡ true → (es : List E)
          × ((k : ℕ) × (get_elem? xs k ≡ some (n, es)))) → (b : Bool) → nat_eq n x.0 ≡ b
          → (nat_eq n x.0 || is_among n (numbers_of xs)) ≡ true
          → (es : List E) × ((k : ℕ) × (get_elem? (x ∷ xs) k ≡ some (n, es)))
      here x xs more true is e = (x.1, (0, ap (λ m. some (m, x.1)) (sym (eqb-true n x.0 is))))
      here x xs more false is e = let m = more (sym (ap (λ b. b || is_among n (numbers_of xs)) is)
          ∙ e) in (m.0, (suc m.1.0, m.1.1))

  -- the numbers of two lists together
  pub numbers_of-append : (xs ys : List (ℕ × List E))
      → numbers_of (xs ++ ys) ≡ numbers_of xs ++ numbers_of ys
  numbers_of-append [] ys = refl
  numbers_of-append (x ∷ xs) ys = ap (λ l. x.0 ∷ l) (numbers_of-append xs ys)

-- a number that is not the head stands in the rest or nowhere
pub among_later : (n x : ℕ) (xs : List ℕ) → is_among n (x ∷ xs) ≡ false
    → (n ≢ x) × (is_among n xs ≡ false)
among_later n x xs e = go (nat_eq n x) refl e
  where
    go : (b : Bool) → nat_eq n x ≡ b → (nat_eq n x || is_among n xs) ≡ false
        → (n ≢ x) × (is_among n xs ≡ false)
    go true is e = absurd (let no : true ≡ false = sym (ap (λ b. b || is_among n xs) is) ∙ e in cc)
    go false is e = (
      (λ same. let no : true ≡ false = sym (eq-eqb n x same) ∙ is in cc),
      sym (ap (λ b. b || is_among n xs) is) ∙ e,
    )

-- a number that stands in neither of two lists stands not in both together
pub among_neither : (n : ℕ) (xs ys : List ℕ) → is_among n xs ≡ false → is_among n ys ≡ false
    → is_among n (xs ++ ys) ≡ false
among_neither n [] ys e f = f
among_neither n (x ∷ xs) ys e f =
    let apart = among_later n x xs e in
    ap (λ b. b || is_among n (xs ++ ys)) (ne_eqb n x apart.0) ∙ among_neither n xs ys apart.1 f

-- a number stands in a list or it does not
among_or_not : (n : ℕ) (xs : List ℕ) → (is_among n xs ≡ true) ⊎ (is_among n xs ≡ false)
among_or_not n xs = go (is_among n xs) refl
  where
    go : (b : Bool) → is_among n xs ≡ b → (is_among n xs ≡ true) ⊎ (is_among n xs ≡ false)
    go true e = inl e
    go false e = inr e

apart_from_each : (n : ℕ) (ys : List ℕ) → is_among n ys ≡ false
    → AllByRecursion (λ y. nat_eq n y ≡ false) ys
apart_from_each n [] e = tt
apart_from_each n (y ∷ ys) e =
    let apart = among_later n y ys e in (ne_eqb n y apart.0, apart_from_each n ys apart.1)

none_each : (n : ℕ) (ys : List ℕ) → AllByRecursion (λ y. nat_eq n y ≡ false) ys
    → is_among n ys ≡ false
none_each n [] all = refl
none_each n (y ∷ ys) all = ap (λ b. b || is_among n ys) all.0 ∙ none_each n ys all.1

-- no numbers differ
pub distinct-nil : IsDistinct nat_eq []
unfolding IsDistinct
distinct-nil = tt

-- a new number in front of numbers that differ
pub distinct-cons : (n : ℕ) (xs : List ℕ) → is_among n xs ≡ false → IsDistinct nat_eq xs
    → IsDistinct nat_eq (n ∷ xs)
distinct-cons n xs fresh d = IsDistinct-cons nat_eq n xs (apart_from_each n xs fresh) d

-- of numbers that differ, the first stands not among the others
pub distinct-first : (n : ℕ) (xs : List ℕ) → IsDistinct nat_eq (n ∷ xs) → is_among n xs ≡ false
distinct-first n xs d = none_each n xs (IsDistinct-head nat_eq n xs d)

-- two lists of numbers that differ, with none in both
pub distinct-append : (xs ys : List ℕ) → IsDistinct nat_eq xs → IsDistinct nat_eq ys
    → ((n : ℕ) → is_among n xs ≡ true → is_among n ys ≡ false)
    → IsDistinct nat_eq (xs ++ ys)
distinct-append [] ys d e apart = e
distinct-append (x ∷ xs) ys d e apart =
    distinct-cons x (xs ++ ys) (among_neither x xs ys (distinct-first x xs d)
    (apart x (ap (λ b. b || is_among x xs) (eq-eqb x x refl))))
    (distinct-append xs ys (IsDistinct-tail nat_eq x xs d) e
    (λ n is. apart n (or_later (nat_eq n x) (is_among n xs) is)))

-- a number that cannot stand in a list does not
pub apart_from_absurd : (n : ℕ) (ys : List ℕ) → (is_among n ys ≡ true → ⊥) → is_among n ys ≡ false
apart_from_absurd n ys never =
    ⊎_elim (λ (e : is_among n ys ≡ true). absurd (never e)) (λ e. e) (among_or_not n ys)
