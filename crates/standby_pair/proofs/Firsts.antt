-- The first of what a function gives of 0, 1 and so on.
use Rattle.std.proofs.Common.{◌≡◌, ℕ, zero, suc, ◌+◌, ◌<◌, ◌≤◌, Bool, true, false, List, [], ◌∷◌}
use Rattle.std.proofs.Common.{◌++◌, map, cond, refl, sym, ap, ◌∙◌, append-nil, arith}
use Rattle.std.specs.Prelude.{filter}
use Rattle.std.specs.List.{count_by, range_with_len}
use Rattle.std.proofs.lemmas.List.FromFn.{filter_of_map_range_with_len_more}
use Rattle.std.proofs.lemmas.List.FromFn.{map-range_with_len_more}
use Rattle.std.proofs.lemmas.List.Sums.{sum_by-append, sum_by-cons, sum_by_push}

module _ {X : Type 0} (f : ℕ → X) where
  abbrev pub firsts : ℕ → List X
  firsts many = map f (range_with_len 0 many)

  pub firsts-more : (many : ℕ) → firsts (suc many) ≡ firsts many ++ f many ∷ []
  firsts-more many =
      let e : suc many ≡ many + 1 = omega arith in
      ap firsts e
      ∙ map-range_with_len_more f 0 many many (omega arith)

  module _ (p : X → Bool) where
    -- one more that passes, or does not
    pub filter-more : (many : ℕ)
        → filter p (firsts (suc many))
        ≡ filter p (firsts many) ++ cond (p (f many)) (f many ∷ []) []
    filter-more many =
        let e : suc many ≡ many + 1 = omega arith in
        ap (λ (n : ℕ). filter p (firsts n)) e
        ∙ filter_of_map_range_with_len_more p f 0 many many (omega arith)

    pub filter-yes : (many : ℕ) → p (f many) ≡ true
        → filter p (firsts (suc many)) ≡ filter p (firsts many) ++ f many ∷ []
    filter-yes many is =
        filter-more many
        ∙ ap (λ (b : Bool). filter p (firsts many) ++ cond b (f many ∷ []) []) is

    pub filter-no : (many : ℕ) → p (f many) ≡ false
        → filter p (firsts (suc many)) ≡ filter p (firsts many)
    filter-no many is =
        filter-more many
        ∙ ap (λ (b : Bool). filter p (firsts many) ++ cond b (f many ∷ []) []) is
        ∙ append-nil (filter p (firsts many))

    -- none passes from a place on
    pub filter-front : (many more : ℕ) → ((place : ℕ) → many ≤ place → p (f place) ≡ false)
        → filter p (firsts (many + more)) ≡ filter p (firsts many)
    filter-front many zero none =
        let e : many + 0 ≡ many = omega arith in ap (λ (n : ℕ). filter p (firsts n)) e
    filter-front many (suc more) none =
        let e : many + suc more ≡ suc (many + more) = omega arith in
        ap (λ (n : ℕ). filter p (firsts n)) e
        ∙ filter-no (many + more) (none (many + more) (omega arith))
        ∙ filter-front many more none

    -- none passes at all, or each does
    pub filter-none : (many : ℕ) → ((place : ℕ) → place < many → p (f place) ≡ false)
        → filter p (firsts many) ≡ []
    filter-none zero none = refl
    filter-none (suc many) none =
        filter-no many (none many (omega arith))
        ∙ filter-none many (λ place below. none place (omega (arith, below)))

    pub filter-all : (many : ℕ) → ((place : ℕ) → place < many → p (f place) ≡ true)
        → filter p (firsts many) ≡ firsts many
    filter-all zero all = refl
    filter-all (suc many) all =
        filter-yes many (all many (omega arith))
        ∙ ap (λ (l : List X). l ++ f many ∷ [])
        (filter-all many (λ place below. all place (omega (arith, below))))
        ∙ sym (firsts-more many)

-- What passes a test, of what passes one that it stands below.
pub filter-both : {X : Type 0} (p q : X → Bool) (xs : List X)
    → ((x : X) → q x ≡ false → p x ≡ false) → filter p (filter q xs) ≡ filter p xs
filter-both p q [] below = refl
filter-both {X} p q (x ∷ xs) below = by (q x) refl (filter-both p q xs below)
  where
    by : (b : Bool) → q x ≡ b → filter p (filter q xs) ≡ filter p xs
        → filter p (cond b (x ∷ filter q xs) (filter q xs))
        ≡ cond (p x) (x ∷ filter p xs) (filter p xs)
    by true is rest = ap (λ (l : List X). cond (p x) (x ∷ l) l) rest
    by false is rest =
        rest ∙ ap (λ (b : Bool). cond b (x ∷ filter p xs) (filter p xs)) (sym (below x is))

-- How many pass of some, and of one more.
pub count-more : {X : Type 0} (p : X → Bool) (xs : List X) (x : X)
    → count_by p (xs ++ x ∷ []) ≡ count_by p xs + cond (p x) 1 0
count-more p xs x = sum_by_push (λ y. cond (p y) 1 0) xs x

pub count-both : {X : Type 0} (p : X → Bool) (xs ys : List X)
    → count_by p (xs ++ ys) ≡ count_by p xs + count_by p ys
count-both p xs ys = sum_by-append (λ y. cond (p y) 1 0) xs ys

pub count-first : {X : Type 0} (p : X → Bool) (x : X) (xs : List X)
    → count_by p (x ∷ xs) ≡ cond (p x) 1 0 + count_by p xs
count-first p x xs = sum_by-cons (λ y. cond (p y) 1 0) x xs

-- A range and one number more.
pub range-more : (from many : ℕ)
    → range_with_len from (suc many) ≡ range_with_len from many ++ (from + many) ∷ []
range-more from zero = let e : from ≡ from + 0 = omega arith in ap (λ (n : ℕ). n ∷ []) e
range-more from (suc many) =
    let e : from + 1 + many ≡ from + suc many = omega arith in
    ap (λ (l : List ℕ). from ∷ l) (range-more (from + 1) many)
    ∙ ap (λ (n : ℕ). from ∷ (range_with_len (from + 1) many ++ n ∷ [])) e
