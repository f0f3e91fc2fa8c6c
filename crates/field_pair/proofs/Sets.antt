-- Rows as words, and sets of them.
use Rattle.std.proofs.Common.{◌≡◌, ℕ, zero, suc, ◌+◌, Bool, true, false, List, [], ◌∷◌, ◌++◌}
use Rattle.std.proofs.Common.{Some}
use Rattle.std.proofs.Common.{◌≤◌, length, None, refl, sym, ap, ◌∙◌, arith, take, inl, inr}
use Rattle.std.proofs.Common.{◌⊎◌}
use Rattle.std.specs.Prelude.{◌||◌, ◌↔◌, if◌then◌else◌, nat_eq, slice_get, Vec}
use Rattle.std.specs.Cmp.Lexicographic.{pointwise}
use Rattle.std.specs.List.{list_any}
use Rattle.std.specs.declared.alloc.Global.{Global}
use Rattle.std.proofs.lemmas.Slice.Eq.{bytes_eq-Decides}
use Rattle.plant_types.specs.declared.drops.ScriptRow.{ScriptRow}
use Rattle.plant_types.specs.declared.drops.ScriptRow.TheVariants.{Silent, Row}
use Rattle.side_runs.specs.Beside.{HasRowsOf}
use Rattle.field_pair.specs.Rows.{row_key, HoldsRows, IsOfRow}

-- equal words are those of one row
pub one-row : (a b : ScriptRow) → row_key a ≡ row_key b → a ≡ b
one-row Silent Silent same = refl
one-row Silent (Row words) same = absurd (let no' : [] ≡ 1 ∷ words = same in cc)
one-row (Row words) Silent same = absurd (let no' : 1 ∷ words ≡ [] = same in cc)
one-row (Row words) (Row other) same =
    let whole : 1 ∷ words ≡ 1 ∷ other = same in
    let e : words ≡ other = cc in
    ap Row e

-- no words of rows yet
pub none-held : HoldsRows [] []
none-held key = (
  λ is. absurd (let no' : false ≡ true = is in cc),
  λ of. absurd (let no' : None ≡ Some of.row = of.is_there in cc),
)

-- one of a list that goes on
any-left : {X : Type 0} (test : X → Bool) (xs ys : List X) → list_any test xs ≡ true
    → list_any test (xs ++ ys) ≡ true
any-left test [] ys is = absurd (let no' : false ≡ true = is in cc)
any-left test (x ∷ xs) ys is = by (test x) is (any-left test xs ys)
  where
    by : (b : Bool) → (b || list_any test xs) ≡ true
        → (list_any test xs ≡ true → list_any test (xs ++ ys) ≡ true)
        → (b || list_any test (xs ++ ys)) ≡ true
    by true is' more = refl
    by false is' more = more is'

any-last : {X : Type 0} (test : X → Bool) (xs : List X) (x : X) → test x ≡ true
    → list_any test (xs ++ x ∷ []) ≡ true
any-last test [] x is = ap (λ b. b || false) is
any-last test (y ∷ xs) x is = by (test y) (any-last test xs x is)
  where
    by : (b : Bool) → list_any test (xs ++ x ∷ []) ≡ true
        → (b || list_any test (xs ++ x ∷ [])) ≡ true
    by true more = refl
    by false more = more

any-split : {X : Type 0} (test : X → Bool) (xs : List X) (x : X)
    → list_any test (xs ++ x ∷ []) ≡ true → (list_any test xs ≡ true) ⊎ (test x ≡ true)
any-split test [] x is = by (test x) is
  where
    by : (b : Bool) → (b || false) ≡ true → (false ≡ true) ⊎ (b ≡ true)
    by true is' = inr refl
    by false is' = inl is'
any-split test (y ∷ xs) x is = by (test y) is (any-split test xs x)
  where
    by : (b : Bool) → (b || list_any test (xs ++ x ∷ [])) ≡ true
        → (list_any test (xs ++ x ∷ []) ≡ true → (list_any test xs ≡ true) ⊎ (test x ≡ true))
        → ((b || list_any test xs) ≡ true) ⊎ (test x ≡ true)
    by true is' more = inl refl
    by false is' more = more is'

-- the rows of one more
taken-on : {X : Type 0} (xs : List X) (n i : ℕ) (x : X) → slice_get (take n xs) i ≡ Some x
    → slice_get (take (n + 1) xs) i ≡ Some x
taken-on {X} xs n i x at =
    let up : suc n ≡ n + 1 = omega arith in
    ap (λ k. slice_get (take k xs) i) (sym up) ∙ by xs n i at
  where
    by : (ys : List X) (m j : ℕ) → slice_get (take m ys) j ≡ Some x
        → slice_get (take (suc m) ys) j ≡ Some x
    by [] zero j is = absurd (let no' : None ≡ Some x = is in cc)
    by [] (suc m) j is = absurd (let no' : None ≡ Some x = is in cc)
    by (y ∷ ys) zero j is = absurd (let no' : None ≡ Some x = is in cc)
    by (y ∷ ys) (suc m) zero is = is
    by (y ∷ ys) (suc m) (suc j) is = by ys m j is

taken-last : {X : Type 0} (xs : List X) (n : ℕ) (x : X) → slice_get xs n ≡ Some x
    → slice_get (take (n + 1) xs) n ≡ Some x
taken-last {X} xs n x at =
    let up : suc n ≡ n + 1 = omega arith in
    ap (λ k. slice_get (take k xs) n) (sym up) ∙ by xs n at
  where
    by : (ys : List X) (m : ℕ) → slice_get ys m ≡ Some x → slice_get (take (suc m) ys) m ≡ Some x
    by [] m is = absurd (let no' : None ≡ Some x = is in cc)
    by (y ∷ ys) zero is = is
    by (y ∷ ys) (suc m) is = by ys m is

pub taken-get : {X : Type 0} (xs : List X) (n i : ℕ) (x : X)
    → slice_get (take (n + 1) xs) i ≡ Some x
    → (slice_get (take n xs) i ≡ Some x) ⊎ (slice_get xs n ≡ Some x)
taken-get {X} xs n i x at =
    let up : n + 1 ≡ suc n = omega arith in
    by xs n i (ap (λ k. slice_get (take k xs) i) (sym up) ∙ at)
  where
    by : (ys : List X) (m j : ℕ) → slice_get (take (suc m) ys) j ≡ Some x
        → (slice_get (take m ys) j ≡ Some x) ⊎ (slice_get ys m ≡ Some x)
    by [] m j is = absurd (let no' : None ≡ Some x = is in cc)
    by (y ∷ ys) zero zero is = inr is
    by (y ∷ ys) zero (suc j) is = absurd (let no' : None ≡ Some x = is in cc)
    by (y ∷ ys) (suc m) zero is = inl is
    by (y ∷ ys) (suc m) (suc j) is = by ys m j is

pub take-whole : {X : Type 0} (xs : List X) (n : ℕ) → length xs ≤ n → take n xs ≡ xs
take-whole [] zero most = refl
take-whole [] (suc n) most = refl
take-whole (x ∷ xs) zero most = absurd (omega (arith, most))
take-whole {X} (x ∷ xs) (suc n) most =
    ap (λ (l : List X). x ∷ l) (take-whole xs n (omega (arith, most)))

abbrev pub is_held : List ℕ → Vec ℕ Global → Bool
is_held key held = pointwise nat_eq key held.items

module _ (keys : List (Vec ℕ Global)) (script : List ScriptRow) (i : ℕ) (row : ScriptRow)
    (key : Vec ℕ Global) (at : slice_get script i ≡ Some row) (words : key.items ≡ row_key row)
    (held : HoldsRows keys (take i script)) where
  of-more : (k : List ℕ) → IsOfRow (take i script) k → IsOfRow (take (i + 1) script) k
  of-more k of = record {
    place = of.place;
    row = of.row;
    is_there = taken-on script i of.place of.row of.is_there;
    words = of.words;
  }

  of-last : (k : List ℕ) → pointwise nat_eq k key.items ≡ true → IsOfRow (take (i + 1) script) k
  of-last k is = record {
    place = i;
    row = row;
    is_there = taken-last script i row at;
    words = sym words ∙ sym ((bytes_eq-Decides k key.items).0 is);
  }

  -- where the words are those of the row
  own-words : (k : List ℕ) (of : IsOfRow (take (i + 1) script) k)
      → slice_get script i ≡ Some of.row → k ≡ key.items
  own-words k of is =
      let same : Some row ≡ Some of.row = sym at ∙ is in
      let e : row ≡ of.row = cc in
      sym of.words ∙ (ap row_key (sym e) ∙ sym words)

  in-keys : (k : List ℕ) (of : IsOfRow (take (i + 1) script) k) (more : List (Vec ℕ Global))
      → (k ≡ key.items → list_any (is_held k) more ≡ true)
      → (list_any (is_held k) keys ≡ true → list_any (is_held k) more ≡ true)
      → list_any (is_held k) more ≡ true
  in-keys k of more own old =
      by (taken-get script i of.place of.row of.is_there)
    where
      by : (slice_get (take i script) of.place ≡ Some of.row) ⊎ (slice_get script i ≡ Some of.row)
          → list_any (is_held k) more ≡ true
      by (inl there) = old ((held k).1 (record {
        place = of.place;
        row = of.row;
        is_there = there;
        words = of.words;
      }))
      by (inr here) = own (own-words k of here)

  pub held-more : HoldsRows
      (if list_any (is_held key.items) keys then keys else keys ++ key ∷ [])
      (take (i + 1) script)
  held-more k = by (list_any (is_held key.items) keys) refl
    where
      by : (b : Bool) → list_any (is_held key.items) keys ≡ b
          → list_any (is_held k) (if b then keys else keys ++ key ∷ []) ≡ true
          ↔ IsOfRow (take (i + 1) script) k
      by true is = (
        λ found. of-more k ((held k).0 found),
        λ of. in-keys k of keys
            (λ own. ap (λ (w : List ℕ). list_any (is_held w) keys) own ∙ is) (λ old. old),
      )
      by false is = (
        λ found. split (any-split (is_held k) keys key found),
        λ of. in-keys k of (keys ++ key ∷ [])
            (λ own. any-last (is_held k) keys key ((bytes_eq-Decides k key.items).1 own))
            (λ old. any-left (is_held k) keys (key ∷ []) old),
      )
        where
          split : (list_any (is_held k) keys ≡ true) ⊎ (is_held k key ≡ true)
              → IsOfRow (take (i + 1) script) k
          split (inl old) = of-more k ((held k).0 old)
          split (inr last) = of-last k last

-- ---- each row of a script is one of another

pub none-lacks : (other : List ScriptRow) → HasRowsOf [] other
none-lacks other i row at = absurd (let no' : None ≡ Some row = at in cc)

pub held-row : (keys : List (Vec ℕ Global)) (other : List ScriptRow) (row : ScriptRow)
    (words : List ℕ) → HoldsRows keys other → words ≡ row_key row
    → list_any (is_held words) keys ≡ true → (j : ℕ) × (slice_get other j ≡ Some row)
held-row keys other row words held is found =
    let of = (held words).0 found in
    let e : of.row ≡ row = one-row of.row row (of.words ∙ is) in
    (of.place, of.is_there ∙ ap Some e)

pub rows-more : (script other : List ScriptRow) (i : ℕ) (row : ScriptRow)
    → slice_get script i ≡ Some row → HasRowsOf (take i script) other
    → (j : ℕ) × (slice_get other j ≡ Some row) → HasRowsOf (take (i + 1) script) other
rows-more script other i row at before there =
    λ k x is. by k x (taken-get script i k x is)
  where
    by : (k : ℕ) (x : ScriptRow)
        → (slice_get (take i script) k ≡ Some x) ⊎ (slice_get script i ≡ Some x)
        → (j : ℕ) × (slice_get other j ≡ Some x)
    by k x (inl is) = before k x is
    by k x (inr is) = (there.0, there.1 ∙ (sym at ∙ is))

pub row-lacks : (keys : List (Vec ℕ Global)) (script other : List ScriptRow) (i : ℕ)
    (row : ScriptRow) (words : List ℕ) → HoldsRows keys other → words ≡ row_key row
    → slice_get script i ≡ Some row → list_any (is_held words) keys ≡ false
    → HasRowsOf script other → ⊥
row-lacks keys script other i row words held is at not all =
    let there = all i row at in
    let found = (held words).1 (record {
      place = there.0;
      row = row;
      is_there = there.1;
      words = sym is;
    }) in
    let no' : true ≡ false = sym found ∙ not in
    cc
