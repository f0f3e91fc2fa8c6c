-- A grid is that of the network that it lists.
use Rattle.std.proofs.Common.{◌≡◌, ℕ, ◌+◌, ◌-◌, ◌*◌, ◌/◌, ◌%◌, ◌^◌, ◌≤◌, ◌<◌, zero, suc, Bool, true}
use Rattle.std.proofs.Common.{false, cond, ◌&&◌, ◌||◌, ◌==◌, List, [], ◌∷◌, ◌++◌, Option, Some}
use Rattle.std.proofs.Common.{None, ◌⊎◌, inl, inr, length, refl, sym, ap, ◌∙◌, subst, arith}
use Rattle.std.specs.Prelude.{find, map}
use Rattle.std.specs.List.{AllByRecursion}
use Rattle.std.proofs.lemmas.Bool.Decides.{nat_tests}
use Rattle.std.proofs.lemmas.List.{append_assoc}
use Rattle.std.proofs.lemmas.List.Folds.{list_any-append}
use Rattle.plant_types.specs.declared.network.Cell.{Cell}
use Rattle.plant_types.specs.declared.network.Short.{Short}
use Rattle.plant_types.specs.declared.network.Network.{Network}
use Rattle.plant_types.specs.Power.{bit_of}
use Rattle.plant_types.specs.Wire.{is_shorted}
use Rattle.grid_compile.specs.declared.grid.Op.{Op}
use Rattle.grid_compile.specs.declared.grid.Column.{Column}
use Rattle.grid_compile.specs.declared.grid.Grid.{Grid}
use Rattle.grid_compile.specs.Cells.{cell_at, before, cells_from, marks_of}
use Rattle.grid_compile.specs.Masks.{row_on}
use Rattle.grid_compile.specs.Layout.{op_of, columns_from, grid_of, grids_of}
use Rattle.grid_compile.specs.Lists.{Rises}
use Rattle.grid_compile.specs.Listed.{listed_cell, cells_in, short_if, shorts_of, shorts_at}
use Rattle.grid_compile.specs.Listed.{shorts_in}
use Rattle.grid_compile.specs.Listed.{listed_network, listed_segments, EachGridListed}
use Rattle.grid_compile.specs.Bounds.{IsColumn, IsGrid}

-- what the first cells lack is found among the others
lacks : (x : Cell) (b : Bool) (first all others : Option Cell) → (first ≡ None → all ≡ others)
    → cond b (Some x) first ≡ None
    → cond b (Some x) all ≡ others
lacks x true first all others rest none = absurd (cc)
lacks x false first all others rest none = rest none

find_behind : (p : Cell → Bool) (xs ys : List Cell) → find p xs ≡ None
    → find p (xs ++ ys) ≡ find p ys
find_behind p [] ys none = refl
find_behind p (x ∷ xs) ys none =
    lacks x (p x) (find p xs) (find p (xs ++ ys)) (find p ys) (find_behind p xs ys) none

-- what the others lack is found among the first
find_first : (p : Cell → Bool) (xs ys : List Cell) → find p ys ≡ None
    → find p (xs ++ ys) ≡ find p xs
find_first p [] ys none = none
find_first p (x ∷ xs) ys none = ap (cond (p x) (Some x)) (find_first p xs ys none)

-- what neither has is not found
find_none : (p : Cell → Bool) (xs ys : List Cell) → find p xs ≡ None → find p ys ≡ None
    → find p (xs ++ ys) ≡ None
find_none p xs ys a b = find_behind p xs ys a ∙ b

apart : (a b : ℕ) → a < b → (a == b) ≡ false
apart a b h = grind (arith, nat_tests)

apart_above : (a b : ℕ) → b < a → (a == b) ≡ false
apart_above a b h = grind (arith, nat_tests)

itself : (a : ℕ) → (a == a) ≡ true
itself a = grind (arith, nat_tests)

and_no : (b : Bool) → b && false ≡ false
and_no true = refl
and_no false = refl

or_no : (b : Bool) → b || false ≡ b
or_no true = refl
or_no false = refl

and_yes : (b : Bool) → b && true ≡ b
and_yes true = refl
and_yes false = refl

-- no cell of another column
ops_elsewhere : (column c r : ℕ) (ops : List Op) → (column == c) ≡ false
    → cell_at (map (listed_cell column) ops) c r ≡ None
ops_elsewhere column c r [] h = refl
ops_elsewhere column c r (op ∷ ops) h = rw h (ops_elsewhere column c r ops h)

-- nor of columns behind it
cells_elsewhere : (column c r : ℕ) (columns : List Column) → c < column
    → cell_at (cells_in column columns) c r ≡ None
unfolding cells_in
cells_elsewhere column c r [] h = refl
cells_elsewhere column c r (laid ∷ columns) h =
    find_none (λ cell. (cell.column == c) && (cell.row == r)) (map (listed_cell column) laid.ops)
    (cells_in (column + 1) columns)
    (ops_elsewhere column c r laid.ops (apart_above column c h)) (cells_elsewhere (column + 1) c r
    columns (omega (arith, h)))

-- columns list the same where their cells are found alike
same_found : (xs ys : List Cell) (c row count : ℕ) → ((r : ℕ) → cell_at xs c r ≡ cell_at ys c r)
    → cells_from xs c row count ≡ cells_from ys c row count
unfolding cells_from
same_found xs ys c row zero same = refl
same_found xs ys c row (suc count) same =
    λ i. before (same row i) (same_found xs ys c (row + 1) count same i)

-- a cell above is passed over
past_head : (c : ℕ) (x : Cell) (xs : List Cell) (row count : ℕ) → x.row < row
    → cells_from (x ∷ xs) c row count ≡ cells_from xs c row count
unfolding cells_from
past_head c x xs row zero h = refl
past_head c x xs row (suc count) h =
    let skipped : cell_at (x ∷ xs) c row ≡ cell_at xs c row =
    ap (λ b. cond ((x.column == c) && b) (Some x) (cell_at xs c row)) (apart x.row row h)
    ∙ ap (λ b. cond b (Some x) (cell_at xs c row)) (and_no (x.column == c)) in
    λ i. before (skipped i) (past_head c x xs (row + 1) count (omega (arith, h)) i)

-- no cell above the first
none_above : (c r : ℕ) (row : ℕ) (ops : List Op) → Rises row ops → r < row
    → cell_at (map (listed_cell c) ops) c r ≡ None
none_above c r row [] rises h = refl
none_above c r row (op ∷ ops) rises h =
    let above : r < op.row = omega (arith, rises.0.0, h) in
    ap (λ b. cond ((c == c) && b) (Some (listed_cell c op)) (cell_at (map (listed_cell c) ops) c r))
    (apart_above op.row r above)
    ∙ ap (λ b. cond b (Some (listed_cell c op)) (cell_at (map (listed_cell c) ops) c r))
    (and_no (c == c))
    ∙ none_above c r (op.row + 1) ops rises.1 (omega (arith, above))

here_or_later : (a b : ℕ) → a ≤ b → (b ≡ a) ⊎ (a < b)
here_or_later a b h = grind arith

-- the cells of a column are listed as they stand
ops_listed : (c : ℕ) (ops : List Op) (row count : ℕ) → row + count ≡ 8 → Rises row ops
    → cells_from (map (listed_cell c) ops) c row count ≡ map (listed_cell c) ops
unfolding cells_from
ops_listed c [] row zero all rises = refl
ops_listed c (op ∷ ops) row zero all rises = absurd (omega (arith, all, rises.0.0, rises.0.1))
ops_listed c [] row (suc count) all rises = ops_listed c [] (row + 1) count (omega (arith, all)) tt
ops_listed c (op ∷ ops) row (suc count) all rises =
    elim (here_or_later row op.row rises.0.0) [
      | inl e ↦
          let found : cell_at (map (listed_cell c) (op ∷ ops)) c row ≡ Some (listed_cell c op) =
          rw (itself c, ap (λ r. r == row) e ∙ itself row) refl in
          ap (λ o. before o (cells_from (map (listed_cell c) (op ∷ ops)) c (row + 1) count)) found
          ∙ ap (λ cells. listed_cell c op ∷ cells) (past_head c (listed_cell c op)
          (map (listed_cell c) ops) (row + 1) count (omega (arith, e))
          ∙ ops_listed c ops (row + 1) count (omega (arith, all))
          (subst (λ r. Rises (r + 1) ops) e rises.1))
      | inr later ↦
          ap (λ o. before o (cells_from (map (listed_cell c) (op ∷ ops)) c (row + 1) count))
          (none_above c row op.row (op ∷ ops) ((omega arith, rises.0.1), rises.1) later)
          ∙ ops_listed c (op ∷ ops) (row + 1) count (omega (arith, all))
          ((omega (arith, later), rises.0.1), rises.1)
    ]

ops_again : (c : ℕ) (ops : List Op) → map op_of (map (listed_cell c) ops) ≡ ops
ops_again c [] = refl
ops_again c (op ∷ ops) = ap (λ rest. op ∷ rest) (ops_again c ops)

-- one short
short_told : (on : Bool) (column row c r : ℕ)
    → is_shorted (short_if on column row) c r ≡ on && ((column == c) && (row == r))
short_told true column row c r = or_no ((column == c) && (row == r))
short_told false column row c r = refl

-- all six
shorts_told : (a b c d e f : Bool) (column k r : ℕ)
    → is_shorted (shorts_of a b c d e f column) k r
    ≡ (a && ((column == k) && (1 == r)))
    || ((b && ((column == k) && (2 == r))) || ((c && ((column == k) && (3 == r)))
    || ((d && ((column == k) && (4 == r)))
    || ((e && ((column == k) && (5 == r))) || (f && ((column == k) && (6 == r)))))))
shorts_told a b c d e f column k r =
    let p : Short → Bool = λ s. (s.column == k) && (s.row == r) in
    list_any-append p (short_if a column 1) _
    ∙ (λ i. short_told a column 1 k r i || (list_any-append p (short_if b column 2) _
    ∙ (λ i. short_told b column 2 k r i || (list_any-append p (short_if c column 3) _
    ∙ (λ i. short_told c column 3 k r i || (list_any-append p (short_if d column 4) _
    ∙ (λ i. short_told d column 4 k r i || (list_any-append p (short_if e column 5) _
    ∙ (λ i. short_told e column 5 k r i || short_told f column 6 k r i)) i)) i)) i)) i)

-- none at another column
shorts_elsewhere : (marks column k r : ℕ) → (column == k) ≡ false
    → is_shorted (shorts_at marks column) k r ≡ false
shorts_elsewhere marks column k r h =
    shorts_told (row_on marks 1) (row_on marks 2) (row_on marks 3) (row_on marks 4) (row_on marks 5)
    (row_on marks 6) column k r
    ∙ rw h (λ i. and_no (row_on marks 1) i
    || (and_no (row_on marks 2) i || (and_no (row_on marks 3) i || (and_no (row_on marks 4) i
    || (and_no (row_on marks 5) i || and_no (row_on marks 6) i)))))

-- nor at columns behind it
columns_elsewhere : (column k r : ℕ) (columns : List Column) → k < column
    → is_shorted (shorts_in column columns) k r ≡ false
unfolding shorts_in
columns_elsewhere column k r [] h = refl
columns_elsewhere column k r (laid ∷ columns) h =
    list_any-append (λ (s : Short). (s.column == k) && (s.row == r)) (shorts_at laid.shorts column)
    (shorts_in (column + 1) columns)
    ∙ (λ i. shorts_elsewhere laid.shorts column k r (apart_above column k h) i
    || columns_elsewhere (column + 1) k r columns (omega (arith, h)) i)

-- six flags as they stand
module _ (a b c d e f : Bool) (column : ℕ) where
  told : (r : ℕ) → is_shorted (shorts_of a b c d e f column) column r
      ≡ (a && (1 == r)) || ((b && (2 == r))
      || ((c && (3 == r)) || ((d && (4 == r)) || ((e && (5 == r)) || (f && (6 == r))))))
  told r = shorts_told a b c d e f column column r ∙ rw (itself column) refl

  first : is_shorted (shorts_of a b c d e f column) column 1 ≡ a
  first = told 1 ∙ (λ i. and_yes a i
      || (and_no b i || (and_no c i || (and_no d i || (and_no e i || and_no f i))))) ∙ or_no a

  second : is_shorted (shorts_of a b c d e f column) column 2 ≡ b
  second = told 2 ∙ (λ i. and_no a i
      || (and_yes b i || (and_no c i || (and_no d i || (and_no e i || and_no f i))))) ∙ or_no b

  third : is_shorted (shorts_of a b c d e f column) column 3 ≡ c
  third = told 3 ∙ (λ i. and_no a i
      || (and_no b i || (and_yes c i || (and_no d i || (and_no e i || and_no f i))))) ∙ or_no c

  fourth : is_shorted (shorts_of a b c d e f column) column 4 ≡ d
  fourth = told 4 ∙ (λ i. and_no a i
      || (and_no b i || (and_no c i || (and_yes d i || (and_no e i || and_no f i))))) ∙ or_no d

  fifth : is_shorted (shorts_of a b c d e f column) column 5 ≡ e
  fifth = told 5 ∙ (λ i. and_no a i
      || (and_no b i || (and_no c i || (and_no d i || (and_yes e i || and_no f i))))) ∙ or_no e

  sixth : is_shorted (shorts_of a b c d e f column) column 6 ≡ f
  sixth = told 6 ∙ (λ i. and_no a i
      || (and_no b i || (and_no c i || (and_no d i || (and_no e i || and_yes f i)))))

-- a mask is the number of its six digits
digit : (n : ℕ) → n < 2 → bit_of (n == 1) ≡ n
digit zero h = refl
digit (suc zero) h = refl
digit (suc (suc n)) h = absurd (omega (arith, h))

sum_of : (a b c d e f : ℕ) (m : ℕ) → m < 64 → a ≡ m / 2 ^ (1 - 1) % 2 → b ≡ m / 2 ^ (2 - 1) % 2
    → c ≡ m / 2 ^ (3 - 1) % 2 → d ≡ m / 2 ^ (4 - 1) % 2
    → e ≡ m / 2 ^ (5 - 1) % 2 → f ≡ m / 2 ^ (6 - 1) % 2
    → a + 2 * (b + 2 * (c + 2 * (d + 2 * (e + 2 * f)))) ≡ m
sum_of a b c d e f m h p q r s t u = omega (arith, h, p, q, r, s, t, u)

marks_again : (m : ℕ) → m < 64
    → bit_of (row_on m 1) + 2 *
    (bit_of (row_on m 2) + 2 * (bit_of (row_on m 3)
    + 2 * (bit_of (row_on m 4) + 2 * (bit_of (row_on m 5) + 2 * bit_of (row_on m 6)))))
    ≡ m
marks_again m h =
    sum_of _ _ _ _ _ _ m h (digit (m / 2 ^ (1 - 1) % 2) (omega arith))
    (digit (m / 2 ^ (2 - 1) % 2) (omega arith)) (digit (m / 2 ^ (3 - 1) % 2) (omega arith))
    (digit (m / 2 ^ (4 - 1) % 2) (omega arith)) (digit (m / 2 ^ (5 - 1) % 2) (omega arith))
    (digit (m / 2 ^ (6 - 1) % 2) (omega arith))

-- columns are told alike where their shorts are
same_marks : (xs ys : List Short) (column : ℕ) → ((r : ℕ)
    → is_shorted xs column r ≡ is_shorted ys column r) → marks_of xs column ≡ marks_of ys column
same_marks xs ys column same =
    λ i. bit_of (same 1 i) + 2 * (bit_of (same 2 i) + 2 * (bit_of (same 3 i)
    + 2 * (bit_of (same 4 i) + 2 * (bit_of (same 5 i) + 2 * bit_of (same 6 i)))))

marks_at : (m column : ℕ) → m < 64 → marks_of (shorts_at m column) column ≡ m
marks_at m column h =
    let a = row_on m 1 in
    let b = row_on m 2 in
    let c = row_on m 3 in
    let d = row_on m 4 in
    let e = row_on m 5 in
    let f = row_on m 6 in
    (λ i. bit_of (first a b c d e f column i)
    + 2 * (bit_of (second a b c d e f column i) + 2 * (bit_of (third a b c d e f column i)
    + 2 * (bit_of (fourth a b c d e f column i)
    + 2 * (bit_of (fifth a b c d e f column i) + 2 * bit_of (sixth a b c d e f column i))))))
    ∙ marks_again m h

-- the columns behind others that have nothing at them
columns_listed : (cells : List Cell) (shorts : List Short) (column : ℕ) (columns : List Column)
    → ((c r : ℕ) → column ≤ c → cell_at cells c r ≡ None)
    → ((c r : ℕ) → column ≤ c → is_shorted shorts c r ≡ false)
    → AllByRecursion IsColumn columns
    → columns_from (record {
      cells = cells ++ cells_in column columns;
      shorts = shorts ++ shorts_in column columns;
    }) column (length columns) ≡ columns
unfolding columns_from cells_in shorts_in
columns_listed cells shorts column [] none off formed = refl
columns_listed cells shorts column (laid ∷ columns) none off formed =
    let here = map (listed_cell column) laid.ops in
    let rest = cells_in (column + 1) columns in
    let marks = shorts_at laid.shorts column in
    let others = shorts_in (column + 1) columns in
    let found : (r : ℕ) → cell_at (cells ++ (here ++ rest)) column r ≡ cell_at here column r =
    λ r. find_behind (λ cell. (cell.column == column) && (cell.row == r)) cells (here ++ rest)
    (none column r (omega arith))
    ∙ find_first (λ cell. (cell.column == column) && (cell.row == r)) here rest
    (cells_elsewhere (column + 1) column r columns (omega arith)) in
    let rows_joined : (r : ℕ)
    → is_shorted (shorts ++ (marks ++ others)) column r ≡ is_shorted marks column r =
    λ r. list_any-append (λ (s : Short). (s.column == column) && (s.row == r)) shorts
    (marks ++ others)
    ∙ ap (λ b. b || is_shorted (marks ++ others) column r) (off column r (omega arith))
    ∙ list_any-append (λ (s : Short). (s.column == column) && (s.row == r)) marks others
    ∙ ap (λ b. is_shorted marks column r || b)
    (columns_elsewhere (column + 1) column r columns (omega arith))
    ∙ or_no (is_shorted marks column r) in
    let ops : map op_of (cells_from (cells ++ (here ++ rest)) column 1 7) ≡ laid.ops =
    ap (map op_of) (same_found (cells ++ (here ++ rest)) here column 1 7 found
    ∙ ops_listed column laid.ops 1 7 refl formed.0.rises)
    ∙ ops_again column laid.ops in
    let mask : marks_of (shorts ++ (marks ++ others)) column ≡ laid.shorts =
    same_marks (shorts ++ (marks ++ others)) marks column rows_joined
    ∙ marks_at laid.shorts column formed.0.shorts in
    let behind = columns_listed (cells ++ here) (shorts ++ marks) (column + 1) columns
    (λ c r h. find_none (λ cell. (cell.column == c) && (cell.row == r)) cells here
    (none c r (omega (arith, h)))
    (ops_elsewhere column c r laid.ops (apart column c (omega (arith, h)))))
    (λ c r h. list_any-append (λ (s : Short). (s.column == c) && (s.row == r)) shorts marks
    ∙ (λ i. off c r (omega (arith, h)) i
    || shorts_elsewhere laid.shorts column c r (apart column c (omega (arith, h))) i))
    formed.1 in
    let network : (record { cells = cells ++ (here ++ rest); shorts = shorts ++ (marks ++ others) })
    ≡ (record { cells = (cells ++ here) ++ rest; shorts = (shorts ++ marks) ++ others }) =
    λ i. record {
      cells = sym (append_assoc cells here rest) i;
      shorts = sym (append_assoc shorts marks others) i;
    } in
    λ i. record { ops = ops i; shorts = mask i }
    ∷ (ap (λ (n : Network). columns_from n (column + 1) (length columns)) network ∙ behind) i

-- the law
pub grid_listed : EachGridListed
grid_listed grid formed =
    λ i. record {
      columns = (ap (columns_from (listed_network grid) 1) (sym formed.eleven)
          ∙ columns_listed [] [] 1 grid.columns (λ c r h. refl) (λ c r h. refl) formed.columns) i;
    }

networks_listed : (grids : List Grid) → AllByRecursion IsGrid grids
    → map grid_of (map listed_network grids) ≡ grids
networks_listed [] formed = refl
networks_listed (grid ∷ grids) formed =
    λ i. grid_listed grid formed.0 i ∷ networks_listed grids formed.1 i

-- the grids of segments are those of the segments that they list
pub segments_listed : (segments : List (List Grid)) → AllByRecursion (AllByRecursion IsGrid)
    segments → grids_of (listed_segments segments) ≡ segments
segments_listed [] formed = refl
segments_listed (grids ∷ segments) formed =
    λ i. networks_listed grids formed.0 i ∷ segments_listed segments formed.1 i
