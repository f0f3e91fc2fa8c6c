-- Places of the grid, no two of them one, are few.
use Rattle.std.proofs.Common.{◌≡◌, ℕ, ◌+◌, ◌*◌, ◌≤◌, ◌<◌, true, false, ◌&&◌, ◌==◌, List, [], ◌∷◌}
use Rattle.std.proofs.Common.{◌++◌, length, map, refl, sym, ◌∙◌, arith, true≢false, inl, inr}
use Rattle.std.specs.Prelude.{nat_le, nat_lt, nat_eq, ◌||◌}
use Rattle.std.specs.List.{list_any, list_all, IsDistinct, AllByRecursion}
use Rattle.std.specs.Cmp.{IsEquivalence}
use Rattle.std.proofs.lemmas.Bool.{and_parts, and_from, or_cases, or_parts, ne_eqb, eqb-true}
use Rattle.std.proofs.lemmas.Bool.{leb-true}
use Rattle.std.proofs.lemmas.Bool.Decides.{nat_tests}
use Rattle.std.proofs.lemmas.List.{length-map}
use Rattle.std.proofs.lemmas.List.Folds.{list_all-append}
use Rattle.std.proofs.lemmas.Map.Keys.{IsDistinct-push}
use Rattle.std.proofs.lemmas.Map.Steps.{length-le_from_distinct_below}
use Rattle.plant_types.specs.declared.element.Element.{Element}
use Rattle.plant_types.specs.declared.element.Element.TheVariants.{Timer, Counter, Math, Move}
use Rattle.plant_types.specs.declared.element.Element.TheVariants.{Matrix, Call, Mstr}
use Rattle.plant_types.specs.declared.network.Cell.{Cell}
use Rattle.plant_types.specs.declared.network.Short.{Short}
use Rattle.plant_types.specs.Network.{node_count, has_short_place, is_row, is_column, overlaps}
use Rattle.plant_types.specs.Network.{is_right_of_coil, clashes, same_short}
use Rattle.plant_types.specs.Grid.{cell_places, short_places, is_place, same_place, AreApart}

-- two pairs of numbers are one either way
pub same_symm : (a b m n : ℕ) → (a == b) && (m == n) ≡ (b == a) && (n == m)
same_symm a b m n = grind (arith, nat_tests)

-- a pair of numbers is itself
same_refl : (a m : ℕ) → (a == a) && (m == m) ≡ true
same_refl a m = grind (arith, nat_tests)

-- pairs that are one have their numbers in common
same_parts : (a b m n : ℕ) → (a == b) && (m == n) ≡ true → (a ≡ b) × (m ≡ n)
same_parts a b m n h =
    let parts = and_parts (a == b) (m == n) h in (eqb-true a b parts.0, eqb-true m n parts.1)

-- a place is one with each of two that are one, or with neither
same_congr : (x y z : ℕ × ℕ) → same_place x y ≡ true → same_place x z ≡ same_place y z
same_congr x y z h = let parts = same_parts x.0 y.0 x.1 y.1 h in rw (parts.0, parts.1) refl

-- so places can be told apart as keys can
same_equiv : IsEquivalence same_place
same_equiv = record {
  refl = λ x. same_refl x.0 x.1;
  symm = λ x y. same_symm x.0 y.0 x.1 y.1;
  congr = same_congr;
}

-- one more place, which none of them is
pub AreApart-push : (places : List (ℕ × ℕ)) (place : ℕ × ℕ) → AreApart places
    → is_place place ≡ true → list_any (same_place place) places ≡ false
    → AreApart (places ++ place ∷ [])
AreApart-push places place apart here other = record {
  within = list_all-append is_place places (place ∷ [])
      ∙ and_from _ _ apart.within (and_from _ _ here refl);
  distinct = IsDistinct-push same_equiv places place apart.distinct other;
}

-- a place as a number
abbrev number : ℕ × ℕ → ℕ
number place = place.0 * 12 + place.1

-- the number of a place of the grid is below 96, and its column below 12
number-place : (place : ℕ × ℕ) → is_place place ≡ true → (number place < 96) × (place.1 < 12)
number-place place h =
    let parts = and_parts (is_row place.0) (is_column place.1) h in
    let rows = and_parts (nat_le 1 place.0) (nat_le place.0 7) parts.0 in
    let columns = and_parts (nat_le 1 place.1) (nat_le place.1 11) parts.1 in
    let low : place.0 ≤ 7 = leb-true place.0 7 rows.1 in
    let left : place.1 ≤ 11 = leb-true place.1 11 columns.1 in
    (omega arith, omega arith)

-- other places have other numbers
number-other : (one other : ℕ × ℕ) → is_place one ≡ true → is_place other ≡ true
    → same_place one other ≡ false → nat_eq (number one) (number other) ≡ false
number-other one other p q h = ne_eqb (number one) (number other) (λ e.
    let left = number-place one p in
    let right = number-place other q in
    let rows : one.0 ≡ other.0 = omega arith in
    let columns : one.1 ≡ other.1 = omega arith in
    let same : same_place one other ≡ true = rw (rows, columns) (same_refl other.0 other.1) in
    true≢false (sym same ∙ h))

-- so a place has another number than each other place
numbers-other : (place : ℕ × ℕ) (places : List (ℕ × ℕ)) → is_place place ≡ true
    → list_all is_place places ≡ true
    → AllByRecursion (λ other. same_place place other ≡ false) places
    → AllByRecursion (λ n. nat_eq (number place) n ≡ false) (map number places)
numbers-other place [] here all apart = tt
numbers-other place (other ∷ places) here all apart =
    let parts = and_parts (is_place other) (list_all is_place places) all in
    (number-other place other here parts.0 apart.0, numbers-other place places here parts.1 apart.1)

-- places of which no two are one have numbers of which no two are one
numbers-distinct : (places : List (ℕ × ℕ)) → list_all is_place places ≡ true
    → IsDistinct same_place places → IsDistinct nat_eq (map number places)
unfolding IsDistinct
numbers-distinct [] all distinct = tt
numbers-distinct (place ∷ places) all distinct =
    let parts = and_parts (is_place place) (list_all is_place places) all in (
      numbers-other place places parts.0 parts.1 distinct.0,
      numbers-distinct places parts.1 distinct.1,
    )

-- the numbers of places of the grid are below 96
numbers-below : (places : List (ℕ × ℕ)) → list_all is_place places ≡ true → (q : ℕ)
    → list_any (nat_eq q) (map number places) ≡ true → q < 96
numbers-below [] all q h = cc
numbers-below (place ∷ places) all q h =
    let parts = and_parts (is_place place) (list_all is_place places) all in
    let low = number-place place parts.0 in
    elim (or_cases (nat_eq q (number place)) (list_any (nat_eq q) (map number places)) h) [
      | inl e ↦
          (let same : q ≡ number place = eqb-true q (number place) e in omega arith)
      | inr e ↦ numbers-below places parts.1 q e
    ]

-- places of the grid, no two of them one, are at most as many as the grid has
pub AreApart-few : (places : List (ℕ × ℕ)) → AreApart places → length places ≤ 96
AreApart-few places apart =
    omega (
      arith,
      length-map places number,
      length-le_from_distinct_below (map number places) 96
          (numbers-distinct places apart.within apart.distinct)
          (numbers-below places apart.within),
    )

-- an element has a node
node_count-some : (element : Element) → 1 ≤ node_count element
node_count-some (Timer unit preset acc) = omega arith
node_count-some (Counter up preset acc) = omega arith
node_count-some (Math op top mid low) = omega arith
node_count-some (Move op top mid length) = omega arith
node_count-some (Matrix op top mid length) = omega arith
node_count-some (Call number) = omega arith
node_count-some (Mstr control area length) = omega arith
node_count-some _ = omega arith

-- cells whose nodes share no place stand at two places
apart_places : (row column other_row other_column count other_count : ℕ) → 1 ≤ count
    → 1 ≤ other_count
    → (column == other_column)
    && (nat_lt row (other_row + other_count) && nat_lt other_row (row + count)) ≡ false
    → (row == other_row) && (column == other_column) ≡ false
apart_places row column other_row other_column count other_count some more h =
    grind (arith, nat_tests)

-- a cell that clashes with none stands at another place than each
pub free_place : (cells : List Cell) (cell : Cell) → list_any (clashes cell) cells ≡ false
    → list_any (same_place (cell.row, cell.column)) (cell_places cells) ≡ false
free_place [] cell h = refl
free_place (other ∷ cells) cell h =
    let parts = or_parts (clashes cell other) (list_any (clashes cell) cells) h in
    let apart = or_parts (overlaps cell other)
    (is_right_of_coil cell other || is_right_of_coil other cell) parts.0 in
    let here = apart_places cell.row cell.column other.row other.column (node_count cell.element)
    (node_count other.element)
    (node_count-some cell.element) (node_count-some other.element) apart.0 in
    rw (here, free_place cells cell parts.1) refl

-- a short that is none of these stands at another place than each
pub free_short : (shorts : List Short) (short : Short) → list_any (same_short short) shorts ≡ false
    → list_any (same_place (short.row, short.column)) (short_places shorts) ≡ false
free_short [] short h = refl
free_short (other ∷ shorts) short h =
    let parts = or_parts (same_short short other) (list_any (same_short short) shorts) h in
    rw (parts.0, free_short shorts short parts.1) refl

-- a short stands at a place of the grid
pub short_is_place : (short : Short) → has_short_place short ≡ true
    → is_place (short.row, short.column) ≡ true
short_is_place short h =
    let parts = and_parts (nat_le 1 short.row && nat_le short.row 6) (is_column short.column) h in
    let rows = and_parts (nat_le 1 short.row) (nat_le short.row 6) parts.0 in
    let low : nat_le short.row 7 ≡ true = grind (arith, nat_tests, rows.1) in
    and_from _ _ (and_from _ _ rows.0 low) parts.1
