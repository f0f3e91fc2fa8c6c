-- The counters of segments are those that are listed.
use Rattle.std.proofs.Common.{◌≡◌, ℕ, zero, suc, ◌+◌, ◌-◌, ◌≤◌, Bool, true, false, cond, ◌&&◌}
use Rattle.std.proofs.Common.{◌==◌, List, [], ◌∷◌, ◌++◌, Option, Some, None, inl, inr, refl, sym, ap, ◌∙◌}
use Rattle.std.proofs.Common.{subst, arith, length, map, ◌⊎◌}
use Rattle.std.specs.Prelude.{nat_le, slice_get, slice_index_or}
use Rattle.std.specs.List.{cons_option}
use Rattle.std.proofs.lemmas.Bool.{eqb-true, le-leb, leb-true}
use Rattle.std.proofs.lemmas.List.{length-map}
use Rattle.std.proofs.lemmas.Option.{slice_get_within}
use Rattle.plant_types.specs.declared.network.Cell.{Cell}
use Rattle.plant_types.specs.declared.network.Network.{Network}
use Rattle.plant_types.specs.declared.network.Segment.{Segment}
use Rattle.grid_compile.specs.Cells.{cell_at}
use Rattle.grid_compile.specs.Layout.{grids_of, grid_of}
use Rattle.grid_compile.specs.declared.grid.Grid.{Grid}
use Rattle.alike_states.specs.Counters.{is_counter, IsCounterPlace}
use Rattle.ladder_solver.specs.declared.places.BlockPlace.{BlockPlace}
use Rattle.ladder_solver.specs.Edges.{network_counts, places_by}
use Rattle.ladder_solver.specs.Numbers.{networks_if}
use Rattle.field_machine.specs.Counters.{Among, counter_at, counters_in, counters_of, counts_here}
use Rattle.field_machine.specs.Counters.{HaveEdgeBits}
use Rattle.field_machine.proofs.Edges.{among-none}

-- ---- places in lists

among-left : (xs ys : List BlockPlace) (q : BlockPlace) (i : ℕ) → slice_get xs i ≡ Some q
    → Among (xs ++ ys) q
among-left [] ys q i is = absurd (among-none q (i, is))
among-left (x ∷ xs) ys q zero is = (0, is)
among-left (x ∷ xs) ys q (suc i) is =
    let rest = among-left xs ys q i is in (suc rest.0, rest.1)

among-right : (xs ys : List BlockPlace) (q : BlockPlace) → Among ys q → Among (xs ++ ys) q
among-right [] ys q h = h
among-right (x ∷ xs) ys q h =
    let rest = among-right xs ys q h in (suc rest.0, rest.1)

among-either : (xs ys : List BlockPlace) (q : BlockPlace) (i : ℕ) → slice_get (xs ++ ys) i ≡ Some q
    → Among xs q ⊎ Among ys q
among-either [] ys q i is = inr (i, is)
among-either (x ∷ xs) ys q zero is = inl (0, is)
among-either (x ∷ xs) ys q (suc i) is =
    elim (among-either xs ys q i is) [
      | inl h ↦ inl (suc h.0, h.1)
      | inr h ↦ inr h
    ]

-- ---- the places of numbered items

by-there : {X : Type 0} (f : ℕ → X → List BlockPlace) (number : ℕ) (items : List X) (i : ℕ) (item : X)
    (q : BlockPlace) → slice_get items i ≡ Some item → Among (f (number + i) item) q
    → Among (places_by f number items) q
unfolding places_by
by-there {X} f number [] i item q is h = absurd (let no' : None ≡ Some item = is in cc)
by-there {X} f number (x ∷ items) zero item q is h =
    let first : Some x ≡ Some item = is in
    let e : item ≡ x = cc in
    let n : number + 0 ≡ number = omega arith in
    let here : Among (f number x) q =
    subst (λ k. Among (f k x) q) n (subst (λ (y : X). Among (f (number + 0) y) q) e h) in
    among-left (f number x) (places_by f (number + 1) items) q here.0 here.1
by-there {X} f number (x ∷ items) (suc i) item q is h =
    let n : number + suc i ≡ number + 1 + i = omega arith in
    among-right (f number x) (places_by f (number + 1) items) q
    (by-there f (number + 1) items i item q is (subst (λ k. Among (f k item) q) n h))

-- a place of numbered items is one of one of them
record IsBy {X : Type 0} (f : ℕ → X → List BlockPlace) (number : ℕ) (items : List X)
    (q : BlockPlace) : Type 0 where
  i : ℕ
  item : X
  is_there : slice_get items i ≡ Some item
  among : Among (f (number + i) item) q

by-one : {X : Type 0} (f : ℕ → X → List BlockPlace) (number : ℕ) (items : List X) (q : BlockPlace)
    → Among (places_by f number items) q → IsBy f number items q
unfolding places_by
by-one {X} f number [] q h = absurd (among-none q h)
by-one {X} f number (x ∷ items) q h =
    elim (among-either (f number x) (places_by f (number + 1) items) q h.0 h.1) [
      | inl here ↦
          let n : number ≡ number + 0 = omega arith in
          record {
            i = 0;
            item = x;
            is_there = refl;
            among = subst (λ k. Among (f k x) q) n here;
          }
      | inr more ↦
          let rest = by-one f (number + 1) items q more in
          let n : number + 1 + rest.i ≡ number + suc rest.i = omega arith in
          record {
            i = suc rest.i;
            item = rest.item;
            is_there = rest.is_there;
            among = subst (λ k. Among (f k rest.item) q) n rest.among;
          }
    ]

-- ---- the counters of a network

both-true : (a b : Bool) → a && b ≡ true → (a ≡ true) × (b ≡ true)
both-true true true e = (refl, refl)
both-true true false e = absurd (let no' : false ≡ true = e in cc)
both-true false b e = absurd (let no' : false ≡ true = e in cc)

all-true : (a b c d e : Bool) → a ≡ true → b ≡ true → c ≡ true → d ≡ true → e ≡ true
    → a && (b && c && (d && e)) ≡ true
all-true true true true true true p q r s t = refl
all-true false b c d e p q r s t = p
all-true true false c d e p q r s t = q
all-true true true false d e p q r s t = r
all-true true true true false e p q r s t = s
all-true true true true true false p q r s t = t

cons-more : (o : Option BlockPlace) (places : List BlockPlace) (q : BlockPlace) → Among places q
    → Among (cons_option o places) q
cons-more None places q h = h
cons-more (Some p) places q h = (suc h.0, h.1)

here-by : (segment network : ℕ) (cell : Cell) (rest : List BlockPlace) (b : Bool) → b ≡ true
    → Among (cons_option (cond b (Some (record {
      segment = segment;
      network = network;
      column = cell.column;
      row = cell.row;
    })) None) rest) (record {
      segment = segment;
      network = network;
      column = cell.column;
      row = cell.row;
    })
here-by segment network cell rest true is = (0, refl)
here-by segment network cell rest false is = absurd (let no' : false ≡ true = is in cc)

module _ (segment network column row : ℕ) (left : 1 ≤ column) (right : column ≤ 11) (top : 1 ≤ row)
    (bottom : row ≤ 7) where
  abbrev the_place : BlockPlace
  the_place = record { segment = segment; network = network; column = column; row = row }

  found-here : (cell other : Cell) (rest : List BlockPlace) → Some cell ≡ Some other
      → is_counter other.element ≡ true
      → (cell.column == column) && (cell.row == row) ≡ true
      → Among (cons_option (counter_at segment network cell) rest) the_place
  found-here cell other rest same counts here =
      let e : cell ≡ other = cc in
      let parts = both-true (cell.column == column) (cell.row == row) here in
      let at-column : cell.column ≡ column = eqb-true cell.column column parts.0 in
      let at-row : cell.row ≡ row = eqb-true cell.row row parts.1 in
      let one : 1 ≤ cell.column = omega (arith, at-column, left) in
      let two : cell.column ≤ 11 = omega (arith, at-column, right) in
      let three : 1 ≤ cell.row = omega (arith, at-row, top) in
      let four : cell.row ≤ 7 = omega (arith, at-row, bottom) in
      let within : counts_here cell ≡ true =
      all-true (is_counter cell.element) (nat_le 1 cell.column) (nat_le cell.column 11)
      (nat_le 1 cell.row) (nat_le cell.row 7) (ap (λ (c : Cell). is_counter c.element) e ∙ counts)
      (le-leb _ _ one) (le-leb _ _ two) (le-leb _ _ three) (le-leb _ _ four) in
      let there = here-by segment network cell rest (counts_here cell) within in (
        there.0,
        there.1 ∙ ap Some (λ i. record {
          segment = segment;
          network = network;
          column = at-column i;
          row = at-row i;
        }),
      )

  in-cell : (cell other : Cell) (cells : List Cell) (b : Bool)
      → (cell.column == column) && (cell.row == row) ≡ b
      → (cell_at cells column row ≡ Some other → Among (counters_in segment network cells) the_place)
      → cond b (Some cell) (cell_at cells column row) ≡ Some other
      → is_counter other.element ≡ true
      → Among (cons_option (counter_at segment network cell) (counters_in segment network cells))
      the_place
  in-cell cell other cells true here rest found counts =
      found-here cell other (counters_in segment network cells) found counts here
  in-cell cell other cells false here rest found counts =
      cons-more (counter_at segment network cell) (counters_in segment network cells) the_place
      (rest found)

  in-cells : (cells : List Cell) (other : Cell) → cell_at cells column row ≡ Some other
      → is_counter other.element ≡ true → Among (counters_in segment network cells) the_place
  in-cells [] other is counts = absurd (let no' : None ≡ Some other = is in cc)
  in-cells (cell ∷ cells) other is counts =
      in-cell cell other cells ((cell.column == column) && (cell.row == row)) refl
      (λ found. in-cells cells other found counts) is counts

-- ---- the counters of segments

segment-there : (segments : List Segment) (number i : ℕ) (network : Network) (o : Option Segment)
    → slice_get segments number ≡ o → slice_get (networks_if o) i ≡ Some network
    → (segment : Segment) × ((slice_get segments number ≡ Some segment)
    × (slice_get segment.networks i ≡ Some network))
segment-there segments number i network None is found =
    absurd (let no' : None ≡ Some network = found in cc)
segment-there segments number i network (Some segment) is found = (segment, (is, found))

pub counter-listed : (segments : List Segment) (q : BlockPlace) → IsCounterPlace segments q
    → Among (counters_of segments) q
counter-listed segments q h =
    let found = segment-there segments (q.segment - 1) (q.network - 1) h.network
    (slice_get segments (q.segment - 1)) refl h.in_segment in
    let one : 1 + (q.segment - 1) ≡ q.segment = let from = h.segment_from in omega (arith, from) in
    let two : 1 + (q.network - 1) ≡ q.network = let from = h.network_from in omega (arith, from) in
    let here = in-cells q.segment q.network q.column q.row h.left h.right h.top h.bottom
    h.network.cells h.cell h.in_network h.counts in
    by-there (λ segment of_segment. places_by
    (λ number network. counters_in segment number network.cells) 1 of_segment.networks)
    1 segments (q.segment - 1) found.0 q found.1.0
    (by-there (λ number network. counters_in (1 + (q.segment - 1)) number network.cells) 1
    found.0.networks (q.network - 1) h.network q found.1.1
    (subst (λ n. Among (counters_in n (1 + (q.network - 1)) h.network.cells) q) (sym one)
    (subst (λ n. Among (counters_in q.segment n h.network.cells) q) (sym two) here)))

-- what is listed of a network stands in it, within its columns and rows
record IsIn (segment network : ℕ) (q : BlockPlace) : Type 0 where
  segment_is : q.segment ≡ segment
  network_is : q.network ≡ network
  left : 1 ≤ q.column
  right : q.column ≤ 11
  top : 1 ≤ q.row
  bottom : q.row ≤ 7

is-in : (segment network : ℕ) (cell : Cell) (q : BlockPlace) → counts_here cell ≡ true
    → Some (record {
      segment = segment;
      network = network;
      column = cell.column;
      row = cell.row;
    }) ≡ Some q → IsIn segment network q
is-in segment network cell q counts same =
    let e : record { segment = segment; network = network; column = cell.column; row = cell.row }
    ≡ q = cc in
    let parts = both-true (is_counter cell.element) _ counts in
    let sides = both-true (nat_le 1 cell.column && nat_le cell.column 11) _ parts.1 in
    let columns = both-true (nat_le 1 cell.column) (nat_le cell.column 11) sides.0 in
    let rows = both-true (nat_le 1 cell.row) (nat_le cell.row 7) sides.1 in
    subst (IsIn segment network) e (record {
      segment_is = refl;
      network_is = refl;
      left = leb-true _ _ columns.0;
      right = leb-true _ _ columns.1;
      top = leb-true _ _ rows.0;
      bottom = leb-true _ _ rows.1;
    })

in-listed : (segment network : ℕ) (cell : Cell) (places : List BlockPlace) (q : BlockPlace) (b : Bool)
    → counts_here cell ≡ b → (Among places q → IsIn segment network q) → (i : ℕ)
    → slice_get (cons_option (cond b (Some (record {
      segment = segment;
      network = network;
      column = cell.column;
      row = cell.row;
    })) None) places) i ≡ Some q → IsIn segment network q
in-listed segment network cell places q true counts rest zero is =
    is-in segment network cell q counts is
in-listed segment network cell places q true counts rest (suc i) is = rest (i, is)
in-listed segment network cell places q false counts rest i is = rest (i, is)

in-network : (segment network : ℕ) (cells : List Cell) (q : BlockPlace)
    → Among (counters_in segment network cells) q → IsIn segment network q
in-network segment network [] q h = absurd (among-none q h)
in-network segment network (cell ∷ cells) q h =
    in-listed segment network cell (counters_in segment network cells) q (counts_here cell) refl
    (in-network segment network cells q) h.0 h.1

grids-long : (segments : List Segment) (i : ℕ) (segment : Segment)
    → slice_get segments i ≡ Some segment
    → slice_index_or (network_counts (grids_of segments)) i 0 ≡ length segment.networks
grids-long [] i segment is = absurd (let no' : None ≡ Some segment = is in cc)
grids-long (x ∷ segments) zero segment is =
    let first : Some x ≡ Some segment = is in
    let e : x ≡ segment = cc in
    length-map x.networks grid_of ∙ ap (λ (s : Segment). length s.networks) e
grids-long (x ∷ segments) (suc i) segment is = grids-long segments i segment is

-- edge bits are kept for each counter that is listed
pub listed-bits : (segments : List Segment)
    → HaveEdgeBits (network_counts (grids_of segments)) (counters_of segments)
listed-bits segments q h =
    let outer = by-one (λ segment of_segment. places_by
    (λ number network. counters_in segment number network.cells) 1 of_segment.networks)
    1 segments q h in
    let inner = by-one (λ number network. counters_in (1 + outer.i) number network.cells) 1
    outer.item.networks q outer.among in
    let at = in-network (1 + outer.i) (1 + inner.i) inner.item.cells q inner.among in
    let few = slice_get_within segments outer.i outer.item outer.is_there in
    let below = slice_get_within outer.item.networks inner.i inner.item inner.is_there in
    let many : length (network_counts (grids_of segments)) ≡ length segments =
    length-map (grids_of segments) (λ (grids : List Grid). length grids)
    ∙ length-map segments (λ (segment : Segment). map grid_of segment.networks) in
    let place : q.segment - 1 ≡ outer.i = let e = at.segment_is in omega (arith, e) in
    let long : slice_index_or (network_counts (grids_of segments)) (q.segment - 1) 0
    ≡ length outer.item.networks =
    ap (λ n. slice_index_or (network_counts (grids_of segments)) n 0) place
    ∙ grids-long segments outer.i outer.item outer.is_there in
    let s = at.segment_is in
    let n = at.network_is in
    record {
      networks = record {
        first = omega (arith, s);
        last = omega (arith, s, few, many);
        many = omega (arith, n, below, long);
      };
      network = omega (arith, n);
      left = at.left;
      right = at.right;
      top = at.top;
      bottom = at.bottom;
    }
