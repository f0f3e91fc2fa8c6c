-- One edge bit among all that are kept.
use Rattle.std.proofs.Common.{◌≡◌, ◌≢◌, ℕ, ◌-◌, ◌<◌, ◌≤◌, zero, suc, Bool, true, false, cond, ◌&&◌}
use Rattle.std.proofs.Common.{◌==◌, List, [], ◌∷◌, length, get_or, set, refl, sym, ap, ◌∙◌, arith}
use Rattle.std.proofs.Common.{get_or-set_same, get_or-set_other, Vec, Global}
use Rattle.std.specs.Prelude.{map}
use Rattle.std.specs.FinSet.{contains, same_set}
use Rattle.std.specs.Vec.{with_item}
use Rattle.std.proofs.Math.ListN.{get_or-map}
use Rattle.std.proofs.Math.Seq.{map-set_same}
use Rattle.std.proofs.lemmas.Bool.Decides.{nat_tests}
use Rattle.std.proofs.lemmas.List.{length-map, length-set, map-set}
use Rattle.ladder_solver.specs.declared.edges.Edges.TheInside.{Inside}
use Rattle.ladder_solver.specs.State.{BlockPlace, with_place}
use Rattle.ladder_solver.specs.Edges.{numbered, row_bit, network_bit, segment_bit, edge_bit}
use Rattle.ladder_solver.specs.Edges.{edges_of, HasNetworks, HasEdgeBit}
use Rattle.ladder_solver.specs.Kept.{bits_in, edge_bits_of}
use Rattle.ladder_solver.proofs.PlaceSets.{places_total, exact_places, is_place}
use Rattle.ladder_solver.proofs.PlaceSets.{contains-with_place}
use Rattle.ladder_solver.proofs.EdgeBits.{contains-edges_of}

-- items by their numbers and by their places
numbered-get : {X : Type 0} (items : List X) (k : ℕ) (other : X) → 1 ≤ k
    → numbered items k other ≡ get_or items (k - 1) other
numbered-get items zero other low = absurd (omega arith)
numbered-get items (suc k) other low = let back : suc k - 1 ≡ k = omega arith in rw back refl

-- an item that is put in
numbered-set : {X : Type 0} (items : List X) (k : ℕ) (item other : X) → 1 ≤ k → k ≤ length items
    → numbered (set items (k - 1) item) k other ≡ item
numbered-set items k item other low high =
    let within : k - 1 < length items = omega arith in
    numbered-get (set items (k - 1) item) k other low
    ∙ get_or-set_same items (k - 1) item other within

-- any other item
numbered-set_other : {X : Type 0} (items : List X) (k j : ℕ) (item other : X) → 1 ≤ k
    → (j == k) ≡ false
    → numbered (set items (k - 1) item) j other ≡ numbered items j other
numbered-set_other items k zero item other low apart = refl
numbered-set_other items k (suc j) item other low apart =
    let differ : j ≢ (k - 1) =
    λ e. Rattle.std.proofs.Common.true≢false (sym (same_tested (suc j) k (omega arith)) ∙ apart) in
    get_or-set_other items (k - 1) j item other differ
  where
    same_tested : (a b : ℕ) → a ≡ b → (a == b) ≡ true
    same_tested a b e = grind (arith, nat_tests)

-- numbers that pass are the same
number_of_test : (a b : ℕ) → (a == b) ≡ true → a ≡ b
number_of_test a b t = grind (arith, nat_tests)

-- of the items of a part one is put in, in which one place has another bit
module _ {X : Type 0} (bit : X → BlockPlace → Bool) (at : BlockPlace → ℕ) (k : ℕ) (items : List X)
    (item other : X) (is : BlockPlace → Bool) (on : Bool)
    (low : 1 ≤ k) (high : k ≤ length items) (one : (q : BlockPlace)
    → bit item q ≡ cond (is q) on (bit (get_or items (k - 1) other) q)) (q : BlockPlace) where
  by_test : (b : Bool) → (at q == k) ≡ b
      → bit (numbered (set items (k - 1) item) (at q) other) q
      ≡ cond (b && is q) on (bit (numbered items (at q) other) q)
  by_test true same =
      let e : at q ≡ k = number_of_test (at q) k same in
      ap (λ n. bit (numbered (set items (k - 1) item) n other) q) e
      ∙ ap (λ x. bit x q) (numbered-set items k item other low high) ∙ one q
      ∙ ap (λ x. cond (is q) on (bit x q))
      (sym (ap (λ n. numbered items n other) e ∙ numbered-get items k other low))
  by_test false apart = ap (λ x. bit x q) (numbered-set_other items k (at q) item other low apart)

  set_part : bit (numbered (set items (k - 1) item) (at q) other) q
      ≡ cond ((at q == k) && is q) on (bit (numbered items (at q) other) q)
  set_part = by_test (at q == k) refl

-- four tests, grouped from the left
four_tests : (a b c d : Bool) → a && (b && (c && (d && true))) ≡ ((a && b) && c) && d
four_tests true true true true = refl
four_tests true true true false = refl
four_tests true true false d = refl
four_tests true false c d = refl
four_tests false b c d = refl

-- the bits after one of them is set
abbrev pub bits_set : List (List (List (List Bool))) → BlockPlace → Bool
    → List (List (List (List Bool)))
bits_set bits place on =
    let networks = get_or bits (place.segment - 1) [] in
    let columns = get_or networks (place.network - 1) [] in
    let rows = get_or columns (place.column - 1) [] in
    set bits (place.segment - 1)
    (set networks (place.network - 1)
    (set columns (place.column - 1) (set rows (place.row - 1) on)))

module _ (bits : List (List (List (List Bool)))) (place : BlockPlace) (on : Bool) where
  -- where the place stands among the bits
  pub record Stands : Type 0 where
    pub first : 1 ≤ place.segment
    pub segments : place.segment ≤ length bits
    pub second : 1 ≤ place.network
    pub networks : place.network ≤ length (get_or bits (place.segment - 1) [])
    pub third : 1 ≤ place.column
    pub columns : place.column
        ≤ length (get_or (get_or bits (place.segment - 1) []) (place.network - 1) [])
    pub fourth : 1 ≤ place.row
    pub rows : place.row ≤ length (get_or
        (get_or (get_or bits (place.segment - 1) []) (place.network - 1) []) (place.column - 1) [])

  edge_bit-set : Stands → (q : BlockPlace)
      → edge_bit (bits_set bits place on) q ≡ cond (is_place place q) on (edge_bit bits q)
  edge_bit-set h q =
      let networks = get_or bits (place.segment - 1) [] in
      let columns = get_or networks (place.network - 1) [] in
      let rows = get_or columns (place.column - 1) [] in
      set_part segment_bit (λ q. q.segment) place.segment bits _ []
      (λ q. (q.network == place.network)
      && ((q.column == place.column) && ((q.row == place.row) && true))) on h.first h.segments
      (set_part network_bit (λ q. q.network) place.network networks _ []
      (λ q. (q.column == place.column) && ((q.row == place.row) && true)) on h.second h.networks
      (set_part row_bit (λ q. q.column) place.column columns _ []
      (λ q. (q.row == place.row) && true) on h.third h.columns
      (set_part (λ b q. b) (λ q. q.row) place.row rows on false (λ q. true) on h.fourth h.rows
      (λ q. refl)))) q
      ∙ ap (λ b. cond b on (edge_bit bits q))
      (four_tests (q.segment == place.segment) (q.network == place.network)
      (q.column == place.column) (q.row == place.row))

  -- the places that are on
  pub edges_of-set : Stands
      → edges_of (bits_set bits place on) ≡ with_place (edges_of bits) place on
  edges_of-set h = same_set places_total exact_places _ _ (λ q.
      contains-edges_of (bits_set bits place on) q ∙ edge_bit-set h q
      ∙ ap (λ b. cond (is_place place q) on b) (sym (contains-edges_of bits q))
      ∙ sym (contains-with_place (edges_of bits) place on q))

-- the bit of a place
edge_at : (bits : List (List (List (List Bool)))) (place : BlockPlace) → 1 ≤ place.segment
    → 1 ≤ place.network → 1 ≤ place.column → 1 ≤ place.row
    → get_or (get_or (get_or (get_or bits (place.segment - 1) []) (place.network - 1) [])
    (place.column - 1) []) (place.row - 1) false
    ≡ contains (edges_of bits) place
edge_at bits place first second third fourth =
    let networks = get_or bits (place.segment - 1) [] in
    let columns = get_or networks (place.network - 1) [] in
    let rows = get_or columns (place.column - 1) [] in
    sym (contains-edges_of bits place
    ∙ ap (λ x. segment_bit x place) (numbered-get bits place.segment [] first)
    ∙ ap (λ x. network_bit x place) (numbered-get networks place.network [] second)
    ∙ ap (λ x. row_bit x place) (numbered-get columns place.column [] third)
    ∙ numbered-get rows place.row false fourth)

-- a list of lists by an index
part_at : {V X : Type 0} (f : V → List X) (vs : List V) (i : ℕ) (v : V) → i < length vs
    → v ≡ get_or vs i v → get_or (map f vs) i [] ≡ f v
part_at f [] i v within is = absurd (omega arith)
part_at f (x ∷ vs) zero v within is = ap f (sym is)
part_at f (x ∷ vs) (suc i) v within is = part_at f vs i v (omega arith) is

-- an item by its index, whatever stands for one that is missing
same_at : {X : Type 0} (xs : List X) (i : ℕ) (x other : X) → i < length xs → x ≡ get_or xs i x
    → get_or xs i other ≡ x
same_at [] i x other within is = absurd (omega arith)
same_at (y ∷ xs) zero x other within is = sym is
same_at (y ∷ xs) (suc i) x other within is = same_at xs i x other (omega arith) is

module _ (e : Inside) (kept : Vec (List (List Bool)) Global) where
  -- the bits of the networks of a segment
  pub networks_at : (segment count : ℕ) → HasNetworks (map length (bits_in e)) segment count
      → kept ≡ get_or e.segments.items (segment - 1) kept
      → get_or (bits_in e) (segment - 1) [] ≡ kept.items
  networks_at segment count h is =
      let long = length-map e.segments.items
      (λ (networks : Vec (List (List Bool)) Global). networks.items) in
      let many = length-map (bits_in e) length in
      part_at (λ (networks : Vec (List (List Bool)) Global). networks.items) e.segments.items
      (segment - 1) kept (omega (arith, h.first, h.last, long, many)) is

  -- there are enough of them
  pub networks_within : (segment count : ℕ) → HasNetworks (map length (bits_in e)) segment count
      → kept ≡ get_or e.segments.items (segment - 1) kept
      → count ≤ length kept.items
  networks_within segment count h is =
      let one : get_or (map length (bits_in e)) (segment - 1) 0 ≡ length kept.items =
      get_or-map length (bits_in e) (segment - 1) [] ∙ ap length (networks_at segment count h is) in
      omega (arith, h.many, one)

  module _ (place : BlockPlace) (columns : List (List Bool))
      (h : HasEdgeBit (map length (bits_in e)) place)
      (is : kept ≡ get_or e.segments.items (place.segment - 1) kept)
      (there : columns ≡ get_or kept.items (place.network - 1) columns) where
    networks_is : get_or (bits_in e) (place.segment - 1) [] ≡ kept.items
    networks_is = networks_at place.segment place.network h.networks is

    within : place.network ≤ length kept.items
    within = networks_within place.segment place.network h.networks is

    columns_is : get_or (get_or (bits_in e) (place.segment - 1) []) (place.network - 1) [] ≡ columns
    columns_is = ap (λ xs. get_or xs (place.network - 1) []) networks_is
        ∙ same_at kept.items (place.network - 1) columns [] (omega (arith, within, h.network)) there

    rows_is : get_or (get_or (get_or (bits_in e) (place.segment - 1) []) (place.network - 1) [])
        (place.column - 1) [] ≡ get_or columns (place.column - 1) []
    rows_is = ap (λ xs. get_or xs (place.column - 1) []) columns_is

    -- the place stands among the bits
    stands : (on : Bool) → length columns ≡ 11 → length (get_or columns (place.column - 1) []) ≡ 7
        → Stands (bits_in e) place on
    stands on eleven seven =
        let many = length-map (bits_in e) length in
        let networks = ap length networks_is in
        let columns = ap length columns_is in
        let rows = ap length rows_is in
        record {
          first = h.networks.first;
          segments = omega (arith, h.networks.last, many);
          second = h.network;
          networks = omega (arith, networks, within);
          third = h.left;
          columns = omega (arith, columns, eleven, h.right);
          fourth = h.top;
          rows = omega (arith, rows, seven, h.bottom);
        }

    -- the bit that is kept is the place's
    pub kept_bit : get_or (get_or columns (place.column - 1) []) (place.row - 1) false
        ≡ contains (edge_bits_of e).on place
    kept_bit = ap (λ xs. get_or xs (place.row - 1) false) (sym rows_is)
        ∙ edge_at (bits_in e) place h.networks.first h.network h.left h.top

    -- the bits after one of them is set
    kept_set : (on : Bool)
        → bits_in (record {
          segments = with_item e.segments (place.segment - 1) (with_item kept (place.network - 1)
              (set columns (place.column - 1)
              (set (get_or columns (place.column - 1) []) (place.row - 1) on)));
        })
        ≡ bits_set (bits_in e) place on
    kept_set on =
        map-set (λ (networks : Vec (List (List Bool)) Global). networks.items) e.segments.items
        (place.segment - 1) _
        ∙ (λ i. set (bits_in e) (place.segment - 1) (set (sym networks_is i) (place.network - 1)
        (set (sym columns_is i) (place.column - 1) (set (sym rows_is i) (place.row - 1) on))))

    -- there are as many
    counts_set : (on : Bool) → map length (bits_set (bits_in e) place on) ≡ map length (bits_in e)
    counts_set on = map-set_same length (bits_in e) (place.segment - 1) _ []
        (length-set (get_or (bits_in e) (place.segment - 1) []) _ _)

    -- the place alone is put in or out
    pub set_view : (on : Bool) → length columns ≡ 11
        → length (get_or columns (place.column - 1) []) ≡ 7
        → edge_bits_of (record {
          segments = with_item e.segments (place.segment - 1) (with_item kept (place.network - 1)
              (set columns (place.column - 1)
              (set (get_or columns (place.column - 1) []) (place.row - 1) on)));
        })
        ≡ record { counts = (edge_bits_of e).counts; on = with_place (edge_bits_of e).on place on }
    set_view on eleven seven = λ i. record {
      counts = (ap (map length) (kept_set on) ∙ counts_set on) i;
      on = (ap edges_of (kept_set on)
          ∙ edges_of-set (bits_in e) place on (stands on eleven seven)) i;
    }
