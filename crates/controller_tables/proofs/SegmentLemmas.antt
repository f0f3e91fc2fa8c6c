-- Segments that are read pass the tests of a plan.
use Rattle.std.proofs.Common.{◌≡◌, ℕ, ◌+◌, ◌≤◌, true, List, [], ◌∷◌, ◌++◌, length, Result, Ok, Err}
use Rattle.std.proofs.Common.{refl, sym, ap, subst, ◌∙◌, le-leb, arith}
use Rattle.std.specs.Prelude.{codes, nat_le}
use Rattle.std.specs.List.{filter_map}
use Rattle.std.proofs.lemmas.List.{append-nil}
use Rattle.std.proofs.lemmas.List.Elements.{filter_map-append}
use Rattle.toml.specs.Data.{Members}
use Rattle.plant_types.specs.declared.network.Cell.{Cell}
use Rattle.plant_types.specs.declared.network.Short.{Short}
use Rattle.plant_types.specs.declared.network.Network.{Network}
use Rattle.plant_types.specs.declared.network.Segment.{Segment}
use Rattle.plant_types.specs.declared.plan.ControllerPlan.{ControllerPlan}
use Rattle.plant_types.specs.declared.fault.PlantFault.TheVariants as faults
use Rattle.plant_types.specs.Fault.{segment_place}
use Rattle.plant_types.specs.Checks.{sizes_of}
use Rattle.plant_types.specs.FirstFault.{first_failed, tests_behind, tests_of_each, short_tests}
use Rattle.plant_types.specs.PlanTests.{Site, placed, piece_place, network_limit, site_cell_tests}
use Rattle.plant_types.specs.PlanTests.{placed_cell_tests, placed_short_tests, site_tests, site_in}
use Rattle.plant_types.specs.PlanTests.{site_tests_in, segment_tests}
use Rattle.cell_text.specs.declared.piece.Piece.{Piece}
use Rattle.cell_text.specs.declared.piece.Piece.TheVariants as pieces
use Rattle.cell_text.specs.declared.piece.CellFault.{CellFault}
use Rattle.cell_text.specs.Words.{text_words}
use Rattle.cell_text.specs.Pieces.{piece_of}
use Rattle.cell_text.proofs.StepLemmas.{step-ok}
use Rattle.controller_tables.specs.declared.owner.Owner.{Owner}
use Rattle.plant_tables.specs.InOrder.{numbered_from, each_behind}
use Rattle.plant_tables.specs.declared.tables.TableKind.TheVariants as kinds
use Rattle.plant_tables.specs.Tables.{table_passes}
use Rattle.controller_tables.specs.Texts.{network_texts}
use Rattle.controller_tables.specs.Pieces.{cell_in, short_in, network_from, cell_behind}
use Rattle.controller_tables.specs.Pieces.{short_behind, tested_behind, piece_behind}
use Rattle.controller_tables.specs.Pieces.{place_of_piece, site_behind, placed_behind, pieces_of}
use Rattle.controller_tables.specs.Pieces.{network_behind, next_network, segment_behind}
use Rattle.controller_tables.specs.Pieces.{segments_of}
use Rattle.plant_tables.proofs.Common.{ok_value, at_place-ok, both-hold, placed-hold}
use Rattle.plant_tables.proofs.KeyLemmas.{texts_at-few}
use Rattle.plant_tables.proofs.TestLemmas.{each_behind-keeps, tests-push, each_behind-tests}
use Rattle.plant_tables.proofs.TestLemmas.{with_positions-count}

-- pieces that pass as the cells and shorts of their network
record Pass (site : Site) (ps : List Piece) : Type 0 where
  cells : first_failed (tests_of_each (placed_cell_tests site) (filter_map cell_in ps)) ≡ Ok tt
  shorts : (count : ℕ) → first_failed (tests_of_each (placed_short_tests site count)
      (filter_map short_in ps)) ≡ Ok tt

-- one more cell, and one more short
Pass-cell : (site : Site) (ps : List Piece) (cell : Cell)
    → first_failed (site_cell_tests site (filter_map cell_in ps) cell) ≡ Ok tt → Pass site ps
    → Pass site (ps ++ pieces.Cell cell ∷ [])
Pass-cell site ps cell here p =
    let earlier = filter_map cell_in ps in
    let cells : earlier ++ cell ∷ [] ≡ filter_map cell_in (ps ++ pieces.Cell cell ∷ []) =
    sym (filter_map-append cell_in ps (pieces.Cell cell ∷ [])) in
    let shorts : filter_map short_in ps ≡ filter_map short_in (ps ++ pieces.Cell cell ∷ []) =
    sym (filter_map-append short_in ps (pieces.Cell cell ∷ [])
    ∙ append-nil (filter_map short_in ps)) in
    let placed_here = placed-hold (piece_place site (length earlier + 1))
    (site_cell_tests site earlier cell) here in
    record {
      cells = subst (λ cells. first_failed (tests_of_each (placed_cell_tests site) cells) ≡ Ok tt)
          cells
          (tests-push (placed_cell_tests site) earlier cell p.cells placed_here);
      shorts = λ count. subst (λ shorts. first_failed (tests_of_each (placed_short_tests site count)
          shorts) ≡ Ok tt) shorts (p.shorts count);
    }

Pass-short : (site : Site) (ps : List Piece) (short : Short)
    → first_failed (short_tests (filter_map short_in ps) short) ≡ Ok tt
    → Pass site ps → Pass site (ps ++ pieces.Short short ∷ [])
Pass-short site ps short here p =
    let earlier = filter_map short_in ps in
    let shorts : earlier ++ short ∷ [] ≡ filter_map short_in (ps ++ pieces.Short short ∷ []) =
    sym (filter_map-append short_in ps (pieces.Short short ∷ [])) in
    let cells : filter_map cell_in ps ≡ filter_map cell_in (ps ++ pieces.Short short ∷ []) =
    sym (filter_map-append cell_in ps (pieces.Short short ∷ [])
    ∙ append-nil (filter_map cell_in ps)) in
    record {
      cells = subst (λ cells. first_failed (tests_of_each (placed_cell_tests site) cells) ≡ Ok tt)
          cells p.cells;
      shorts = λ count. subst (λ shorts.
          first_failed (tests_of_each (placed_short_tests site count) shorts) ≡ Ok tt) shorts
          (tests-push (placed_short_tests site count) earlier short (p.shorts count)
          (placed-hold (piece_place site (count + length earlier + 1))
          (short_tests earlier short) here));
    }

-- a cell that is taken passes, and so does a short
cell-taken : (site : Site) (earlier : List Cell) (cell : Cell) (piece : Piece)
    → cell_behind site earlier cell ≡ Ok piece
    → (first_failed (site_cell_tests site earlier cell) ≡ Ok tt) × (pieces.Cell cell ≡ piece)
unfolding cell_behind
cell-taken site earlier cell piece h =
    let tested = step-ok (first_failed (site_cell_tests site earlier cell))
    (λ (t : Unit {0}). Ok (pieces.Cell cell)) piece h in
    (tested.1.0, ok_value (pieces.Cell cell) piece tested.1.1)

short-taken : (earlier : List Short) (short : Short) (piece : Piece)
    → short_behind earlier short ≡ Ok piece
    → (first_failed (short_tests earlier short) ≡ Ok tt) × (pieces.Short short ≡ piece)
unfolding short_behind
short-taken earlier short piece h =
    let tested = step-ok (first_failed (short_tests earlier short))
    (λ (t : Unit {0}). Ok (pieces.Short short)) piece h in
    (tested.1.0, ok_value (pieces.Short short) piece tested.1.1)

-- a piece that reads and is taken keeps all passing
tested-passes : (site : Site) (ps : List Piece) (piece : Piece) (r : Result Piece CellFault)
    → tested_behind site (network_from ps) r ≡ Ok piece → Pass site ps
    → Pass site (ps ++ piece ∷ [])
tested-passes site ps piece (Ok (pieces.Cell cell)) h p =
    let taken = cell-taken site (filter_map cell_in ps) cell piece h in
    rw (← taken.1) (Pass-cell site ps cell taken.0 p)
tested-passes site ps piece (Ok (pieces.Short short)) h p =
    let taken = short-taken (filter_map short_in ps) short piece h in
    rw (← taken.1) (Pass-short site ps short taken.0 p)
tested-passes site ps piece (Err e) h p = cc

piece-passes : (site : Site) (ps : List Piece) (text : List ℕ) (piece : Piece)
    → piece_behind site (network_from ps) text ≡ Ok piece
    → Pass site ps → Pass site (ps ++ piece ∷ [])
unfolding piece_behind
piece-passes site ps text piece h p =
    tested-passes site ps piece (piece_of (text_words text)) h p

placed-passes : (controller : ℕ) (site : Site) (ps : List Piece) (text : ℕ × List ℕ) (piece : Piece)
    → placed_behind controller site ps text ≡ Ok piece
    → Pass site ps → Pass site (ps ++ piece ∷ [])
placed-passes controller site ps text piece h p =
    piece-passes site ps text.1 piece (at_place-ok (place_of_piece controller site text.0)
    (piece_behind site (network_from ps) text.1) piece h) p

nothing-passes : (site : Site) → Pass site []
unfolding tests_behind
nothing-passes site = record { cells = refl; shorts = λ count. refl }

-- a network that is read passes
network-passes : (controller : ℕ) (site : Site) (text : List ℕ) (network : Network)
    → network_behind controller site text ≡ Ok network
    → first_failed (site_tests site network) ≡ Ok tt
unfolding network_behind
network-passes controller site text network h =
    let read = step-ok (each_behind (placed_behind controller site) []
    (numbered_from 1 (pieces_of text))) (λ ps. Ok (network_from ps)) network h in
    let same : network_from read.0 ≡ network = ok_value (network_from read.0) network read.1.1 in
    let pass = each_behind-keeps (Pass site) (placed_behind controller site)
    (placed-passes controller site)
    (numbered_from 1 (pieces_of text)) [] read.0 (nothing-passes site) read.1.0 in
    let whole : first_failed (site_tests site (network_from read.0)) ≡ Ok tt =
    both-hold (tests_of_each (placed_cell_tests site) (filter_map cell_in read.0))
    (tests_of_each (placed_short_tests site (length (filter_map cell_in read.0)))
    (filter_map short_in read.0))
    pass.cells (pass.shorts (length (filter_map cell_in read.0))) in
    rw (← same) whole

-- where the networks of a plan of so many segments stand
site-same : (plan : ControllerPlan) (count : ℕ) (segments : List Segment) (networks : List Network)
    → count ≡ length plan.segments
    → site_behind (sizes_of plan) count segments networks ≡ site_in plan segments networks
site-same plan count segments networks e = rw e refl

-- a segment that is read passes
network_texts-few : (controller number : ℕ) (table : Members) (texts : List (List ℕ))
    → network_texts controller number table ≡ Ok texts
    → length texts ≤ network_limit
unfolding network_texts
network_texts-few controller number table texts h =
    let place = segment_place controller number in
    let keys = step-ok (table_passes place kinds.Segment table) _ texts h in
    texts_at-few place network_limit (codes "networks") table texts keys.1.1

segment-passes : (owner : Owner) (plan : ControllerPlan) (count : ℕ) → sizes_of plan ≡ owner.sizes
    → count ≡ length plan.segments
    → (earlier : List Segment) (table : ℕ × Members) (segment : Segment)
    → segment_behind owner count earlier table ≡ Ok segment
    → first_failed (segment_tests plan earlier segment) ≡ Ok tt
unfolding segment_behind
segment-passes owner plan count sizes counted earlier table segment h =
    let texts = step-ok (network_texts owner.position table.0 table.1) _ segment h in
    let read = step-ok (each_behind (next_network owner count earlier) [] (numbered_from 1 texts.0))
    (λ networks. Ok (record
    { networks = networks })) segment texts.1.1 in
    let whole : Segment = record { networks = read.0 } in
    let same : whole ≡ segment = ok_value whole segment read.1.1 in
    let passes = λ (before : List Network) (text : ℕ
    × List ℕ) (network : Network) (e : next_network owner count earlier before text ≡ Ok network).
    subst (λ site. first_failed (site_tests site network) ≡ Ok tt)
    (ap (λ s. site_behind s count earlier before) (sym sizes)
    ∙ site-same plan count earlier before counted)
    (network-passes owner.position (site_behind owner.sizes count earlier before)
    text.1 network e) in
    let few : nat_le (length read.0) network_limit ≡ true =
    le-leb (length read.0) network_limit (omega (
      arith,
      network_texts-few owner.position table.0 table.1 texts.0 texts.1.0,
      with_positions-count (next_network owner count earlier) texts.0 read.0 read.1.0,
    )) in
    let count_test : first_failed ((nat_le (length read.0) network_limit, faults.TooLarge) ∷ [])
    ≡ Ok tt = rw few refl in
    let tests = each_behind-tests (site_tests_in plan earlier) (next_network owner count earlier)
    passes (numbered_from 1 texts.0) read.0 read.1.0 in
    let count_tests = placed (segment_place 1 (length earlier + 1))
    ((nat_le (length read.0) network_limit, faults.TooLarge) ∷ []) in
    let pass : first_failed (segment_tests plan earlier whole) ≡ Ok tt =
    both-hold count_tests (tests_of_each (site_tests_in plan earlier) read.0)
    (placed-hold (segment_place 1 (length earlier + 1))
    ((nat_le (length read.0) network_limit, faults.TooLarge) ∷ []) count_test) tests in
    rw (← same) pass

-- the segments of a plan
pub segments-count : (owner : Owner) (tables : List Members) (segments : List Segment)
    → segments_of owner tables ≡ Ok segments
    → length segments ≡ length tables
segments-count owner tables segments h =
    with_positions-count (segment_behind owner (length tables)) tables segments h

pub segments-pass : (owner : Owner) (plan : ControllerPlan) (tables : List Members)
    → sizes_of plan ≡ owner.sizes → length tables ≡ length plan.segments
    → (segments : List Segment) → segments_of owner tables ≡ Ok segments
    → first_failed (tests_of_each (segment_tests plan) segments) ≡ Ok tt
segments-pass owner plan tables sizes counted segments h =
    each_behind-tests (segment_tests plan) (segment_behind owner (length tables))
    (segment-passes owner plan (length tables) sizes counted)
    (numbered_from 1 tables) segments h
