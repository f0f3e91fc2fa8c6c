-- Segments while they are read: one more cell, one more short, a network or a segment that is
-- whole.
use Rattle.std.proofs.Common.{◌≡◌, ℕ, ◌+◌, ◌≤◌, ◌<◌, Bool, true, false, not, ◌&&◌, List, [], ◌∷◌}
use Rattle.std.proofs.Common.{◌++◌, length, length-append, Option, Ok, refl, sym, ap, ◌∙◌}
use Rattle.std.proofs.Common.{append_assoc, arith}
use Rattle.std.specs.Prelude.{nat_lt, if◌then◌else◌}
use Rattle.std.specs.List.{list_any, cons_option, IsDistinct}
use Rattle.std.proofs.lemmas.Bool.{and_parts, not-true}
use Rattle.std.proofs.lemmas.Bool.Decides.{nat_tests}
use Rattle.std.proofs.lemmas.List.{map-append, length-map, append-nil}
use Rattle.plant_types.specs.declared.reference.Ref.{Ref}
use Rattle.plant_types.specs.declared.network.Cell.{Cell}
use Rattle.plant_types.specs.declared.network.Short.{Short}
use Rattle.plant_types.specs.declared.network.Segment.{Segment}
use Rattle.plant_types.specs.declared.fault.PlantFault.TheVariants.{BadCell, BadShape, CoilTwice}
use Rattle.plant_types.specs.declared.fault.PlantFault.TheVariants.{TooLarge}
use Rattle.plant_types.specs.Sizes.{Sizes}
use Rattle.plant_types.specs.Grid.{cell_places, short_places, AreApart}
use Rattle.plant_types.specs.Network.{driven_by, has_cell_place, has_short_place, is_within}
use Rattle.plant_types.specs.Network.{clashes, same_short}
use Rattle.plant_types.specs.Checks.{has_shape}
use Rattle.plant_types.specs.FirstFault.{first_failed, cell_tests, short_tests}
use Rattle.plant_types.specs.Standing.{cells_of_networks, cells_of_segments, cells_before}
use Rattle.plant_types.specs.Standing.{is_message, message_count, message_limit, standing_of}
use Rattle.plant_types.specs.Standing.{standing_tests}
use Rattle.plant_types.specs.PlanTests.{site_cell_tests}
use Rattle.plant_types.proofs.GridLemmas.{AreApart-push, AreApart-few, free_place, free_short}
use Rattle.plant_types.proofs.GridLemmas.{short_is_place}
use Rattle.plant_types.proofs.StandingLemmas.{cells_of_networks-push, cells_of_segments-push}
use Rattle.plant_types.proofs.StandingLemmas.{message_count-push}
use Rattle.plant_types.proofs.PlanLemmas.{parts-ok, two-ok, four-ok, cell_tests-ok}
use Rattle.controller_tables.specs.Driven.{GainsLabel, HoldsJust}
use Rattle.controller_tables.specs.Kept.{KeepsProgram}
use Rattle.cell_text.specs.declared.piece.Piece.TheVariants as pieces
use Rattle.controller_tables.specs.Program.{ReadProgram, nothing_read, open_network, cells_read}
use Rattle.controller_tables.specs.Program.{site_of, added, with_network, with_segment}
use Rattle.controller_tables.proofs.DrivenLemmas.{HoldsJust-cell, HoldsJust-same, HoldsLabels-cell}
use Rattle.controller_tables.proofs.DrivenLemmas.{HoldsLabels-same}

-- all cells with one more
cells_read-cell : (read : ReadProgram) (cell : Cell)
    → cells_read (added read (pieces.Cell cell)) ≡ cells_read read ++ cell ∷ []
cells_read-cell read cell =
    sym (append_assoc (cells_before read.segments read.networks) read.cells (cell ∷ []))

-- all cells with a network that is whole, and with a segment
cells_read-network : (read : ReadProgram) → cells_read (with_network read) ≡ cells_read read
cells_read-network read =
    append-nil _ ∙ ap (λ more. cells_of_segments read.segments ++ more)
    (cells_of_networks-push read.networks (open_network read))
    ∙ sym (append_assoc (cells_of_segments read.segments)
    (cells_of_networks read.networks) read.cells)

cells_read-segment : (read : ReadProgram) → cells_read (with_segment read) ≡ cells_read read
cells_read-segment read =
    let whole : Segment = record { networks = read.networks } in
    ap (λ before. before ++ read.cells) (append-nil
    (cells_of_segments (read.segments ++ whole ∷ [])) ∙ cells_of_segments-push read.segments whole)

-- a message more is not one too many
few_more : (messages : ℕ) (is : Bool) → messages ≤ 64 → not (is && not (nat_lt messages 64)) ≡ true
    → messages + (if is then 1 else 0) ≤ 64
few_more messages true few h = grind (arith, nat_tests)
few_more messages false few h = grind (arith, nat_tests)

-- what is known of a cell that passes
record Fits (read : ReadProgram) (cell : Cell) : Type 0 where
  place : has_cell_place cell ≡ true
  shape : has_shape read.cells cell ≡ true
  message : not (is_message cell.element
      && not (nat_lt (message_count (cells_read read)) message_limit)) ≡ true

passing-fits : (sizes : Sizes) (read : ReadProgram) (cell : Cell)
    → first_failed (site_cell_tests (site_of sizes read) read.cells cell) ≡ Ok tt → Fits read cell
passing-fits sizes read cell h =
    let site = site_of sizes read in
    let standing = standing_of site.is_last (cells_read read) cell.element in
    let parts = parts-ok (cell_tests sizes read.cells cell) (standing_tests standing) h in
    let holds = cell_tests-ok sizes read.cells cell parts.0 in
    let stands = four-ok (not standing.is_stray_label) (not standing.repeats_label)
    (not standing.drives_again) (not standing.exceeds_messages)
    BadShape BadShape CoilTwice TooLarge parts.1 in
    record { place = holds.place; shape = holds.shape; message = stands.1.1 }

-- one more cell that passes
pub KeepsProgram-cell : (old new : List Ref) (numbers gains : List ℕ) (messages more : ℕ)
    (sizes : Sizes) (read : ReadProgram) (cell : Cell) (drives : Option Ref)
    → first_failed (site_cell_tests (site_of sizes read) read.cells cell) ≡ Ok tt
    → drives ≡ driven_by cell.element
    → more ≡ messages + (if is_message cell.element then 1 else 0)
    → KeepsProgram old numbers messages read → HoldsJust new (old ++ cons_option drives [])
    → GainsLabel gains numbers cell.element
    → KeepsProgram new gains more (added read (pieces.Cell cell))
KeepsProgram-cell old new numbers gains messages more sizes read cell drives passes d m kept gained
    labelled =
    let fits = passing-fits sizes read cell passes in
    let clear = and_parts (is_within cell) (not (list_any (clashes cell) read.cells)) fits.shape in
    let cells = cells_read-cell read cell in
    let room : not (is_message cell.element && not (nat_lt messages 64)) ≡ true =
    ap (λ n. not (is_message cell.element && not (nat_lt n 64))) kept.count ∙ fits.message in
    record {
      driven = HoldsJust-cell old new (cells_read read) (cells_read (added read (pieces.Cell cell)))
          cell drives d cells kept.driven gained;
      labels = HoldsLabels-cell numbers gains (cells_read read)
          (cells_read (added read (pieces.Cell cell))) cell cells kept.labels labelled;
      count = m ∙ ap (λ n. n + (if is_message cell.element then 1 else 0)) kept.count
          ∙ sym (ap message_count cells
          ∙ message_count-push (cells_read read) cell (is_message cell.element) refl);
      few_messages = rw m (few_more messages (is_message cell.element) kept.few_messages room);
      cells = rw map-append (AreApart-push (cell_places read.cells)
          (cell.row, cell.column) kept.cells fits.place (free_place
          read.cells cell (not-true _ clear.1)));
      shorts = kept.shorts;
      segments = kept.segments;
      networks = kept.networks;
    }

-- one more short at a free place
pub KeepsProgram-short : (keys : List Ref) (numbers : List ℕ) (messages : ℕ) (read : ReadProgram)
    (short : Short) → first_failed (short_tests read.shorts short) ≡ Ok tt
    → KeepsProgram keys numbers messages read
    → KeepsProgram keys numbers messages (added read (pieces.Short short))
KeepsProgram-short keys numbers messages read short passes kept =
    let holds = two-ok (has_short_place short) (not (list_any (same_short short) read.shorts))
    BadCell BadShape passes in
    record {
      driven = kept.driven;
      labels = kept.labels;
      count = kept.count;
      few_messages = kept.few_messages;
      cells = kept.cells;
      shorts = rw map-append (AreApart-push (short_places read.shorts)
          (short.row, short.column) kept.shorts (short_is_place short holds.0)
          (free_short read.shorts short (not-true _ holds.1)));
      segments = kept.segments;
      networks = kept.networks;
    }

-- nothing stands in the way of nothing
none_apart : AreApart []
unfolding IsDistinct
none_apart = record { within = refl; distinct = tt }

-- a network that is whole, and none of the next one yet
pub KeepsProgram-network : (keys : List Ref) (numbers : List ℕ) (messages : ℕ)
    (read : ReadProgram) → length read.networks < 1000 → KeepsProgram keys numbers messages read
    → KeepsProgram keys numbers messages (with_network read)
KeepsProgram-network keys numbers messages read few kept = record {
  driven = HoldsJust-same keys (cells_read read) (cells_read (with_network read))
      (cells_read-network read) kept.driven;
  labels = HoldsLabels-same numbers (cells_read read) (cells_read (with_network read))
      (cells_read-network read) kept.labels;
  count = kept.count ∙ ap message_count (sym (cells_read-network read));
  few_messages = kept.few_messages;
  cells = none_apart;
  shorts = none_apart;
  segments = kept.segments;
  networks = omega (arith, length-append read.networks (open_network read ∷ []));
}

-- a segment that is whole, and none of the next one yet
pub KeepsProgram-segment : (keys : List Ref) (numbers : List ℕ) (messages : ℕ)
    (read : ReadProgram) → length read.segments < 32 → KeepsProgram keys numbers messages read
    → KeepsProgram keys numbers messages (with_segment read)
KeepsProgram-segment keys numbers messages read few kept = record {
  driven = HoldsJust-same keys (cells_read read) (cells_read (with_segment read))
      (cells_read-segment read) kept.driven;
  labels = HoldsLabels-same numbers (cells_read read) (cells_read (with_segment read))
      (cells_read-segment read) kept.labels;
  count = kept.count ∙ ap message_count (sym (cells_read-segment read));
  few_messages = kept.few_messages;
  cells = kept.cells;
  shorts = kept.shorts;
  segments = omega (arith, length-append read.segments (record { networks = read.networks } ∷ []));
  networks = omega arith;
}

-- nothing yet
pub KeepsProgram-none : (count : ℕ) (keys : List Ref) (numbers : List ℕ) → keys ≡ []
    → numbers ≡ [] → KeepsProgram keys numbers 0 (nothing_read count)
KeepsProgram-none count keys numbers e f = record {
  driven = λ at. rw e refl;
  labels = λ number. rw f refl;
  count = refl;
  few_messages = omega arith;
  cells = none_apart;
  shorts = none_apart;
  segments = omega arith;
  networks = omega arith;
}

-- how many cells and shorts there are at most
pub KeepsProgram-few : (keys : List Ref) (numbers : List ℕ) (messages : ℕ) (read : ReadProgram)
    → KeepsProgram keys numbers messages read
    → (length read.cells ≤ 96) × (length read.shorts ≤ 96)
KeepsProgram-few keys numbers messages read kept =
    let cell_count : length read.cells ≤ 96 = omega (
      arith,
      length-map {B = ℕ × ℕ} read.cells (λ (cell : Cell). (cell.row, cell.column)),
      AreApart-few (cell_places read.cells) kept.cells,
    ) in
    let short_count : length read.shorts ≤ 96 =
    omega (
      arith,
      length-map {B = ℕ × ℕ} read.shorts (λ (short : Short). (short.row, short.column)),
      AreApart-few (short_places read.shorts) kept.shorts,
    ) in
    (cell_count, short_count)
