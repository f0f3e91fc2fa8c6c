-- The pieces of the texts of networks, and the segments that they make.
use Rattle.std.specs.Prelude.{ℕ, ◌+◌, Bool, not, ◌==◌, List, [], filter, length, Option, Some, None}
use Rattle.std.specs.Prelude.{Result, Ok, Err}
use Rattle.std.specs.List.{slice_split, flat_map, filter_map}
use Rattle.std.specs.Str.Lines.{lines}
use Rattle.toml.specs.Data.{Members}
use Rattle.plant_types.specs.declared.network.Network.{Network}
use Rattle.plant_types.specs.declared.network.Segment.{Segment}
use Rattle.plant_types.specs.declared.network.Cell as plain_cells
use Rattle.plant_types.specs.declared.network.Short as plain_shorts
use Rattle.plant_types.specs.declared.fault.PlantFault.{PlantFault}
use Rattle.plant_types.specs.declared.fault.PlantFault.TheVariants as faults
use Rattle.plant_types.specs.declared.fault.Place.{Place}
use Rattle.plant_types.specs.Sizes.{Sizes}
use Rattle.plant_types.specs.Fault.{cell_place, at_place}
use Rattle.plant_types.specs.FirstFault.{first_failed, short_tests}
use Rattle.plant_types.specs.PlanTests.{Site, site_cell_tests}
use Rattle.cell_text.specs.declared.piece.Piece.{Piece}
use Rattle.cell_text.specs.declared.piece.Piece.TheVariants.{Cell, Short}
use Rattle.cell_text.specs.declared.piece.CellFault.{CellFault}
use Rattle.cell_text.specs.declared.piece.CellFault.TheVariants.{BadCell, BadValue, BadRef}
use Rattle.cell_text.specs.Steps.{◌>>=◌}
use Rattle.cell_text.specs.Words.{text_words}
use Rattle.cell_text.specs.Pieces.{piece_of}
use Rattle.controller_tables.specs.declared.owner.Owner.{Owner}
use Rattle.plant_tables.specs.Refusals.{Refusal}
use Rattle.plant_tables.specs.InOrder.{with_positions, each_behind}
use Rattle.controller_tables.specs.Texts.{network_texts}

-- A piece that has no words is dropped. This project's own.
abbrev pub has_word : List ℕ → Bool
has_word piece = not (length (text_words piece) == 0)

-- The pieces of a line, which is cut at each semicolon. This project's own.
abbrev pub pieces_of_line : List ℕ → List (List ℕ)
pieces_of_line line = filter has_word (slice_split (λ byte. byte == 59) line)

-- The pieces of a network's text, line by line. This project's own.
abbrev pub pieces_of : List ℕ → List (List ℕ)
pieces_of text = flat_map pieces_of_line (lines text)

-- The cell that a piece is, or the short. This project's own.
abbrev pub cell_in : Piece → Option plain_cells.Cell
cell_in (Cell cell) = Some cell
cell_in (Short short) = None

abbrev pub short_in : Piece → Option plain_shorts.Short
short_in (Cell cell) = None
short_in (Short short) = Some short

-- The network of these pieces. This project's own.
abbrev pub network_from : List Piece → Network
network_from pieces =
    record { cells = filter_map cell_in pieces; shorts = filter_map short_in pieces }

-- A cell behind those before it in its network is tested as a plan's own check tests it. This
-- project's own.
unfoldable pub cell_behind : Site → List plain_cells.Cell → plain_cells.Cell
    → Result Piece PlantFault
cell_behind site earlier cell = do
  tested ← first_failed (site_cell_tests site earlier cell)
  Ok (Cell cell)

-- A short behind those before it in its network is tested as a plan's own check tests it. This
-- project's own.
unfoldable pub short_behind : List plain_shorts.Short → plain_shorts.Short → Result Piece PlantFault
short_behind earlier short = do
  tested ← first_failed (short_tests earlier short)
  Ok (Short short)

-- The fault of a piece as one of a plant. This project's own.
abbrev pub plant_fault : CellFault → PlantFault
plant_fault BadCell = faults.BadCell
plant_fault BadValue = faults.BadValue
plant_fault BadRef = faults.BadRef

-- What was read of a piece is tested behind the pieces of its network so far. This project's own.
abbrev pub tested_behind : Site → Network → Result Piece CellFault → Result Piece PlantFault
tested_behind site network (Ok (Cell cell)) = cell_behind site network.cells cell
tested_behind site network (Ok (Short short)) = short_behind network.shorts short
tested_behind site network (Err fault) = Err (plant_fault fault)

-- A piece behind those of its network so far. This project's own.
unfoldable pub piece_behind : Site → Network → List ℕ → Result Piece PlantFault
piece_behind site network text = tested_behind site network (piece_of (text_words text))

-- Where the next network stands, behind segments of so many and the earlier networks of its own.
-- This project's own.
abbrev pub site_behind : Sizes → ℕ → List Segment → List Network → Site
site_behind sizes count segments networks = record {
  sizes = sizes;
  is_last = length segments + 1 == count;
  segments = segments;
  networks = networks;
}

-- The place of a piece of the network at a site that has a number in it. This project's own.
abbrev pub place_of_piece : ℕ → Site → ℕ → Place
place_of_piece controller site number =
    cell_place controller (length site.segments + 1) (length site.networks + 1) number

-- A numbered piece at its place, behind the pieces before it. This project's own.
abbrev pub placed_behind : ℕ → Site → List Piece → ℕ × List ℕ → Result Piece Refusal
placed_behind controller site pieces text =
    at_place (place_of_piece controller site text.0) (piece_behind site (network_from pieces)
    text.1)

-- The network of a text, or its first piece that fails; a piece's number is its position in the
-- text. This project's own.
unfoldable pub network_behind : ℕ → Site → List ℕ → Result Network Refusal
network_behind controller site text = do
  pieces ← each_behind (placed_behind controller site) [] (with_positions (pieces_of text))
  Ok (network_from pieces)

-- The network of a text behind segments of so many and the earlier networks of its own. This
-- project's own.
abbrev pub next_network : Owner → ℕ → List Segment → List Network → ℕ × List ℕ
    → Result Network Refusal
next_network owner count segments earlier text =
    network_behind owner.position (site_behind owner.sizes count segments earlier) text.1

-- The segment of a table behind those before it, of so many, or its first fault. This project's
-- own.
unfoldable pub segment_behind : Owner → ℕ → List Segment → ℕ × Members → Result Segment Refusal
segment_behind owner count segments table = do
  texts ← network_texts owner.position table.0 table.1
  networks ← each_behind (next_network owner count segments) [] (with_positions texts)
  Ok (record { networks = networks })

-- The segments of a controller, or their first fault. This project's own.
abbrev pub segments_of : Owner → List Members → Result (List Segment) Refusal
segments_of owner tables = each_behind (segment_behind owner (length tables)) [] (with_positions
    tables)
