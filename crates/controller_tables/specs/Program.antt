-- What was read of a controller's segments so far, and one more piece, network or segment behind
-- it.
use Rattle.std.specs.Prelude.{◌≡◌, ℕ, ◌+◌, List, [], ◌∷◌, ◌++◌, length, Result, Ok}
use Rattle.toml.specs.Data.{Members}
use Rattle.plant_types.specs.declared.network.Cell as plain_cells
use Rattle.plant_types.specs.declared.network.Short as plain_shorts
use Rattle.plant_types.specs.declared.network.Network.{Network}
use Rattle.plant_types.specs.declared.network.Segment.{Segment}
use Rattle.plant_types.specs.declared.fault.PlantFault.{PlantFault}
use Rattle.plant_types.specs.declared.fault.Place.{Place}
use Rattle.plant_types.specs.Sizes.{Sizes}
use Rattle.plant_types.specs.Fault.{cell_place, at_place}
use Rattle.plant_types.specs.PlanTests.{Site}
use Rattle.plant_types.specs.Standing.{cells_before}
use Rattle.cell_text.specs.declared.piece.Piece.{Piece}
use Rattle.cell_text.specs.declared.piece.Piece.TheVariants.{Cell, Short}
use Rattle.cell_text.specs.Steps.{◌>>=◌}
use Rattle.controller_tables.specs.declared.owner.Owner.{Owner}
use Rattle.plant_tables.specs.Refusals.{Refusal}
use Rattle.controller_tables.specs.Texts.{network_texts}
use Rattle.controller_tables.specs.Pieces.{site_behind, cell_behind, short_behind, piece_behind}
use Rattle.controller_tables.specs.Pieces.{pieces_of}

-- How many segments there are in all, those that are whole, the networks that are whole of the next
-- one, and the cells and shorts so far of the network that is being read. This project's own.
pub record ReadProgram : Type 0 where
  pub count : ℕ
  pub segments : List Segment
  pub networks : List Network
  pub cells : List plain_cells.Cell
  pub shorts : List plain_shorts.Short

-- Nothing was read yet of so many segments. This project's own.
abbrev pub nothing_read : ℕ → ReadProgram
nothing_read count = record { count = count; segments = []; networks = []; cells = []; shorts = [] }

-- The network that is being read. This project's own.
abbrev pub open_network : ReadProgram → Network
open_network read = record { cells = read.cells; shorts = read.shorts }

-- Where it stands. This project's own.
abbrev pub site_of : Sizes → ReadProgram → Site
site_of sizes read = site_behind sizes read.count read.segments read.networks

-- All cells so far. This project's own.
abbrev pub cells_read : ReadProgram → List plain_cells.Cell
cells_read read = cells_before read.segments read.networks ++ read.cells

-- One piece more of the network that is being read. This project's own.
abbrev pub added : ReadProgram → Piece → ReadProgram
added read (Cell cell) = record read { cells = read.cells ++ cell ∷ [] }
added read (Short short) = record read { shorts = read.shorts ++ short ∷ [] }

-- A piece that passed its tests is added. This project's own.
abbrev pub with_tested : ReadProgram → Result Piece PlantFault → Result ReadProgram PlantFault
with_tested read tested = tested >>= λ piece. Ok (added read piece)

-- A cell at its place, and a short. This project's own.
abbrev pub with_cell : Sizes → Place → ReadProgram → plain_cells.Cell → Result ReadProgram Refusal
with_cell sizes place read cell =
    at_place place (with_tested read (cell_behind (site_of sizes read) read.cells cell))

abbrev pub with_short : Place → ReadProgram → plain_shorts.Short → Result ReadProgram Refusal
with_short place read short = at_place place (with_tested read (short_behind read.shorts short))

-- One more piece. This project's own.
abbrev pub with_piece : Sizes → ReadProgram → List ℕ → Result ReadProgram PlantFault
with_piece sizes read piece =
    with_tested read (piece_behind (site_of sizes read) (open_network read) piece)

-- How many pieces of the network that is being read were read. This project's own.
abbrev pub piece_count : ReadProgram → ℕ
piece_count read = length read.cells + length read.shorts

-- The place of the piece that comes next. This project's own.
abbrev pub place_of_next : ℕ → ReadProgram → Place
place_of_next controller read =
    cell_place controller (length read.segments + 1) (length read.networks + 1)
    (piece_count read + 1)

-- The piece that comes next, at its place. This project's own.
abbrev pub with_next_piece : Owner → ReadProgram → List ℕ → Result ReadProgram Refusal
with_next_piece owner read piece =
    at_place (place_of_next owner.position read) (with_piece owner.sizes read piece)

-- Pieces, each behind those before it. This project's own.
unfoldable pub with_pieces : Owner → ReadProgram → List (List ℕ) → Result ReadProgram Refusal
with_pieces owner read [] = Ok read
with_pieces owner read (piece ∷ pieces) = do
  next ← with_next_piece owner read piece
  with_pieces owner next pieces

-- The network that was being read is whole. This project's own.
abbrev pub with_network : ReadProgram → ReadProgram
with_network read =
    record read { networks = read.networks ++ open_network read ∷ []; cells = []; shorts = [] }

-- The segment whose networks were being read is whole. This project's own.
abbrev pub with_segment : ReadProgram → ReadProgram
with_segment read =
    record read {
      segments = read.segments ++ record { networks = read.networks } ∷ [];
      networks =
          [];
    }

-- One more network. This project's own.
unfoldable pub with_text : Owner → ReadProgram → List ℕ → Result ReadProgram Refusal
with_text owner read text = do
  next ← with_pieces owner read (pieces_of text)
  Ok (with_network next)

-- Networks, each behind those before it. This project's own.
unfoldable pub with_texts : Owner → ReadProgram → List (List ℕ) → Result ReadProgram Refusal
with_texts owner read [] = Ok read
with_texts owner read (text ∷ texts) = do
  next ← with_text owner read text
  with_texts owner next texts

-- One more segment, which has these texts. This project's own.
unfoldable pub with_segment_texts : Owner → ReadProgram → List (List ℕ) → Result ReadProgram Refusal
with_segment_texts owner read texts = do
  next ← with_texts owner read texts
  Ok (with_segment next)

-- One more segment by its table. This project's own.
unfoldable pub with_segment_table : Owner → ReadProgram → Members → Result ReadProgram Refusal
with_segment_table owner read table = do
  texts ← network_texts owner.position (length read.segments + 1) table
  with_segment_texts owner read texts

-- Segments, each behind those before it. This project's own.
unfoldable pub with_segment_tables : Owner → ReadProgram → List Members → Result ReadProgram Refusal
with_segment_tables owner read [] = Ok read
with_segment_tables owner read (table ∷ tables) = do
  next ← with_segment_table owner read table
  with_segment_tables owner next tables

-- No network of the next segment was read yet. This project's own.
pub record IsBetweenSegments (read : ReadProgram) : Type 0 where
  pub networks : read.networks ≡ []
  pub cells : read.cells ≡ []
