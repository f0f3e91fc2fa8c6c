-- The places that cells take in a network, and which cells can stand together.
use Rattle.std.specs.Prelude.{ℕ, ◌+◌, Bool, ◌&&◌, ◌||◌, ◌==◌, nat_le, nat_lt, Option, Some, None}
use Rattle.std.specs.Prelude.{is_some}
use Rattle.plant_types.specs.declared.reference.Ref.{Ref}
use Rattle.plant_types.specs.declared.element.Element.{Element}
use Rattle.plant_types.specs.declared.element.Element.TheVariants.{Open, Closed, Rise, Fall, Coil}
use Rattle.plant_types.specs.declared.element.Element.TheVariants.{Latch, Wire, Timer, Counter}
use Rattle.plant_types.specs.declared.element.Element.TheVariants.{Math, Move, Matrix, Skip, Label}
use Rattle.plant_types.specs.declared.element.Element.TheVariants.{Call, Return, Mstr}
use Rattle.plant_types.specs.declared.network.Cell.{Cell}
use Rattle.plant_types.specs.declared.network.Short.{Short}

-- How many nodes an element has, one row each, from its place down. Modicon Ladder Logic Block
-- Library User Guide.
abbrev pub node_count : Element → ℕ
node_count (Open at) = 1
node_count (Closed at) = 1
node_count (Rise at) = 1
node_count (Fall at) = 1
node_count (Coil at) = 1
node_count (Latch at) = 1
node_count Wire = 1
node_count (Timer unit preset acc) = 2
node_count (Counter up preset acc) = 2
node_count (Math op top mid low) = 3
node_count (Move op top mid length) = 3
node_count (Matrix op top mid length) = 3
node_count (Skip count) = 1
node_count (Label number) = 1
node_count (Call number) = 2
node_count Return = 1
node_count (Mstr control area length) = 3

-- The coil that an element drives. Modicon Ladder Logic Block Library User Guide.
abbrev pub driven_by : Element → Option Ref
driven_by (Coil at) = Some at
driven_by (Latch at) = Some at
driven_by _ = None

-- Whether an element ends its row, as a coil does. Modicon Ladder Logic Block Library User Guide.
abbrev pub ends_row : Element → Bool
ends_row element = is_some (driven_by element)

-- A row of a network, and a column. Modicon Ladder Logic Block Library User Guide: 7 rows and
-- 11 columns.
abbrev pub is_row : ℕ → Bool
is_row row = nat_le 1 row && nat_le row 7

abbrev pub is_column : ℕ → Bool
is_column column = nat_le 1 column && nat_le column 11

-- A short joins one of the first six rows to the next. This project's own.
abbrev pub has_short_place : Short → Bool
has_short_place short = (nat_le 1 short.row && nat_le short.row 6) && is_column short.column

abbrev pub has_cell_place : Cell → Bool
has_cell_place cell = is_row cell.row && is_column cell.column

-- One of a cell's nodes stands in this row. Modicon Ladder Logic Block Library User Guide.
abbrev pub covers : Cell → ℕ → Bool
covers cell row = nat_le cell.row row && nat_lt row (cell.row + node_count cell.element)

-- All nodes of a cell stand within the seven rows. Modicon Ladder Logic Block Library User Guide.
abbrev pub is_within : Cell → Bool
is_within cell = nat_le (cell.row + node_count cell.element) 8

-- Two cells have nodes on one place. Modicon Ladder Logic Block Library User Guide.
abbrev pub overlaps : Cell → Cell → Bool
overlaps one other =
    (one.column == other.column)
    && (nat_lt one.row (other.row + node_count other.element)
    && nat_lt other.row (one.row + node_count one.element))

-- A node of a cell stands to the right of a coil in its row. Modicon Ladder Logic Block Library
-- User Guide.
abbrev pub is_right_of_coil : Cell → Cell → Bool
is_right_of_coil cell coil =
    ends_row coil.element && (nat_lt coil.column cell.column && covers cell coil.row)

-- Two cells that can't stand in one network. Modicon Ladder Logic Block Library User Guide.
abbrev pub clashes : Cell → Cell → Bool
clashes one other = overlaps one other || (is_right_of_coil one other || is_right_of_coil other one)

-- Two shorts are the same. This project's own.
abbrev pub same_short : Short → Short → Bool
same_short one other = (one.row == other.row) && (one.column == other.column)
