-- What is found by its number: the networks of a segment, and the MSTR blocks of a controller.
use Rattle.std.specs.Prelude.{ℕ, zero, suc, ◌+◌, ◌-◌, List, [], ◌++◌, length, take, map, filter}
use Rattle.std.specs.Prelude.{flat_map, Option, Some, None, slice_get}
use Rattle.plant_types.specs.declared.element.Element.{Element}
use Rattle.plant_types.specs.Standing.{is_message}
use Rattle.plant_types.specs.declared.network.Cell.{Cell}
use Rattle.plant_types.specs.declared.network.Network.{Network}
use Rattle.plant_types.specs.declared.network.Segment.{Segment}
use Rattle.grid_compile.specs.declared.grid.Op.{Op}
use Rattle.grid_compile.specs.declared.grid.Column.{Column}
use Rattle.grid_compile.specs.declared.grid.Grid.{Grid}
use Rattle.grid_compile.specs.Cells.{cells_from}
use Rattle.ladder_solver.specs.State.{BlockPlace}

-- How many of these elements are MSTR blocks. This project's own.
abbrev pub mstrs_in : List Element → ℕ
mstrs_in elements = length (filter is_message elements)

-- The elements of a column of a network, in so many rows from the top. This project's own.
abbrev pub rows_elements : List Cell → ℕ → ℕ → List Element
rows_elements cells column count = map (λ cell. cell.element) (cells_from cells column 1 count)

-- The elements of so many columns of seven rows, from one to the right. This project's own.
unfoldable pub columns_elements : List Cell → ℕ → ℕ → List Element
columns_elements cells column zero = []
columns_elements cells column (suc count) =
    rows_elements cells column 7 ++ columns_elements cells (column + 1) count

-- The elements of a network, of networks and of segments, by column and row. This project's own.
abbrev pub network_elements : Network → List Element
network_elements network = columns_elements network.cells 1 11

abbrev pub networks_elements : List Network → List Element
networks_elements networks = flat_map network_elements networks

abbrev pub segments_elements : List Segment → List Element
segments_elements segments = flat_map (λ segment. networks_elements segment.networks) segments

-- How many MSTR blocks segments have. This project's own.
abbrev pub mstr_blocks : List Segment → ℕ
mstr_blocks segments = mstrs_in (segments_elements segments)

-- The elements of a network that come before a place: those of the columns to the left of it, and
-- of the rows above it. This project's own.
abbrev pub elements_within : Option Network → ℕ → ℕ → List Element
elements_within None column row = []
elements_within (Some network) column row =
    columns_elements network.cells 1 (column - 1) ++ rows_elements network.cells column (row - 1)

-- The networks of a segment, if there is one. This project's own.
abbrev pub networks_if : Option Segment → List Network
networks_if None = []
networks_if (Some segment) = segment.networks

-- The networks of a segment, counted from 1; none where there is no such segment. This
-- project's own.
abbrev pub networks_of : List Segment → ℕ → List Network
networks_of segments number = networks_if (slice_get segments (number - 1))

-- The elements that come before a place: those of the segments before its own, of the networks
-- before its own, and of its own network. This project's own.
abbrev pub elements_before : List Segment → BlockPlace → List Element
elements_before segments place =
    let networks = networks_of segments place.segment in
    segments_elements (take (place.segment - 1) segments)
    ++ (networks_elements (take (place.network - 1) networks)
    ++ elements_within (slice_get networks (place.network - 1)) place.column place.row)

-- The number of the MSTR block at a place: 1 more than the MSTR blocks that come before it. This
-- project's own.
abbrev pub block_number : List Segment → BlockPlace → ℕ
block_number segments place = suc (mstrs_in (elements_before segments place))

-- The elements that a column lists, a grid, grids, and those of segments, by column and row. This
-- project's own.
abbrev pub ops_elements : List Op → List Element
ops_elements ops = map (λ op. op.element) ops

abbrev pub column_elements : Column → List Element
column_elements laid = ops_elements laid.ops

abbrev pub grid_elements : Grid → List Element
grid_elements grid = flat_map column_elements grid.columns

abbrev pub grids_elements : List Grid → List Element
grids_elements grids = flat_map grid_elements grids

abbrev pub program_elements : List (List Grid) → List Element
program_elements segments = flat_map grids_elements segments

-- How many MSTR blocks these grids list. This project's own.
abbrev pub mstr_count : List (List Grid) → ℕ
mstr_count segments = mstrs_in (program_elements segments)
