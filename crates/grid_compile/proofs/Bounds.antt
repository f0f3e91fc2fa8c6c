-- The grid of a network keeps its bounds.
use Rattle.std.proofs.Common.{◌≡◌, ℕ, ◌+◌, ◌≤◌, zero, suc, List, [], ◌∷◌, Option, Some, None, refl}
use Rattle.std.proofs.Common.{ap, length, arith}
use Rattle.std.specs.Prelude.{map}
use Rattle.std.specs.List.{AllByRecursion}
use Rattle.plant_types.specs.declared.network.Cell.{Cell}
use Rattle.plant_types.specs.declared.network.Network.{Network}
use Rattle.plant_types.specs.declared.network.Segment.{Segment}
use Rattle.grid_compile.specs.Cells.{cell_at, before, cells_from}
use Rattle.grid_compile.specs.Layout.{op_of, columns_from, grid_of, grids_of}
use Rattle.grid_compile.specs.Bounds.{IsWithin, IsColumn, IsGrid}
use Rattle.grid_compile.proofs.Listing.{cell_at-row, rises_from, marks-small}

within_before : (row : ℕ) (o : Option Cell) (cells : List Cell) → 1 ≤ row → row ≤ 7
    → ((cell : Cell) → o ≡ Some cell → cell.row ≡ row)
    → AllByRecursion IsWithin (map op_of cells)
    → AllByRecursion IsWithin (map op_of (before o cells))
within_before row None cells low high here rest = rest
within_before row (Some cell) cells low high here rest =
    let e = here cell refl in
    (record { first = omega arith; last = omega arith }, rest)

within_rows : (cells : List Cell) (column row count : ℕ) → 1 ≤ row → row + count ≤ 8
    → AllByRecursion IsWithin (map op_of (cells_from cells column row count))
unfolding cells_from
within_rows cells column row zero low high = tt
within_rows cells column row (suc count) low high =
    within_before row (cell_at cells column row) (cells_from cells column (row + 1) count) low
    (omega arith) (cell_at-row cells column row)
    (within_rows cells column (row + 1) count (omega arith) (omega arith))

within_columns : (network : Network) (column count : ℕ)
    → AllByRecursion IsColumn (columns_from network column count)
unfolding columns_from
within_columns network column zero = tt
within_columns network column (suc count) = (
  record {
    rows = within_rows network.cells column 1 7 (omega arith) (omega arith);
    rises = rises_from network.cells column 1 7 (omega arith);
    shorts = marks-small network.shorts column;
  },
  within_columns network
      (column + 1) count,
)

so_many : (network : Network) (column count : ℕ)
    → length (columns_from network column count) ≡ count
unfolding columns_from
so_many network column zero = refl
so_many network column (suc count) = ap suc (so_many network (column + 1) count)

grid_within : (network : Network) → IsGrid (grid_of network)
grid_within network =
    record { eleven = so_many network 1 11; columns = within_columns network 1 11 }

networks_within : (networks : List Network) → AllByRecursion IsGrid (map grid_of networks)
networks_within [] = tt
networks_within (network ∷ networks) = (grid_within network, networks_within networks)

-- the grids of segments keep theirs
pub grids_within : (segments : List Segment)
    → AllByRecursion (AllByRecursion IsGrid) (grids_of segments)
grids_within [] = tt
grids_within (segment ∷ segments) = (networks_within segment.networks, grids_within segments)
