-- The network that a grid lists: its cells column by column, and its shorts.
use Rattle.std.specs.Prelude.{◌≡◌, ℕ, ◌+◌, Bool, if◌then◌else◌, List, [], ◌∷◌, ◌++◌, map}
use Rattle.plant_types.specs.declared.network.Cell.{Cell}
use Rattle.plant_types.specs.declared.network.Short.{Short}
use Rattle.plant_types.specs.declared.network.Network.{Network}
use Rattle.plant_types.specs.declared.network.Segment.{Segment}
use Rattle.grid_compile.specs.declared.grid.Op.{Op}
use Rattle.grid_compile.specs.declared.grid.Column.{Column}
use Rattle.grid_compile.specs.declared.grid.Grid.{Grid}
use Rattle.grid_compile.specs.Masks.{row_on}
use Rattle.grid_compile.specs.Bounds.{IsGrid}
use Rattle.grid_compile.specs.Layout.{grid_of}

-- A cell of a column, with its column. This project's own.
abbrev pub listed_cell : ℕ → Op → Cell
listed_cell column op = record { row = op.row; column = column; element = op.element }

-- The cells of columns, which count from one on. This project's own.
unfoldable pub cells_in : ℕ → List Column → List Cell
cells_in column [] = []
cells_in column (laid ∷ columns) =
    map (listed_cell column) laid.ops ++ cells_in (column + 1) columns

-- The short below a row, where there is one. This project's own.
abbrev pub short_if : Bool → ℕ → ℕ → List Short
short_if on column row = if on then record { row = row; column = column } ∷ [] else []

-- The shorts of a column, by which of its first six rows have one. This project's own.
abbrev pub shorts_of : Bool → Bool → Bool → Bool → Bool → Bool → ℕ → List Short
shorts_of a b c d e f column =
    short_if a column 1 ++ (short_if b column 2 ++ (short_if c column 3 ++
    (short_if d column 4 ++ (short_if e column 5 ++ short_if f column 6))))

-- The shorts that a mask tells of a column. This project's own.
abbrev pub shorts_at : ℕ → ℕ → List Short
shorts_at marks column =
    shorts_of (row_on marks 1) (row_on marks 2) (row_on marks 3) (row_on marks 4) (row_on marks 5)
    (row_on marks 6) column

-- The shorts of columns, which count from one on. This project's own.
unfoldable pub shorts_in : ℕ → List Column → List Short
shorts_in column [] = []
shorts_in column (laid ∷ columns) =
    shorts_at laid.shorts column ++ shorts_in (column + 1) columns

-- The network that a grid lists. This project's own.
abbrev pub listed_network : Grid → Network
listed_network grid =
    record { cells = cells_in 1 grid.columns; shorts = shorts_in 1 grid.columns }

-- The segments whose networks grids list. This project's own.
abbrev pub listed_segments : List (List Grid) → List Segment
listed_segments segments = map (λ grids. record { networks = map listed_network grids }) segments

-- A grid is that of the network that it lists. This project's own.
abbrev pub EachGridListed : Type 0
EachGridListed = (grid : Grid) → IsGrid grid → grid_of (listed_network grid) ≡ grid
