-- Where the cells and the shorts of a network stand in its grid.
use Rattle.std.specs.Prelude.{◌≡◌, ℕ, Bool, true, ◌&&◌, ◌==◌, List, map}
use Rattle.std.specs.List.{list_all, IsDistinct}
use Rattle.plant_types.specs.declared.network.Cell.{Cell}
use Rattle.plant_types.specs.declared.network.Short.{Short}
use Rattle.plant_types.specs.Network.{is_row, is_column}

-- The rows and columns of cells. This project's own.
abbrev pub cell_places : List Cell → List (ℕ × ℕ)
cell_places cells = map (λ cell. (cell.row, cell.column)) cells

-- The rows and columns of shorts. This project's own.
abbrev pub short_places : List Short → List (ℕ × ℕ)
short_places shorts = map (λ short. (short.row, short.column)) shorts

-- A row and a column are a place of the grid. Modicon Ladder Logic Block Library User Guide.
abbrev pub is_place : ℕ × ℕ → Bool
is_place place = is_row place.0 && is_column place.1

-- Two places are one. This project's own.
abbrev pub same_place : ℕ × ℕ → ℕ × ℕ → Bool
same_place one other = (one.0 == other.0) && (one.1 == other.1)

-- Places are apart: each is one of the grid, and no two of them are one. This project's own.
pub record AreApart (places : List (ℕ × ℕ)) : Type 0 where
  pub within : list_all is_place places ≡ true
  pub distinct : IsDistinct same_place places
