-- What the grid of a network keeps to.
use Rattle.std.specs.Prelude.{◌≡◌, ◌≤◌, ◌<◌, length}
use Rattle.std.specs.List.{AllByRecursion}
use Rattle.grid_compile.specs.declared.grid.Op.{Op}
use Rattle.grid_compile.specs.declared.grid.Column.{Column}
use Rattle.grid_compile.specs.declared.grid.Grid.{Grid}
use Rattle.grid_compile.specs.Lists.{Rises}

-- A cell stands in one of the seven rows. This project's own.
pub record IsWithin (op : Op) : Type 0 where
  pub first : 1 ≤ op.row
  pub last : op.row ≤ 7

-- Each cell of a column stands in one of the seven rows, the rows rise strictly, and the shorts
-- join neighbours among them. This project's own.
pub record IsColumn (laid : Column) : Type 0 where
  pub rows : AllByRecursion IsWithin laid.ops
  pub rises : Rises 1 laid.ops
  pub shorts : laid.shorts < 64

-- There are eleven such columns. This project's own.
pub record IsGrid (grid : Grid) : Type 0 where
  pub eleven : length grid.columns ≡ 11
  pub columns : AllByRecursion IsColumn grid.columns
