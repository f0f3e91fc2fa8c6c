-- Segments without message blocks.
use Rattle.std.specs.Prelude.{◌≡◌, ◌≤◌, ℕ, false, List, Some, slice_get}
use Rattle.plant_types.specs.declared.network.Cell.{Cell}
use Rattle.plant_types.specs.declared.network.Network.{Network}
use Rattle.plant_types.specs.declared.network.Segment.{Segment}
use Rattle.plant_types.specs.Standing.{is_message}
use Rattle.grid_compile.specs.Cells.{cell_at}
use Rattle.ladder_solver.specs.State.{SolveState}
use Rattle.ladder_solver.specs.Numbers.{networks_of}
use Rattle.ladder_solver.specs.Segment.{segment_after}

-- No cell of a network of these segments is a message block. This project's own.
abbrev pub HasNoMessages : List Segment → Type 0
HasNoMessages segments =
    (number : ℕ) (network : Network) (cell : Cell) (i column row : ℕ)
    → slice_get (networks_of segments number) i ≡ Some network
    → cell_at network.cells column row ≡ Some cell → is_message cell.element ≡ false

-- Where there are no message blocks, a solve leaves their table as it is. This project's own.
abbrev pub TablesStayAlone : Type 0
TablesStayAlone =
    (segments : List Segment) (number : ℕ) (s : SolveState) → HasNoMessages segments → 1 ≤ number
    → (segment_after segments number s).table ≡ s.table
