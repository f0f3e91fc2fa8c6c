-- Where edge bits change.
use Rattle.std.specs.Prelude.{◌≡◌, ◌≤◌, ℕ, ◌-◌, Bool, true, false, List, Some, slice_get}
use Rattle.std.specs.FinSet.{contains}
use Rattle.plant_types.specs.declared.element.Element.{Element}
use Rattle.plant_types.specs.declared.element.Element.TheVariants.{Counter}
use Rattle.plant_types.specs.declared.network.Cell.{Cell}
use Rattle.plant_types.specs.declared.network.Network.{Network}
use Rattle.plant_types.specs.declared.network.Segment.{Segment}
use Rattle.grid_compile.specs.Cells.{cell_at}
use Rattle.ladder_solver.specs.declared.places.BlockPlace.{BlockPlace}
use Rattle.ladder_solver.specs.State.{SolveState}
use Rattle.ladder_solver.specs.Numbers.{networks_of}
use Rattle.ladder_solver.specs.Segment.{segment_after}

-- An element is a counter. This project's own.
abbrev pub is_counter : Element → Bool
is_counter (Counter up preset acc) = true
is_counter element = false

-- A place of these segments with a counter: its network stands in its segment, and the cell whose
-- top node is at its column and row, within eleven columns of seven rows, is one. This project's
-- own.
pub record IsCounterPlace (segments : List Segment) (place : BlockPlace) : Type 0 where
  pub network : Network
  pub cell : Cell
  pub segment_from : 1 ≤ place.segment
  pub network_from : 1 ≤ place.network
  pub in_segment : slice_get (networks_of segments place.segment) (place.network - 1) ≡ Some network
  pub left : 1 ≤ place.column
  pub right : place.column ≤ 11
  pub top : 1 ≤ place.row
  pub bottom : place.row ≤ 7
  pub in_network : cell_at network.cells place.column place.row ≡ Some cell
  pub counts : is_counter cell.element ≡ true

-- The edge bit of a place with no counter stays as it is when a segment is solved. This project's
-- own.
abbrev pub EdgesStayElsewhere : Type 0
EdgesStayElsewhere =
    (segments : List Segment) (number : ℕ) (place : BlockPlace) (s : SolveState) → 1 ≤ number
    → (IsCounterPlace segments place → ⊥)
    → contains (segment_after segments number s).edges place ≡ contains s.edges place
