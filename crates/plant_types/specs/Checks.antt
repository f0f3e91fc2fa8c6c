-- The tests that a controller's cells, shorts and panel pass before they are solved or shown.
use Rattle.std.specs.Prelude.{◌≡◌, ℕ, ◌%◌, Bool, true, ◌&&◌, ◌==◌, not, nat_le, List}
use Rattle.std.specs.List.{list_any, list_all, filter_map, flat_map, AllByRecursion}
use Rattle.std.specs.FinMap.{contains_key}
use Rattle.plant_types.specs.declared.reference.Ref.{Ref}
use Rattle.plant_types.specs.declared.element.Element.{Element}
use Rattle.plant_types.specs.declared.network.Cell.{Cell}
use Rattle.plant_types.specs.declared.network.Short.{Short}
use Rattle.plant_types.specs.declared.network.Network.{Network}
use Rattle.plant_types.specs.declared.network.Segment.{Segment}
use Rattle.plant_types.specs.declared.plan.ControllerPlan.{ControllerPlan}
use Rattle.plant_types.specs.Reference.{rank_of, most_references}
use Rattle.plant_types.specs.Sizes.{Sizes, has_reference, has_run, discretes_of, cleared}
use Rattle.plant_types.specs.Store.{Contents, Keeps}
use Rattle.plant_types.specs.Pairs.{no_two}
use Rattle.plant_types.specs.declared.element.Operand.{Operand}
use Rattle.plant_types.specs.declared.slot.Slot.{Slot}
use Rattle.plant_types.specs.Operands.{Named, named_at, names_of, has_form, has_values, has_kinds}
use Rattle.plant_types.specs.Operands.{HasOperands, HasPast}
use Rattle.plant_types.specs.Network.{driven_by, has_cell_place, has_short_place, is_within}
use Rattle.plant_types.specs.Network.{clashes, same_short}

-- An element's references stand in a map of these sizes, with all that it uses from them on.
-- This project's own table of operands.
abbrev pub has_room : Sizes → Element → Bool
has_room sizes element = list_all (λ named. has_run sizes named.at named.count) (names_of element)

-- Each of these references stands in a map of these sizes, with all that is used from it on. This
-- project's own.
abbrev pub have_room : Sizes → List Named → Bool
have_room sizes names = list_all (λ named. has_run sizes named.at named.count) names

-- What an operand names in its slot stands in a map of these sizes, where the length operand is
-- this. This project's own.
abbrev pub has_room_at : Sizes → ℕ → Slot × Operand → Bool
has_room_at sizes length at = have_room sizes (named_at length at.0 at.1)

-- A cell stands within the seven rows, clear of the cells before it in its network. Modicon Ladder
-- Logic Block Library User Guide.
abbrev pub has_shape : List Cell → Cell → Bool
has_shape earlier cell = is_within cell && not (list_any (clashes cell) earlier)

-- An element passes: its constants, the kinds of its references, and their room in the map.
-- This project's own tests.
abbrev pub element_passes : Sizes → Element → Bool
element_passes sizes element =
    has_form element && has_values element && has_kinds element && has_room sizes element

-- A cell passes: it stands at a place of the grid and within it, and its element passes. This
-- project's own tests.
abbrev pub cell_passes : Sizes → Cell → Bool
cell_passes sizes cell =
    has_cell_place cell && element_passes sizes cell.element && is_within cell

-- The cells of a network pass: each does, and no two clash. This project's own tests.
abbrev pub cells_pass : Sizes → List Cell → Bool
cells_pass sizes cells = list_all (cell_passes sizes) cells && no_two clashes cells

-- The shorts of a network pass: each has its place, and no two are the same. This project's own
-- tests.
abbrev pub shorts_pass : List Short → Bool
shorts_pass shorts = list_all has_short_place shorts && no_two same_short shorts

-- A network passes: its cells and its shorts. This project's own tests.
abbrev pub network_passes : Sizes → Network → Bool
network_passes sizes network = cells_pass sizes network.cells && shorts_pass network.shorts

-- A segment passes: each of its networks does. This project's own tests.
abbrev pub segment_passes : Sizes → Segment → Bool
segment_passes sizes segment = list_all (network_passes sizes) segment.networks

-- The coils that a controller's cells drive, in their order. Modicon Ladder Logic Block Library
-- User Guide.
abbrev pub coils_of_network : Network → List Ref
coils_of_network network = filter_map (λ cell. driven_by cell.element) network.cells

abbrev pub coils_of_segment : Segment → List Ref
coils_of_segment segment = flat_map coils_of_network segment.networks

abbrev pub coils_of : ControllerPlan → List Ref
coils_of plan = flat_map coils_of_segment plan.segments

-- Two references are one. This project's own.
abbrev pub is_same : Ref → Ref → Bool
is_same one other = (rank_of one.kind == rank_of other.kind) && (one.number == other.number)

-- No two of these coils are one: each is driven at most once. Modicon Ladder Logic Block Library
-- User Guide.
abbrev pub are_driven_once : List Ref → Bool
are_driven_once coils = no_two is_same coils

-- How many references of each kind a controller has. This project's own.
abbrev pub sizes_of : ControllerPlan → Sizes
sizes_of plan =
    record {
      coils = plan.coils;
      inputs = plan.inputs;
      input_registers = plan.input_registers;
      registers = plan.registers;
    }

-- A number of references, and one of discretes, which come in sixteens. This project's own.
abbrev pub is_size : ℕ → Bool
is_size count = nat_le count most_references

abbrev pub is_discrete_size : ℕ → Bool
is_discrete_size count = is_size count && (count % 16 == 0)

-- A controller's address and sizes pass. Modbus Plus Network Planning and Installation Guide
-- for the addresses; the sizes are this project's own.
abbrev pub numbers_pass : ControllerPlan → Bool
numbers_pass plan =
    (nat_le 1 plan.node && nat_le plan.node 64)
    && (is_discrete_size plan.coils && (is_discrete_size plan.inputs
    && (is_size plan.input_registers && is_size plan.registers)))

-- A controller passes: its numbers, its segments, its coils, and each reference of its panel
-- stands in its map. This project's own tests.
abbrev pub passes_check : ControllerPlan → Bool
passes_check plan =
    numbers_pass plan
    && (list_all (segment_passes (sizes_of plan)) plan.segments
    && (are_driven_once (coils_of plan) && list_all (has_reference (sizes_of plan)) plan.panel))

-- Each element of these cells, networks or segments is such. This project's own.
abbrev pub EachOfCells : (Element → Type 0) → List Cell → Type 0
EachOfCells Such cells = AllByRecursion (λ cell. Such cell.element) cells

abbrev pub EachOfNetworks : (Element → Type 0) → List Network → Type 0
EachOfNetworks Such networks = AllByRecursion (λ network. EachOfCells Such network.cells) networks

abbrev pub EachOfSegments : (Element → Type 0) → List Segment → Type 0
EachOfSegments Such segments =
    AllByRecursion (λ segment. EachOfNetworks Such segment.networks) segments

-- A store has what each element of these segments asks. This project's own.
abbrev pub HasSegmentOperands : Contents → List Segment → Type 0
HasSegmentOperands m segments = EachOfSegments (HasOperands m) segments

-- The discretes as the scan before ended have what each element of these segments asks of them.
-- This project's own.
abbrev pub HasSegmentPast : Contents → List Segment → Type 0
HasSegmentPast m segments = EachOfSegments (HasPast m) segments

-- A store has each reference of a panel. This project's own.
abbrev pub HasPanel : Contents → List Ref → Type 0
HasPanel m panel = AllByRecursion (λ at. contains_key m at ≡ true) panel

-- A plan that passes finds all that it asks in the store that its sizes make, and in one of its
-- discretes alone. This project's own.
pub record FindsAll (plan : ControllerPlan) : Type 0 where
  pub operands : HasSegmentOperands (cleared (sizes_of plan)) plan.segments
  pub past : HasSegmentPast (cleared (discretes_of (sizes_of plan))) plan.segments
  pub panel : HasPanel (cleared (sizes_of plan)) plan.panel

abbrev pub CheckedPlansFindAll : Type 0
CheckedPlansFindAll = (plan : ControllerPlan) → passes_check plan ≡ true → FindsAll plan

-- What a store has for elements and panels, each store that keeps its references has too. This
-- project's own.
pub record KeptStoresFindAll : Type 0 where
  pub operands :
      (m n : Contents) (segments : List Segment) → Keeps m n → HasSegmentOperands m segments
      → HasSegmentOperands n segments
  pub past : (m n : Contents) (segments : List Segment) → Keeps m n → HasSegmentPast m segments
      → HasSegmentPast n segments
  pub panel : (m n : Contents) (panel : List Ref) → Keeps m n → HasPanel m panel → HasPanel n panel
