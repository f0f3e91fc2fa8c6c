-- The tests of a controller in their order, each with its fault and its place: this project's own.
use Rattle.std.specs.Prelude.{ℕ, ◌+◌, ◌-◌, ◌<◌, Bool, true, not, ◌&&◌, ◌==◌, nat_le, nat_lt, List, []}
use Rattle.std.specs.Prelude.{◌∷◌, ◌++◌, map, drop, length, Option, Some, None}
use Rattle.std.specs.List.{list_any, slice_get}
use Rattle.plant_types.specs.declared.reference.Ref.{Ref}
use Rattle.plant_types.specs.declared.drops.IoDrop.{IoDrop}
use Rattle.plant_types.specs.declared.network.Cell.{Cell}
use Rattle.plant_types.specs.declared.network.Short.{Short}
use Rattle.plant_types.specs.declared.network.Network.{Network}
use Rattle.plant_types.specs.declared.network.Segment.{Segment}
use Rattle.plant_types.specs.declared.plan.OrderRow.{OrderRow}
use Rattle.plant_types.specs.declared.plan.PowerRow.{PowerRow}
use Rattle.plant_types.specs.declared.plan.ControllerPlan.{ControllerPlan}
use Rattle.plant_types.specs.declared.fault.PlantFault.{PlantFault}
use Rattle.plant_types.specs.declared.fault.PlantFault.TheVariants.{BadValue, BadRef, BadOrder}
use Rattle.plant_types.specs.declared.fault.PlantFault.TheVariants.{BadNode, BadPower, TooLarge}
use Rattle.plant_types.specs.declared.fault.Place.{Place}
use Rattle.plant_types.specs.Fault.{controller_place, segment_place, cell_place, order_place}
use Rattle.plant_types.specs.Fault.{power_place, panel_place}
use Rattle.plant_types.specs.Limits.{is_up_to, most_address, most_scans, dark_limit}
use Rattle.plant_types.specs.Reference.{is_discrete}
use Rattle.plant_types.specs.Sizes.{Sizes, has_reference}
use Rattle.plant_types.specs.Checks.{sizes_of, is_size, is_discrete_size}
use Rattle.plant_types.specs.FirstFault.{Test, tests_of_each, is_label, cell_tests, short_tests}
use Rattle.plant_types.specs.Standing.{cells_before, standing_of, standing_tests}

-- The most segments of a controller, networks of a segment, references of a panel, order rows,
-- power rows and drops.
abbrev pub segment_limit : ℕ
segment_limit = 32

abbrev pub network_limit : ℕ
network_limit = 1000

abbrev pub panel_limit : ℕ
panel_limit = 64

abbrev pub order_limit : ℕ
order_limit = 32

abbrev pub power_limit : ℕ
power_limit = 32

abbrev pub drop_limit : ℕ
drop_limit = 32

-- Tests of what stands at a place.
abbrev pub placed : Place → List (Test PlantFault) → List (Test (PlantFault × Place))
placed place tests = map (λ test. (test.0, (test.1, place))) tests

-- Where a network stands: the sizes of its controller, whether its segment is the last one, the
-- segments before its own, and the networks before it in its own.
pub record Site : Type 0 where
  pub sizes : Sizes
  pub is_last : Bool
  pub segments : List Segment
  pub networks : List Network

-- Fewer segments and networks than a controller and a segment can have.
pub record AreFew (earlier : List Segment) (beside : List Network) : Type 0 where
  pub segments : length earlier < segment_limit
  pub networks : length beside < network_limit

-- The place of a piece of a network that has a number in it.
abbrev pub piece_place : Site → ℕ → Place
piece_place site number =
    cell_place 1 (length site.segments + 1) (length site.networks + 1) number

-- The tests of a cell behind all cells before it.
abbrev pub site_cell_tests : Site → List Cell → Cell → List (Test PlantFault)
site_cell_tests site earlier cell =
    let before = cells_before site.segments site.networks in
    cell_tests site.sizes earlier cell
    ++ standing_tests (standing_of site.is_last (before ++ earlier) cell.element)

-- The tests of a cell, each with the place of the cell.
abbrev pub placed_cell_tests : Site → List Cell → Cell → List (Test (PlantFault × Place))
placed_cell_tests site earlier cell =
    placed (piece_place site (length earlier + 1)) (site_cell_tests site earlier cell)

-- The tests of a short at its place: shorts stand behind all cells of their network.
abbrev pub placed_short_tests : Site → ℕ → List Short → Short → List (Test (PlantFault × Place))
placed_short_tests site cells earlier short =
    placed (piece_place site (cells + length earlier + 1)) (short_tests earlier short)

-- The tests of the pieces of a network.
abbrev pub site_tests : Site → Network → List (Test (PlantFault × Place))
site_tests site network =
    tests_of_each (placed_cell_tests site) network.cells
    ++ tests_of_each (placed_short_tests site (length network.cells)) network.shorts

-- Where the networks of a segment stand, behind earlier segments and earlier networks.
abbrev pub site_in : ControllerPlan → List Segment → List Network → Site
site_in plan segments networks =
    record {
      sizes = sizes_of plan;
      is_last = length segments + 1 == length plan.segments;
      segments = segments;
      networks = networks;
    }

-- The tests of a network behind earlier segments and earlier networks.
abbrev pub site_tests_in : ControllerPlan → List Segment → List Network → Network
    → List (Test (PlantFault × Place))
site_tests_in plan segments networks network = site_tests (site_in plan segments networks) network

-- The tests of a segment: how many networks it has, then their pieces.
abbrev pub segment_tests : ControllerPlan → List Segment → Segment
    → List (Test (PlantFault × Place))
segment_tests plan earlier segment =
    placed (segment_place 1 (length earlier + 1))
    ((nat_le (length segment.networks) network_limit, TooLarge) ∷ [])
    ++ tests_of_each (site_tests_in plan earlier) segment.networks

-- A segment has a LAB.
abbrev pub has_label : Segment → Bool
has_label segment =
    list_any (λ network. list_any (λ cell. is_label cell.element) network.cells) segment.networks

-- The segment of a number is the one of the subroutines: the last, where it has a LAB.
abbrev pub is_subroutines : List Segment → ℕ → Bool
is_subroutines segments number =
    (number == length segments) && list_any has_label (drop (length segments - 1) segments)

-- A number counts one of the segments from 1.
abbrev pub is_segment : List Segment → ℕ → Bool
is_segment segments number = nat_le 1 number && nat_le number (length segments)

-- The drop that a row names, where it names one, is one of these.
abbrev pub has_drop : List IoDrop → Option ℕ → Bool
has_drop drops None = true
has_drop drops (Some number) = list_any (λ one. one.number == number) drops

-- The control of a row, where it has one, is a discrete of the map.
abbrev pub has_control : Sizes → Option Ref → Bool
has_control sizes None = true
has_control sizes (Some at) = is_discrete at.kind && has_reference sizes at

-- A row solves a segment that is not the one of the subroutines, and names drops that there are.
abbrev pub is_order : ControllerPlan → OrderRow → Bool
is_order plan row =
    (is_segment plan.segments row.segment && not (is_subroutines plan.segments row.segment))
    && (has_drop plan.drops row.input && has_drop plan.drops row.output)

-- The tests of an order row.
abbrev pub order_tests : ControllerPlan → List OrderRow → OrderRow
    → List (Test (PlantFault × Place))
order_tests plan earlier row =
    placed (order_place 1 (length earlier + 1))
    ((is_order plan row, BadOrder) ∷ (has_control (sizes_of plan) row.control, BadRef) ∷ [])

-- A power row's scan and its dark scans are in their ranges, and its row is 0 or an order row.
abbrev pub has_power_numbers : ControllerPlan → PowerRow → Bool
has_power_numbers plan row =
    (is_up_to most_scans row.scan && nat_le row.dark dark_limit)
    && nat_le row.row (length plan.orders)

-- A power row's scan is above the last dark scan of the row before, where there is one.
abbrev pub is_behind_dark : Option PowerRow → PowerRow → Bool
is_behind_dark None row = true
is_behind_dark (Some before) row = nat_lt (before.scan + before.dark) row.scan

-- The test of a power row behind those before it.
abbrev pub power_tests : ControllerPlan → List PowerRow → PowerRow
    → List (Test (PlantFault × Place))
power_tests plan earlier row =
    let before : Option PowerRow = slice_get earlier (length earlier - 1) in
    placed (power_place 1 (length earlier + 1))
    ((has_power_numbers plan row && is_behind_dark before row, BadPower) ∷ [])

-- The test of a panel reference.
abbrev pub panel_tests : Sizes → List Ref → Ref → List (Test (PlantFault × Place))
panel_tests sizes earlier at =
    placed (panel_place 1 (length earlier + 1)) ((has_reference sizes at, BadRef) ∷ [])

-- A controller has as many references of each kind as there can be.
abbrev pub are_sizes : Sizes → Bool
are_sizes sizes =
    (is_discrete_size sizes.coils && is_discrete_size sizes.inputs)
    && (is_size sizes.input_registers && is_size sizes.registers)

-- A controller has no more items than there can be.
abbrev pub has_few : ControllerPlan → Bool
has_few plan =
    (nat_le (length plan.panel) panel_limit && nat_le (length plan.drops) drop_limit)
    && (nat_le (length plan.segments) segment_limit
    && (nat_le (length plan.orders) order_limit && nat_le (length plan.power) power_limit))

-- The tests of a controller's table, key by key.
abbrev pub table_tests : ControllerPlan → List (Test PlantFault)
table_tests plan =
    (nat_le 1 plan.node && nat_le plan.node most_address, BadNode)
    ∷ (are_sizes (sizes_of plan), BadValue)
    ∷ (has_few plan, TooLarge)
    ∷ []

-- The tests of a controller but those of its drops: its table, its segments, its order rows, its
-- power rows and its panel.
abbrev pub controller_tests : ControllerPlan → List (Test (PlantFault × Place))
controller_tests plan =
    placed (controller_place 1) (table_tests plan)
    ++ (tests_of_each (segment_tests plan) plan.segments
    ++ (tests_of_each (order_tests plan) plan.orders
    ++ (tests_of_each (power_tests plan) plan.power
    ++ tests_of_each (panel_tests (sizes_of plan)) plan.panel)))
