-- The plans of controllers by their tables. This project's own.
use Rattle.std.specs.Prelude.{codes, ℕ, ◌≤◌, ◌==◌, Bool, not, List, [], length, Result, Ok}
use Rattle.std.specs.List.{list_any}
use Rattle.toml.specs.Data.{Members}
use Rattle.plant_types.specs.declared.reference.Ref.{Ref}
use Rattle.plant_types.specs.declared.network.Segment.{Segment}
use Rattle.plant_types.specs.declared.drops.IoDrop.{IoDrop}
use Rattle.plant_types.specs.declared.plan.ControllerPlan.{ControllerPlan}
use Rattle.plant_types.specs.declared.plan.OrderRow.{OrderRow}
use Rattle.plant_types.specs.declared.plan.PowerRow.{PowerRow}
use Rattle.plant_types.specs.declared.fault.PlantFault.TheVariants.{BadNode, BadNetwork}
use Rattle.plant_types.specs.declared.fault.Place.{Place}
use Rattle.plant_types.specs.Fault.{controller_place}
use Rattle.plant_types.specs.PlanTests.{panel_limit, drop_limit, segment_limit, order_limit}
use Rattle.plant_types.specs.PlanTests.{power_limit}
use Rattle.cell_text.specs.Steps.{◌>>=◌, or_fault, unless}
use Rattle.controller_tables.specs.declared.owner.Owner.{Owner}
use Rattle.plant_tables.specs.declared.net.NetTable.{NetTable}
use Rattle.plant_tables.specs.declared.tables.Version.{Version}
use Rattle.controller_tables.specs.declared.stations.Arrays.{Arrays as FoundArrays}
use Rattle.plant_tables.specs.Refusals.{Refusal}
use Rattle.plant_tables.specs.Given.{texts_in, tables_in}
use Rattle.plant_tables.specs.declared.tables.TableKind.TheVariants as kinds
use Rattle.plant_tables.specs.Tables.{table_passes}
use Rattle.plant_tables.specs.Keys.{address_at, texts_at, tables_at}
use Rattle.plant_tables.specs.InOrder.{with_positions, each_behind}
use Rattle.controller_tables.specs.Controller.{owner_from, sizes_at, panel_of}
use Rattle.plant_tables.specs.Net.{network_at}
use Rattle.controller_tables.specs.Drops.{drops_of}
use Rattle.controller_tables.specs.Pieces.{segments_of}
use Rattle.controller_tables.specs.Orders.{nameable, orders_of}
use Rattle.controller_tables.specs.Failures.{power_rows_of}

-- The arrays of a controller's table: the texts of its panel, of its orders and of its power rows,
-- and the tables of its drops and of its segments.
pub record Arrays : Type 0 where
  pub panel : List (List ℕ)
  pub drops : List Members
  pub segments : List Members
  pub orders : List (List ℕ)
  pub power : List (List ℕ)

abbrev pub arrays_from : List (List ℕ) → List Members → List Members → List (List ℕ)
    → List (List ℕ) → Arrays
arrays_from panel drops segments orders power = record {
  panel = panel;
  drops = drops;
  segments = segments;
  orders = orders;
  power = power;
}

-- What the arrays of a call stand for, and that they are as many as a controller has at most.
abbrev pub read_arrays : FoundArrays → Arrays
read_arrays found =
    arrays_from (texts_in found.panel.items) (tables_in found.drops.items)
    (tables_in found.segments.items) (texts_in found.orders.items) (texts_in found.power.items)

pub record HasFewItems (found : FoundArrays) : Type 0 where
  pub panel : length found.panel.items ≤ panel_limit
  pub drops : length found.drops.items ≤ drop_limit
  pub segments : length found.segments.items ≤ segment_limit
  pub orders : length found.orders.items ≤ order_limit
  pub power : length found.power.items ≤ power_limit

-- The arrays of a table.
unfoldable pub arrays_at : Place → Members → Result Arrays Refusal
arrays_at place ms = do
  panel ← texts_at place panel_limit (codes "panel") ms
  drops ← tables_at place drop_limit (codes "drop") ms
  segments ← tables_at place segment_limit (codes "segment") ms
  orders ← texts_at place order_limit (codes "orders") ms
  power ← texts_at place power_limit (codes "power") ms
  Ok (arrays_from panel drops segments orders power)

-- The plan of a controller from its parts.
abbrev pub plan_of : Owner → List Ref → List OrderRow → List PowerRow → List IoDrop
    → List Segment → ControllerPlan
plan_of owner panel orders power drops segments = record {
  node = owner.node;
  network = owner.network;
  coils = owner.sizes.coils;
  inputs = owner.sizes.inputs;
  input_registers = owner.sizes.input_registers;
  registers = owner.sizes.registers;
  panel = panel;
  orders = orders;
  power = power;
  drops = drops;
  segments = segments;
}

-- The plan of a controller of these arrays: its drops, its segments, its orders, its power rows and
-- its panel.
unfoldable pub parts_of : Owner → Arrays → Result ControllerPlan Refusal
parts_of owner arrays = do
  drops ← drops_of owner arrays.drops
  segments ← segments_of owner arrays.segments
  orders ← orders_of (nameable owner segments drops) arrays.orders
  power ← power_rows_of owner (length orders) arrays.power
  panel ← panel_of owner arrays.panel
  Ok (plan_of owner panel orders power drops segments)

-- One of these controllers has this node.
abbrev pub has_controller : List ControllerPlan → ℕ → Bool
has_controller plans node = list_any (λ plan. plan.node == node) plans

-- The controller of a table behind those before it: its table, then its node, which none before it
-- has, then its network, which is one of these, then its parts.
unfoldable pub controller_behind : Version → List NetTable → List ControllerPlan → ℕ × Members
    → Result ControllerPlan Refusal
controller_behind version nets earlier table = do
  place ← Ok (controller_place table.0)
  keys ← table_passes place (kinds.Controller version) table.1
  node ← address_at place table.1
  named ← network_at version nets place table.1
  sizes ← sizes_at place table.1
  arrays ← arrays_at place table.1
  fresh ← unless (not (has_controller earlier node)) (BadNode, place)
  network ← or_fault (BadNetwork, place) named
  parts_of (owner_from table.0 node network sizes) arrays

-- The controllers of a plant on these networks, in file order.
abbrev pub controllers_of : Version → List NetTable → List Members
    → Result (List ControllerPlan) Refusal
controllers_of version nets tables =
    each_behind (controller_behind version nets) [] (with_positions tables)
