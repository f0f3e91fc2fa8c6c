-- What the rows of an order of solve name, and which plans can be run. This project's own.
use Rattle.std.specs.Prelude.{◌≡◌, ◌≤◌, ℕ, true, length, Option, Some, None}
use Rattle.std.specs.List.{AllByRecursion}
use Rattle.plant_types.specs.declared.reference.Ref.{Ref}
use Rattle.plant_types.specs.declared.plan.OrderRow.{OrderRow}
use Rattle.plant_types.specs.declared.plan.ControllerPlan.{ControllerPlan}
use Rattle.plant_types.specs.Checks.{passes_check, sizes_of}
use Rattle.plant_types.specs.PlanTests.{drop_limit, order_limit}
use Rattle.plant_types.specs.Sizes.{cleared}
use Rattle.plant_types.specs.Standing.{cells_of_segments, message_count, message_limit}
use Rattle.plant_types.specs.Store.{Contents, HasDiscrete}
use Rattle.traffic_cop.specs.Drops.{CanExchange}

-- A control is a discrete of the store; a row may have none.
abbrev pub HasControl : Contents → Option Ref → Type 0
HasControl m None = Unit {0}
HasControl m (Some at) = HasDiscrete m at

-- A drop of the plan has a number from 1 to 32, and its modules are in the map.
pub record HasDrop (plan : ControllerPlan) (number : ℕ) : Type 0 where
  pub from : 1 ≤ number
  pub to : number ≤ drop_limit
  pub ready : CanExchange plan.drops number (cleared (sizes_of plan))

abbrev pub NamesDrop : ControllerPlan → Option ℕ → Type 0
NamesDrop plan None = Unit {0}
NamesDrop plan (Some number) = HasDrop plan number

-- A row of the order of solve names a segment of the plan, a control of its map, and drops of it.
pub record FitsPlan (plan : ControllerPlan) (row : OrderRow) : Type 0 where
  pub from : 1 ≤ row.segment
  pub to : row.segment ≤ length plan.segments
  pub control : HasControl (cleared (sizes_of plan)) row.control
  pub input : NamesDrop plan row.input
  pub output : NamesDrop plan row.output

-- A plan that can be run: it passes its tests, has no more messages than a controller can have, and
-- its order of solve has few rows, and each fits the plan and its drops.
pub record IsRunnablePlan (plan : ControllerPlan) : Type 0 where
  pub passes : passes_check plan ≡ true
  pub messages : message_count (cells_of_segments plan.segments) ≤ message_limit
  pub count : length plan.orders ≤ order_limit
  pub rows : AllByRecursion (FitsPlan plan) plan.orders
