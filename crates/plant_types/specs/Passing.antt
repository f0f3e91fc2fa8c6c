-- What a controller has that passes its tests: this project's own.
use Rattle.std.specs.Prelude.{◌≡◌, ◌↔◌, ◌≤◌, Bool, true, false, not, ◌&&◌, List, Some, Ok}
use Rattle.std.specs.List.{list_all}
use Rattle.plant_types.specs.declared.element.Element.{Element}
use Rattle.plant_types.specs.declared.element.Element.TheVariants.{Label}
use Rattle.plant_types.specs.declared.network.Cell.{Cell}
use Rattle.plant_types.specs.declared.plan.OrderRow.{OrderRow}
use Rattle.plant_types.specs.declared.plan.PowerRow.{PowerRow}
use Rattle.plant_types.specs.declared.plan.ControllerPlan.{ControllerPlan}
use Rattle.plant_types.specs.Pairs.{no_two}
use Rattle.plant_types.specs.Checks.{sizes_of, passes_check}
use Rattle.plant_types.specs.FirstFault.{first_failed}
use Rattle.plant_types.specs.Standing.{cells_of_segments, is_label_of, message_count, message_limit}
use Rattle.plant_types.specs.PlanTests.{has_few, is_order, has_control, has_power_numbers}
use Rattle.plant_types.specs.PlanTests.{is_behind_dark, controller_tests}

-- Each test of a controller holds, but those of its drops.
abbrev pub passes_tests : ControllerPlan → Bool
passes_tests plan = list_all (λ test. test.0) (controller_tests plan)

-- Two elements are LABs of one number.
abbrev pub same_label : Element → Element → Bool
same_label (Label number) other = is_label_of number other
same_label _ other = false

-- No two of these cells are LABs of one number.
abbrev pub are_labelled_once : List Cell → Bool
are_labelled_once cells = no_two (λ one other. same_label one.element other.element) cells

-- An order row solves a segment, names drops that there are, and has a control of the map.
abbrev pub row_passes : ControllerPlan → OrderRow → Bool
row_passes plan row = is_order plan row && has_control (sizes_of plan) row.control

-- Each power row's scan is above the last dark scan of every row before it.
abbrev pub are_behind_dark : List PowerRow → Bool
are_behind_dark rows = no_two (λ row before. not (is_behind_dark (Some before) row)) rows

-- What follows where each test holds: the plan can be solved and shown; it has no more items than
-- there can be; each LAB has its own number; there are at most 64 messages; its order rows pass;
-- the numbers of its power rows are in their ranges, and no two failures meet.
pub record IsChecked (plan : ControllerPlan) : Type 0 where
  pub passes : passes_check plan ≡ true
  pub few : has_few plan ≡ true
  pub labels : are_labelled_once (cells_of_segments plan.segments) ≡ true
  pub messages : message_count (cells_of_segments plan.segments) ≤ message_limit
  pub orders : list_all (row_passes plan) plan.orders ≡ true
  pub power : list_all (has_power_numbers plan) plan.power ≡ true
  pub behind : are_behind_dark plan.power ≡ true

-- A check finds no fault exactly where each test holds; and what then follows.
pub record ChecksAreExact : Type 0 where
  pub exact :
      (plan : ControllerPlan) → (first_failed (controller_tests plan) ≡ Ok tt)
      ↔ (passes_tests plan ≡ true)
  pub checked : (plan : ControllerPlan) → passes_tests plan ≡ true → IsChecked plan
