-- Controllers that are alone. All of it is this project's own.
use Rattle.std.specs.Prelude.{◌==◌, Bool, ◌&&◌, not, length}
use Rattle.std.specs.List.{list_any}
use Rattle.plant_types.specs.declared.network.Cell.{Cell}
use Rattle.plant_types.specs.declared.plan.ControllerPlan.{ControllerPlan}
use Rattle.plant_types.specs.Standing.{cells_of_segments, is_message}

-- A cell is a message block.
abbrev pub calls : Cell → Bool
calls cell = is_message cell.element

-- A controller has no power rows and no message blocks.
abbrev pub is_alone : ControllerPlan → Bool
is_alone plan = (length plan.power == 0) && not (list_any calls (cells_of_segments plan.segments))
