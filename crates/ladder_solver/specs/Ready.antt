-- What a solve of a plan finds while its store, its discretes and its MSTR blocks only change what
-- they hold. This project's own.
use Rattle.std.specs.Prelude.{◌≡◌, ◌≤◌, length}
use Rattle.plant_types.specs.declared.plan.ControllerPlan.{ControllerPlan}
use Rattle.plant_types.specs.Checks.{sizes_of}
use Rattle.plant_types.specs.Passing.{IsChecked}
use Rattle.plant_types.specs.Sizes.{cleared, discretes_of}
use Rattle.plant_types.specs.Store.{Contents, Keeps}
use Rattle.grid_compile.specs.Layout.{grids_of}
use Rattle.mstr_block.specs.Table.{BlockTable}
use Rattle.ladder_solver.specs.State.{LadderState}
use Rattle.ladder_solver.specs.Numbers.{mstr_count}

-- A plan that passes its tests, its ladder, and a store, the discretes as they were and a table of
-- blocks that each have at least what they had when they were made.
pub record IsReady (plan : ControllerPlan) (ladder : LadderState) (ram past : Contents)
    (bank : BlockTable) : Type 0 where
  pub checked : IsChecked plan
  pub laid : ladder.grids ≡ grids_of plan.segments
  pub stored : Keeps (cleared (sizes_of plan)) ram
  pub discretes : Keeps (cleared (discretes_of (sizes_of plan))) past
  pub ends : Keeps past ram
  pub blocks : mstr_count ladder.grids ≤ length bank.blocks
