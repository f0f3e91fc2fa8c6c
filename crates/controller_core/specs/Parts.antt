-- What a controller is made of at its start. This project's own.
use Rattle.std.specs.Prelude.{◌≡◌, ◌≤◌, replicate}
use Rattle.std.specs.FinSet.{empty}
use Rattle.plant_types.specs.declared.plan.ControllerPlan.{ControllerPlan}
use Rattle.plant_types.specs.Checks.{sizes_of}
use Rattle.plant_types.specs.Plans.{is_routed}
use Rattle.plant_types.specs.Sizes.{cleared, discretes_of}
use Rattle.plant_types.specs.Standing.{message_limit}
use Rattle.ladder_solver.specs.GridCompile.{grids_of}
use Rattle.ladder_solver.specs.Numbers.{mstr_blocks}
use Rattle.mstr_block.specs.Table.{idle_table}
use Rattle.controller_core.specs.declared.parts.Parts.{Parts}
use Rattle.controller_core.specs.declared.parts.Solver.{Solver}
use Rattle.controller_core.specs.declared.parts.Stores.{Stores}

-- The ladder has the plan's networks, all its edge bits off, and each message block is idle.
pub record IsSolverOf (plan : ControllerPlan) (solver : Solver) : Type 0 where
  pub ladder : solver.ladder ≡ record { grids = grids_of plan.segments; edges = empty }
  pub bank : solver.bank ≡ idle_table plan.node (is_routed plan.network) (mstr_blocks plan.segments)
  pub few : mstr_blocks plan.segments ≤ message_limit

-- The stores have the plan's references, all of them 0.
pub record AreStoresOf (plan : ControllerPlan) (stores : Stores) : Type 0 where
  pub ram : stores.ram ≡ cleared (sizes_of plan)
  pub past : stores.past ≡ cleared (discretes_of (sizes_of plan))

-- The parts are those of the plan, and no drop had an exchange.
pub record ArePartsOf (plan : ControllerPlan) (parts : Parts) : Type 0 where
  pub solver : IsSolverOf plan parts.solver
  pub stores : AreStoresOf plan parts.stores
  pub cop : parts.cop ≡ plan.drops
  pub exchanges : parts.exchanges.items ≡ replicate 32 0
