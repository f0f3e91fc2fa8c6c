-- Which plants can be run. This project's own.
use Rattle.std.specs.List.{All}
use Rattle.plant_types.specs.declared.plan.Plant.{Plant}
use Rattle.plant_types.specs.Plans.{IsPlant}
use Rattle.controller_core.specs.TrafficCop.{IsRunnablePlan}

-- A plant that can be run: its parts fit each other, and so does each controller's program.
pub record CanRunPlant (plant : Plant) : Type 0 where
  pub sound : IsPlant plant
  pub controllers : All IsRunnablePlan plant.controllers
