-- Which plants can be wired. This project's own.
use Rattle.std.specs.Prelude.{◌≡◌, All, Ok}
use Rattle.plant_types.specs.declared.plan.Plant.{Plant}
use Rattle.plant_types.specs.FirstFault.{first_failed}
use Rattle.plant_types.specs.Plans.{IsPlant}
use Rattle.traffic_cop.specs.DropTests.{cop_tests}
use Rattle.peer_cop.specs.Plants.{CanBeWired}

-- Plants whose drops pass their tests can be wired.
abbrev pub TestedPlantsCanBeWired : Type 0
TestedPlantsCanBeWired =
    (plant : Plant) → IsPlant plant
    → All (λ plan. first_failed (cop_tests plan) ≡ Ok tt) plant.controllers → CanBeWired plant
