-- What holds of a controller that is read. This project's own.
use Rattle.std.specs.Prelude.{◌≡◌, Ok}
use Rattle.plant_types.specs.declared.plan.ControllerPlan.{ControllerPlan}
use Rattle.plant_types.specs.FirstFault.{first_failed}
use Rattle.traffic_cop.specs.DropTests.{cop_tests}

-- The drops of a controller pass their tests.
abbrev pub PassesDropTests : ControllerPlan → Type 0
PassesDropTests plan = first_failed (cop_tests plan) ≡ Ok tt
