-- The plant of the tests. This project's own.
use Rattle.std.specs.Prelude.{[], ◌∷◌}
use Rattle.plant_types.specs.declared.net.HostPlan.{HostPlan}
use Rattle.plant_types.specs.declared.net.NetPlan.{NetPlan}
use Rattle.plant_types.specs.declared.plan.ControllerPlan.{ControllerPlan}
use Rattle.plant_types.specs.declared.plan.Plant.{Plant}
use Rattle.judge_tests.specs.Plans.{asking_host, idle_controller, net_with}

-- A controller of 16 registers, which solves nothing, and whose power fails in its second scan.
abbrev pub controller_plan : ControllerPlan
controller_plan = idle_controller 1 0 (record { scan = 2; row = 0; dark = 0 } ∷ [])

-- A host that asks for the first of them at once.
abbrev pub host_plan : HostPlan
host_plan = asking_host 0 (1 ∷ [])

-- The network of the example.
abbrev pub net_plan : NetPlan
net_plan = net_with 0 (1 ∷ 2 ∷ []) []

-- The plant of the example.
abbrev pub example_plant : Plant
example_plant = record {
  scan_time = 10;
  watchdog = 500;
  nets = net_plan ∷ [];
  controllers = controller_plan ∷ [];
  hosts = host_plan ∷ [];
  bridges = [];
}
