-- The plant of the tests with two networks and a bridge. This project's own.
use Rattle.std.specs.Prelude.{[], ◌∷◌}
use Rattle.plant_types.specs.declared.net.BridgePlan.{BridgePlan}
use Rattle.plant_types.specs.declared.net.HostPlan.{HostPlan}
use Rattle.plant_types.specs.declared.net.NetPlan.{NetPlan}
use Rattle.plant_types.specs.declared.plan.ControllerPlan.{ControllerPlan}
use Rattle.plant_types.specs.declared.plan.Plant.{Plant}
use Rattle.judge_tests.specs.Plans.{asking_host, idle_controller, net_with}

-- The near network: node 2, and the left end of the bridge.
abbrev pub near_net : NetPlan
near_net = net_with 1 (2 ∷ 3 ∷ []) (3 ∷ [])

-- The far network: the right end of the bridge, and node 5.
abbrev pub far_net : NetPlan
far_net = net_with 2 (1 ∷ 5 ∷ []) (1 ∷ [])

-- A bridge from 3 on the one to 1 on the other.
abbrev pub bridge_plan : BridgePlan
bridge_plan = record { left_net = 1; left = 3; right_net = 2; right = 1 }

-- A controller of 16 registers on the far network, which solves nothing.
abbrev pub far_controller : ControllerPlan
far_controller = idle_controller 5 2 []

-- A host on the near network that asks for the first of them at once, over the bridge.
abbrev pub near_host : HostPlan
near_host = asking_host 1 (3 ∷ 5 ∷ [])

-- The plant.
abbrev pub bridged_plant : Plant
bridged_plant = record {
  scan_time = 10;
  watchdog = 500;
  nets = near_net ∷ far_net ∷ [];
  controllers = far_controller ∷ [];
  hosts = near_host ∷ [];
  bridges = bridge_plan ∷ [];
}
