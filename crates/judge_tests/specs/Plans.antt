-- What the plants of the tests are made of. This project's own.
use Rattle.std.specs.Prelude.{ℕ, List, [], ◌∷◌}
use Rattle.plant_types.specs.declared.net.Fate.TheVariants.{D}
use Rattle.plant_types.specs.declared.net.HostPlan.{HostPlan}
use Rattle.plant_types.specs.declared.net.NetPlan.{NetPlan}
use Rattle.plant_types.specs.declared.plan.ControllerPlan.{ControllerPlan}
use Rattle.plant_types.specs.declared.plan.PowerRow.{PowerRow}

-- A network of these members, of which those are ends of bridges.
abbrev pub net_with : ℕ → List ℕ → List ℕ → NetPlan
net_with number members bridges = record {
  number = number;
  members = members;
  bridges = bridges;
  fates = D ∷ [];
  answer = 2;
  rotations = 2;
  rounds = 1;
  holds = 1000;
}

-- A controller of 16 registers, which solves nothing, and whose power fails so.
abbrev pub idle_controller : ℕ → ℕ → List PowerRow → ControllerPlan
idle_controller node network power = record {
  node = node;
  network = network;
  coils = 16;
  inputs = 0;
  input_registers = 0;
  registers = 16;
  panel = [];
  orders = [];
  power = power;
  drops = [];
  segments = [];
}

-- Host 2 on a network, which asks for a register by a route at once.
abbrev pub asking_host : ℕ → List ℕ → HostPlan
asking_host network route = record {
  node = 2;
  network = network;
  requests = record { hold = 1; route = route; pdu = 3 ∷ 0 ∷ 0 ∷ 0 ∷ 1 ∷ [] } ∷ [];
}
