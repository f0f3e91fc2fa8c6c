-- A plant of two networks that a bridge joins, with a controller on each.
use Rattle.std.proofs.Common.{ℕ, ◌<◌, ◌≤◌, zero, suc, [], ◌∷◌, refl, arith}
use Rattle.std.specs.Prelude.{Contains, nat_eq}
use Rattle.std.specs.List.{IsDistinct}
use Rattle.std.specs.List.Sorted.{IsStrictlyIncreasing}
use Rattle.std.proofs.lemmas.List.Elements.{All-from_recursion}
use Rattle.std.proofs.lemmas.List.Sorted.{IsPermutation-refl}
use Rattle.plant_types.specs.declared.net.Fate.TheVariants.{D}
use Rattle.plant_types.specs.declared.net.NetPlan.{NetPlan}
use Rattle.plant_types.specs.declared.net.BridgePlan.{BridgePlan}
use Rattle.plant_types.specs.declared.net.HostPlan.{HostPlan}
use Rattle.plant_types.specs.declared.plan.ControllerPlan.{ControllerPlan}
use Rattle.plant_types.specs.declared.plan.Plant.{Plant}
use Rattle.plant_types.specs.Plans.{IsBridgeOf, IsHostPlan, IsNetOf, IsNetPlan, IsNode}
use Rattle.plant_types.specs.Plans.{net_numbers, IsPlant, PassesTests}
use Rattle.plant_types.specs.FirstFault.{tests_behind}

-- a controller, by its address and its network
abbrev controller : ℕ → ℕ → ControllerPlan
controller node network = record {
  node = node;
  network = network;
  coils = 16;
  inputs = 16;
  input_registers = 1;
  registers = 1;
  panel = [];
  orders = [];
  power = [];
  drops = [];
  segments = [];
}

-- a network, by its number, the address of its controller and that of the bridge's end
abbrev net : ℕ → ℕ → ℕ → NetPlan
net number node end' = record {
  number = number;
  members = node ∷ end' ∷ [];
  bridges = end' ∷ [];
  fates = D ∷ [];
  answer = 2;
  rotations = 1;
  rounds = 1;
  holds = 9;
}

abbrev bridge : BridgePlan
bridge = record { left_net = 1; left = 9; right_net = 2; right = 12 }

abbrev plant : Plant
plant = record {
  scan_time = 10;
  watchdog = 1;
  nets = net 1 2 9 ∷ net 2 5 12 ∷ [];
  controllers = controller 2 1 ∷ controller 5 2 ∷ [];
  hosts = [];
  bridges = bridge ∷ [];
}

-- lists of no number, of one, and of two that rise
pub none-rise : IsStrictlyIncreasing []
none-rise k within = absurd (omega (arith, within))

pub one-rises : (n : ℕ) → IsStrictlyIncreasing (n ∷ [])
one-rises n k within = absurd (omega (arith, within))

pub two-rise : (m n : ℕ) → m < n → IsStrictlyIncreasing (m ∷ n ∷ [])
two-rise m n less zero within = less
two-rise m n less (suc k) within = absurd (omega (arith, within))

is-net : (number node end' : ℕ) → number ≤ 8 → IsNode node → IsNode end' → node < end'
    → IsNetPlan (net number node end')
is-net number node end' few one two less = record {
  members = record {
    some = omega arith;
    each = All-from_recursion IsNode (node ∷ end' ∷ []) (one, (two, tt));
    rise = two-rise node end' less;
  };
  bridges = record {
    among = All-from_recursion (Contains (node ∷ end' ∷ [])) (end' ∷ [])
        ((1, omega arith, refl), tt);
    rise = one-rises end';
  };
  fates = record { from = omega arith; to = omega arith };
  numbers = record {
    number = few;
    answer = record { from = omega arith; to = omega arith };
    rotations = record { from = omega arith; to = omega arith };
    rounds = record { from = omega arith; to = omega arith };
    holds = record { from = omega arith; to = omega arith };
  };
}

pub node-from : (n : ℕ) → 1 ≤ n → n ≤ 64 → IsNode n
node-from n low high = record { from = low; to = high }

left-net : IsNetOf plant (net 1 2 9)
left-net = record {
  plan = is-net 1 2 9 (omega arith) (node-from 2 (omega arith) (omega arith))
      (node-from 9 (omega arith) (omega arith)) (omega arith);
  some = omega arith;
  members = IsPermutation-refl (2 ∷ 9 ∷ []);
  bridges = IsPermutation-refl (9 ∷ []);
}

right-net : IsNetOf plant (net 2 5 12)
right-net = record {
  plan = is-net 2 5 12 (omega arith) (node-from 5 (omega arith) (omega arith))
      (node-from 12 (omega arith) (omega arith)) (omega arith);
  some = omega arith;
  members = IsPermutation-refl (5 ∷ 12 ∷ []);
  bridges = IsPermutation-refl (12 ∷ []);
}

first-there : Contains (net_numbers plant) 1
first-there = (0, omega arith, refl)

second-there : Contains (net_numbers plant) 2
second-there = (1, omega arith, refl)

is-bridge : IsBridgeOf plant bridge
is-bridge = record {
  plan = record {
    left_net = record { from = omega arith; to = omega arith };
    right_net = record { from = omega arith; to = omega arith };
    two_nets = λ same. omega (arith, same);
    left = node-from 9 (omega arith) (omega arith);
    right = node-from 12 (omega arith) (omega arith);
    two_ends = λ same. omega (arith, same);
  };
  left_there = first-there;
  right_there = second-there;
}

differ : IsDistinct nat_eq (2 ∷ 5 ∷ 9 ∷ 12 ∷ [])
unfolding IsDistinct
differ =
    ((refl, (refl, (refl, tt))), ((refl, (refl, tt)), ((refl, tt), (tt, tt))))

left-passes : PassesTests (controller 2 1)
unfolding tests_behind
left-passes = refl

right-passes : PassesTests (controller 5 2)
unfolding tests_behind
right-passes = refl

-- it is a plant
is-plant : IsPlant plant
is-plant = record {
  scan_time = record { from = omega arith; to = omega arith };
  watchdog = record { from = omega arith; to = omega arith };
  nets = All-from_recursion (IsNetOf plant) plant.nets (left-net, (right-net, tt));
  nets_rise = two-rise 1 2 (omega arith);
  count = record { from = omega arith; to = omega arith };
  controllers = All-from_recursion PassesTests plant.controllers (left-passes, (right-passes, tt));
  controllers_there = All-from_recursion
      (λ (p : ControllerPlan). Contains (net_numbers plant) p.network) plant.controllers
      (first-there, (second-there, tt));
  controllers_rise = two-rise 2 5 (omega arith);
  few = omega arith;
  hosts = All-from_recursion IsHostPlan [] tt;
  hosts_there = All-from_recursion (λ (h : HostPlan). Contains (net_numbers plant) h.network)
      [] tt;
  hosts_rise = none-rise;
  few_bridges = omega arith;
  bridges = All-from_recursion (IsBridgeOf plant) plant.bridges (is-bridge, tt);
  bridges_rise = one-rises 9;
  once = differ;
}
