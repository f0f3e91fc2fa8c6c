-- The plant of the tests can be judged.
use Rattle.std.proofs.Common.{◌≡◌, ℕ, ◌≤◌, [], ◌∷◌, ◌++◌, refl, arith}
use Rattle.std.specs.Prelude.{nat_eq}
use Rattle.std.specs.List.{Contains, IsDistinct}
use Rattle.std.proofs.lemmas.List.Sorted.{IsPermutation-refl}
use Rattle.plant_types.specs.FirstFault.{tests_behind}
use Rattle.plant_types.specs.Pairs.{no_two}
use Rattle.plant_types.specs.declared.net.HostPlan.{HostPlan}
use Rattle.plant_types.specs.declared.plan.ControllerPlan.{ControllerPlan}
use Rattle.plant_types.specs.Plans.{IsAskOf, IsHostPlan, IsNetOf, IsNetPlan, IsNode, PassesTests}
use Rattle.plant_types.specs.Plans.{controller_nodes, end_nodes, host_nodes, net_numbers}
use Rattle.controller_core.specs.Machine.{IsRunnable}
use Rattle.joint_history.specs.JointLaws.{fixed_of}
use Rattle.judge_tests.specs.Example.{controller_plan, example_plant, host_plan, net_plan}
use Rattle.judge_tests.proofs.Small.{all-one, all-two, from-to, is-node, none-rises, one-rises}
use Rattle.judge_tests.proofs.Small.{two-rise}
use Rattle.joint_law.specs.Spots.{CanBeJudged}

net-sound : IsNetPlan net_plan
net-sound = record {
  members = record {
    some = omega arith;
    each =
        all-two IsNode 1 2 (is-node 1 (omega arith) (omega arith))
        (is-node 2 (omega arith) (omega arith));
    rise = two-rise 1 2 (omega arith);
  };
  bridges = record { among = λ k d low. absurd (omega arith); rise = none-rises };
  fates = from-to 1 1000 1 (omega arith) (omega arith);
  numbers = record {
    number = omega arith;
    answer = from-to 2 1000 2 (omega arith) (omega arith);
    rotations = from-to 1 10 2 (omega arith) (omega arith);
    rounds = from-to 1 100 1 (omega arith) (omega arith);
    holds = from-to 1 100000 1000 (omega arith) (omega arith);
  };
}

host-sound : IsHostPlan host_plan
host-sound = record {
  node = is-node 2 (omega arith) (omega arith);
  few = omega arith;
  requests = all-one (IsAskOf host_plan) _ (record {
    hold = from-to 1 10000 1 (omega arith) (omega arith);
    route = record {
      some = omega arith;
      nodes = all-one IsNode 1 (is-node 1 (omega arith) (omega arith));
      other = λ same. (let one : ◌≡◌ {A = ℕ} 1 2 = cc in omega (arith, one));
      alone = λ _. refl;
    };
  });
}

controller-passes : PassesTests controller_plan
unfolding tests_behind
controller-passes = refl

controller-runs : (scans : ℕ) → 1 ≤ scans → scans ≤ 2000
    → IsRunnable (fixed_of example_plant scans controller_plan)
unfolding no_two
controller-runs scans from to = record {
  plan = record { passes = refl; messages = omega arith; count = omega arith; rows = tt };
  scan_time = omega arith;
  watchdog = omega arith;
  scans = omega arith;
}

net-on : IsNetOf example_plant net_plan
net-on = record {
  plan = net-sound;
  some = let some : 1 ≤ 2 = omega arith in some;
  members = IsPermutation-refl (1 ∷ 2 ∷ []);
  bridges = IsPermutation-refl [];
}

there : Contains (net_numbers example_plant) 0
there = (0, omega arith, refl)

each-once : IsDistinct nat_eq
    (controller_nodes example_plant ++ host_nodes example_plant ++ end_nodes example_plant)
unfolding IsDistinct
each-once = ((refl, tt), (tt, tt))

pub example-judged : (scans : ℕ) → 1 ≤ scans → scans ≤ 2000 → CanBeJudged example_plant scans
example-judged scans from to = record {
  sound = record {
    scan_time = from-to 1 1000 10 (omega arith) (omega arith);
    watchdog = from-to 1 10000 500 (omega arith) (omega arith);
    nets = all-one (IsNetOf example_plant) net_plan net-on;
    nets_rise = one-rises 0;
    count = from-to 1 16 1 (omega arith) (omega arith);
    controllers = all-one PassesTests controller_plan controller-passes;
    controllers_there =
        all-one (λ (plan : ControllerPlan). Contains (net_numbers example_plant) plan.network)
        controller_plan there;
    controllers_rise = one-rises 1;
    few = omega arith;
    hosts = all-one IsHostPlan host_plan host-sound;
    hosts_there = all-one (λ (plan : HostPlan). Contains (net_numbers example_plant) plan.network)
        host_plan there;
    hosts_rise = one-rises 2;
    few_bridges = omega arith;
    bridges = λ k d low. absurd (omega arith);
    bridges_rise = none-rises;
    once = each-once;
  };
  runs =
      all-one (λ plan. IsRunnable (fixed_of example_plant scans plan)) controller_plan
      (controller-runs scans from to);
}
