-- The plant of the tests with two networks can be judged.
use Rattle.std.proofs.Common.{◌≡◌, ℕ, ◌<◌, ◌≤◌, [], ◌∷◌, ◌++◌, refl, arith}
use Rattle.std.specs.Prelude.{nat_eq}
use Rattle.std.specs.List.{Contains, IsDistinct}
use Rattle.std.proofs.lemmas.List.Sorted.{IsPermutation-append_comm, IsPermutation-refl}
use Rattle.plant_types.specs.FirstFault.{tests_behind}
use Rattle.plant_types.specs.Pairs.{no_two}
use Rattle.plant_types.specs.declared.net.HostPlan.{HostPlan}
use Rattle.plant_types.specs.declared.plan.ControllerPlan.{ControllerPlan}
use Rattle.plant_types.specs.Plans.{IsAskOf, IsBridgeOf, IsHostPlan, IsNetOf, IsNetPlan, IsNode}
use Rattle.plant_types.specs.Plans.{PassesTests, controller_nodes, end_nodes, host_nodes}
use Rattle.plant_types.specs.Plans.{net_numbers}
use Rattle.controller_core.specs.Machine.{IsRunnable}
use Rattle.joint_history.specs.JointLaws.{fixed_of}
use Rattle.judge_tests.specs.Bridged.{bridge_plan, bridged_plant, far_controller, far_net}
use Rattle.judge_tests.specs.Bridged.{near_host, near_net}
use Rattle.judge_tests.specs.Plans.{net_with}
use Rattle.judge_tests.proofs.Small.{all-one, all-two, from-to, is-node, one-rises, two-rise}
use Rattle.joint_law.specs.Spots.{CanBeJudged}

net-sound : (number first second end : ℕ) → number ≤ 8 → 1 ≤ first → first < second
    → second ≤ 64 → Contains (first ∷ second ∷ []) end
    → IsNetPlan (net_with number (first ∷ second ∷ []) (end ∷ []))
net-sound number first second end few some rise low among = record {
  members = record {
    some = omega arith;
    each =
        all-two IsNode first second (is-node first some (omega arith))
        (is-node second (omega arith) low);
    rise = two-rise first second rise;
  };
  bridges = record {
    among = all-one (Contains (first ∷ second ∷ [])) end among;
    rise = one-rises end;
  };
  fates = from-to 1 1000 1 (omega arith) (omega arith);
  numbers = record {
    number = few;
    answer = from-to 2 1000 2 (omega arith) (omega arith);
    rotations = from-to 1 10 2 (omega arith) (omega arith);
    rounds = from-to 1 100 1 (omega arith) (omega arith);
    holds = from-to 1 100000 1000 (omega arith) (omega arith);
  };
}

near-on : IsNetOf bridged_plant near_net
near-on = record {
  plan =
      net-sound 1 2 3 3 (omega arith) (omega arith) (omega arith) (omega arith)
      (1, omega arith, refl);
  some = let some : 1 ≤ 1 = omega arith in some;
  members = IsPermutation-refl (2 ∷ 3 ∷ []);
  bridges = IsPermutation-refl (3 ∷ []);
}

far-on : IsNetOf bridged_plant far_net
far-on = record {
  plan =
      net-sound 2 1 5 1 (omega arith) (omega arith) (omega arith) (omega arith)
      (0, omega arith, refl);
  some = let some : 1 ≤ 1 = omega arith in some;
  members = IsPermutation-append_comm (5 ∷ []) (1 ∷ []);
  bridges = IsPermutation-refl (1 ∷ []);
}

near-there : Contains (net_numbers bridged_plant) 1
near-there = (0, omega arith, refl)

far-there : Contains (net_numbers bridged_plant) 2
far-there = (1, omega arith, refl)

bridge-sound : IsBridgeOf bridged_plant bridge_plan
bridge-sound = record {
  plan = record {
    left_net = from-to 1 8 1 (omega arith) (omega arith);
    right_net = from-to 1 8 2 (omega arith) (omega arith);
    two_nets = λ same. (let one : ◌≡◌ {A = ℕ} 1 2 = same in omega (arith, one));
    left = is-node 3 (omega arith) (omega arith);
    right = is-node 1 (omega arith) (omega arith);
    two_ends = λ same. (let one : ◌≡◌ {A = ℕ} 3 1 = same in omega (arith, one));
  };
  left_there = near-there;
  right_there = far-there;
}

host-sound : IsHostPlan near_host
host-sound = record {
  node = is-node 2 (omega arith) (omega arith);
  few = omega arith;
  requests = all-one (IsAskOf near_host) _ (record {
    hold = from-to 1 10000 1 (omega arith) (omega arith);
    route = record {
      some = omega arith;
      nodes =
          all-two IsNode 3 5 (is-node 3 (omega arith) (omega arith))
          (is-node 5 (omega arith) (omega arith));
      other = λ same. (let one : ◌≡◌ {A = ℕ} 3 2 = cc in omega (arith, one));
      alone = λ no'. absurd (cc);
    };
  });
}

controller-passes : PassesTests far_controller
unfolding tests_behind
controller-passes = refl

controller-runs : IsRunnable (fixed_of bridged_plant 1 far_controller)
unfolding no_two
controller-runs = record {
  plan = record { passes = refl; messages = omega arith; count = omega arith; rows = tt };
  scan_time = omega arith;
  watchdog = omega arith;
  scans = omega arith;
}

each-once : IsDistinct nat_eq
    (controller_nodes bridged_plant ++ host_nodes bridged_plant ++ end_nodes bridged_plant)
unfolding IsDistinct
each-once = ((refl, (refl, (refl, tt))), ((refl, (refl, tt)), ((refl, tt), (tt, tt))))

pub bridged-judged : CanBeJudged bridged_plant 1
bridged-judged = record {
  sound = record {
    scan_time = from-to 1 1000 10 (omega arith) (omega arith);
    watchdog = from-to 1 10000 500 (omega arith) (omega arith);
    nets = all-two (IsNetOf bridged_plant) near_net far_net near-on far-on;
    nets_rise = two-rise 1 2 (omega arith);
    count = from-to 1 16 1 (omega arith) (omega arith);
    controllers = all-one PassesTests far_controller controller-passes;
    controllers_there =
        all-one (λ (plan : ControllerPlan). Contains (net_numbers bridged_plant) plan.network)
        far_controller far-there;
    controllers_rise = one-rises 5;
    few = omega arith;
    hosts = all-one IsHostPlan near_host host-sound;
    hosts_there = all-one (λ (plan : HostPlan). Contains (net_numbers bridged_plant) plan.network)
        near_host near-there;
    hosts_rise = one-rises 2;
    few_bridges = omega arith;
    bridges = all-one (IsBridgeOf bridged_plant) bridge_plan bridge-sound;
    bridges_rise = one-rises 3;
    once = each-once;
  };
  runs =
      all-one (λ plan. IsRunnable (fixed_of bridged_plant 1 plan)) far_controller
      controller-runs;
}
