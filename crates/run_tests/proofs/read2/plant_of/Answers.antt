use Rattle.std.proofs.Common.{◌≡◌, List, [], ◌∷◌, ◌++◌, length, map, refl, sym, ap, subst, ◌∙◌}
use Rattle.std.proofs.Common.{append-nil, arith}
use Rattle.std.specs.Prelude.{IsPermutation}
use Rattle.std.specs.List.{All, Contains}
use Rattle.std.specs.List.Sorted.{IsStrictlyIncreasing}
use Rattle.std.proofs.lemmas.List.{length-map}
use Rattle.std.proofs.lemmas.List.Elements.{All-nil, All-weaker}
use Rattle.std.proofs.lemmas.List.Sorted.{IsPermutation-refl}
use Rattle.plant_types.specs.declared.net.HostPlan.{HostPlan}
use Rattle.plant_types.specs.declared.net.NetPlan.{NetPlan}
use Rattle.plant_types.specs.declared.plan.ControllerPlan.{ControllerPlan}
use Rattle.plant_types.specs.declared.plan.Plant.{Plant}
use Rattle.plant_types.specs.Plans.{IsBridgeOf, IsHostPlan, IsNetPlan, IsPlant, PassesTests}
use Rattle.plant_types.specs.Plans.{controller_nodes, net_numbers}
use Rattle.run_tests.proofs.OneNet.{IsOnNet, net-of, on-a-net, stations-once}
use Rattle.run_tests.proofs.read2.plant_of.Goals as goal

module _ (net : NetPlan) (controllers : List ControllerPlan) (net_is : IsNetPlan net)
    (members : net.members ≡ 2 ∷ 5 ∷ []) (alone : net.number ≡ 0) (no_bridge : net.bridges ≡ [])
    (tests : All PassesTests controllers)
    (nodes : map (λ (p : ControllerPlan). p.node) controllers ≡ 2 ∷ 5 ∷ [])
    (there : All (λ (p : ControllerPlan). p.network ≡ 0) controllers) where
  abbrev plant : Plant
  plant = record {
    scan_time = 10;
    watchdog = 500;
    nets = net ∷ [];
    controllers = controllers;
    hosts = [];
    bridges = [];
  }

  two : length controllers ≡ 2
  two = sym (length-map controllers (λ (p : ControllerPlan). p.node)) ∙ ap length nodes

  on : IsOnNet plant net
  on = record {
    only = refl;
    no_bridges = refl;
    plan = net_is;
    no_bridge = no_bridge;
    controllers_there = subst (λ n. All (λ (p : ControllerPlan). p.network ≡ n) controllers)
        (sym alone) there;
    hosts_there = All-nil (λ (h : HostPlan). h.network ≡ net.number);
    members = subst (λ ns. IsPermutation ns net.members)
        (members ∙ sym nodes ∙ sym (append-nil (controller_nodes plant)))
        (IsPermutation-refl net.members);
  }

  sound : IsPlant plant
  sound =
      record {
        scan_time = record { from = omega arith; to = omega arith };
        watchdog = record { from = omega arith; to = omega arith };
        nets = net-of plant net on (omega (arith, two));
        nets_rise = λ k low. absurd (omega arith);
        count = record { from = omega (arith, two); to = omega (arith, two) };
        controllers = tests;
        controllers_there = All-weaker (λ (p : ControllerPlan). p.network ≡ net.number)
            (λ (p : ControllerPlan). Contains (net_numbers plant) p.network)
            (λ p. on-a-net plant net on p.network) controllers on.controllers_there;
        controllers_rise = subst IsStrictlyIncreasing (members ∙ sym nodes) net_is.members.rise;
        few = omega arith;
        hosts = All-nil IsHostPlan;
        hosts_there = All-nil (λ (h : HostPlan). Contains (net_numbers plant) h.network);
        hosts_rise = λ k low. absurd (omega arith);
        few_bridges = omega arith;
        bridges = All-nil (IsBridgeOf plant);
        bridges_rise = λ k low. absurd (omega arith);
        once = stations-once plant net on;
      }

pub returns : goal.returns
returns c =
    let net = c.args.net in
    let nets : c.push.new.self ≡ net ∷ [] = c.in_ok-push.ensures.ok
    ∙ ap (λ l. l ++ net ∷ []) c.new-nets.ensures in
    record {
      runs = record {
        sound = subst IsPlant (λ i. record {
          scan_time = 10;
          watchdog = 500;
          nets = sym nets i;
          controllers = c.args.controllers;
          hosts = sym c.new.ensures i;
          bridges = sym c.new-2.ensures i;
        }) (sound net c.args.controllers c.requires.net c.requires.members c.requires.alone
            c.requires.no_bridge c.requires.passes c.requires.nodes c.requires.there);
        controllers = c.requires.runs;
      };
    }
