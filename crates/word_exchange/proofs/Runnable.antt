-- A plant whose drops have other scripts can be run as before, where the rows fit.
use Rattle.std.proofs.Common.{◌≡◌, ◌≤◌, ℕ, ◌+◌, ◌==◌, Bool, true, false, cond, List, []}
use Rattle.std.proofs.Common.{◌∷◌, ◌++◌, length, map, filter, Option, Some, None, refl, sym, ap}
use Rattle.std.proofs.Common.{subst, ◌∙◌}
use Rattle.std.specs.Prelude.{◌&&◌, ◌||◌, if◌then◌else◌, nat_eq, nat_le, not, option_map}
use Rattle.std.specs.Prelude.{IsPermutation, slice_get}
use Rattle.std.specs.List.{All, AllByRecursion, Contains, IsDistinct, list_any}
use Rattle.std.specs.List.Sorted.{IsStrictlyIncreasing}
use Rattle.std.proofs.lemmas.List.{length-map}
use Rattle.plant_types.specs.declared.drops.IoDrop.{IoDrop}
use Rattle.plant_types.specs.declared.drops.ScriptRow.{ScriptRow}
use Rattle.plant_types.specs.declared.fault.PlantFault.{PlantFault}
use Rattle.plant_types.specs.declared.fault.PlantFault.TheVariants.{BadNode, BadOrder, BadRef}
use Rattle.plant_types.specs.declared.fault.PlantFault.TheVariants.{BadValue, TooLarge}
use Rattle.plant_types.specs.declared.fault.Place.{Place}
use Rattle.plant_types.specs.declared.net.BridgePlan.{BridgePlan}
use Rattle.plant_types.specs.declared.net.NetPlan.{NetPlan}
use Rattle.plant_types.specs.declared.plan.ControllerPlan.{ControllerPlan}
use Rattle.plant_types.specs.declared.plan.OrderRow.{OrderRow}
use Rattle.plant_types.specs.declared.plan.Plant.{Plant}
use Rattle.plant_types.specs.Checks.{sizes_of}
use Rattle.plant_types.specs.Fault.{controller_place, order_place}
use Rattle.plant_types.specs.FirstFault.{Test, first_failed, tests_of_each}
use Rattle.plant_types.specs.Limits.{controller_limit, most_address}
use Rattle.plant_types.specs.Plans.{end_nodes, ends_on}
use Rattle.plant_types.specs.Plans.{host_nodes, hosts_on, net_numbers, IsBridgeOf, IsNetOf}
use Rattle.plant_types.specs.Plans.{IsPlant, PassesTests}
use Rattle.plant_types.specs.PlanTests.{are_sizes, controller_tests, drop_limit, has_control}
use Rattle.plant_types.specs.PlanTests.{has_drop, is_segment, is_subroutines, order_limit}
use Rattle.plant_types.specs.PlanTests.{panel_limit, panel_tests, placed, power_limit, power_tests}
use Rattle.plant_types.specs.PlanTests.{segment_limit, segment_tests}
use Rattle.plant_types.specs.Sizes.{cleared}
use Rattle.plant_types.specs.Store.{Contents}
use Rattle.traffic_cop.specs.Drops.{drop_named, CanExchange}
use Rattle.traffic_cop.specs.Exchange.{fits_row}
use Rattle.traffic_cop.specs.Rows.{FitsPlan, HasDrop, IsRunnablePlan, NamesDrop}
use Rattle.joint_history.specs.Runnable.{CanRunPlant}
use Rattle.serial_feed.proofs.SerialLemmas.{from-places, map-there}
use Rattle.serial_feed.proofs.SerialLemmas.{all-at}
use Rattle.peer_cop.proofs.PlantLemmas.{named_find}
use Rattle.word_exchange.specs.Feeding.{with_script}
use Rattle.word_exchange.specs.Scripts.{plan_by, plant_by}
use Rattle.word_exchange.proofs.Matching.{find-at}

-- ---- the drops of a plan

module _ (script : IoDrop → List ScriptRow) where
  abbrev scripted : IoDrop → IoDrop
  scripted d = with_script d (script d)

  any-same : (drops : List IoDrop) (k : ℕ)
      → list_any (λ (d : IoDrop). d.number == k) (map scripted drops)
      ≡ list_any (λ (d : IoDrop). d.number == k) drops
  any-same [] k = refl
  any-same (d ∷ drops) k = ap (λ (b : Bool). (d.number == k) || b) (any-same drops k)

  there-same : (drops : List IoDrop) (o : Option ℕ)
      → has_drop (map scripted drops) o ≡ has_drop drops o
  there-same drops None = refl
  there-same drops (Some k) = any-same drops k

  named-by : (b : Bool) (d : IoDrop) (one other : Option IoDrop)
      → one ≡ option_map scripted other
      → (if b then Some (scripted d) else one) ≡ option_map scripted (if b then Some d else other)
  named-by true d one other same = refl
  named-by false d one other same = same

  pub named-scripted : (drops : List IoDrop) (number : ℕ)
      → drop_named (map scripted drops) number ≡ option_map scripted (drop_named drops number)
  unfolding drop_named
  named-scripted [] number = refl
  named-scripted (d ∷ drops) number =
      named-by (d.number == number) d (drop_named (map scripted drops) number)
      (drop_named drops number) (named-scripted drops number)

-- ---- the tests of a plan

tests-same : (plan : ControllerPlan) (drops : List IoDrop) → length drops ≡ length plan.drops
    → ((o : Option ℕ) → has_drop drops o ≡ has_drop plan.drops o)
    → controller_tests (record plan { drops = drops }) ≡ controller_tests plan
tests-same plan drops long there = λ i.
    placed (controller_place 1)
    ((nat_le 1 plan.node && nat_le plan.node most_address, BadNode)
    ∷ (are_sizes (sizes_of plan), BadValue)
    ∷ (
      (nat_le (length plan.panel) panel_limit && nat_le (long i) drop_limit)
          && (nat_le (length plan.segments) segment_limit
          && (nat_le (length plan.orders) order_limit && nat_le (length plan.power) power_limit)),
      TooLarge,
    ) ∷ [])
    ++ (tests_of_each (segment_tests plan) plan.segments
    ++ (tests_of_each (λ (earlier : List OrderRow) (row : OrderRow).
    placed (order_place 1 (length earlier + 1))
    ((
      (is_segment plan.segments row.segment && not (is_subroutines plan.segments row.segment))
          && (there row.input i && there row.output i),
      BadOrder,
    )
    ∷ (has_control (sizes_of plan) row.control, BadRef) ∷ [])) plan.orders
    ++ (tests_of_each (power_tests plan) plan.power
    ++ tests_of_each (panel_tests (sizes_of plan)) plan.panel)))

-- ---- a plan that can be run

-- all rows of a script fit the modules of its drop
abbrev pub Fits : IoDrop → List ScriptRow → Type 0
Fits d rows = AllByRecursion (λ (row : ScriptRow). fits_row d.modules row ≡ true) rows

module _ (script : IoDrop → List ScriptRow) (plan : ControllerPlan)
    (fits : (j : ℕ) (d : IoDrop) → slice_get plan.drops j ≡ Some d → Fits d (script d)) where
  abbrev after_it : ControllerPlan
  after_it = record plan { drops = map (scripted script) plan.drops }

  can-exchange : (number : ℕ) (m : Contents) → CanExchange plan.drops number m
      → CanExchange after_it.drops number m
  can-exchange number m can =
      let found = can.found in
      let it = find-at (λ (d : IoDrop). d.number == number) plan.drops found
      (named_find plan.drops number ∙ can.named) in
      record {
        found = scripted script found;
        named = named-scripted script plan.drops number ∙ ap (option_map (scripted script)) can.named;
        fits = record {
          rows = fits it.0 found it.1;
          inputs = can.fits.inputs;
          outputs = can.fits.outputs;
        };
        room = can.room;
      }

  has-drop : (number : ℕ) → HasDrop plan number → HasDrop after_it number
  has-drop number has = record {
    from = has.from;
    to = has.to;
    ready = can-exchange number (cleared (sizes_of plan)) has.ready;
  }

  names-drop : (named : Option ℕ) → NamesDrop plan named → NamesDrop after_it named
  names-drop None has = tt
  names-drop (Some number) has = has-drop number has

  orders-fit : (orders : List OrderRow) → AllByRecursion (FitsPlan plan) orders
      → AllByRecursion (FitsPlan after_it) orders
  orders-fit [] all = tt
  orders-fit (order ∷ orders) all = (
    record {
      from = all.0.from;
      to = all.0.to;
      control = all.0.control;
      input = names-drop order.input all.0.input;
      output = names-drop order.output all.0.output;
    },
    orders-fit orders all.1,
  )

  runs-scripted : IsRunnablePlan plan → IsRunnablePlan after_it
  runs-scripted runs = record {
    passes = runs.passes;
    messages = runs.messages;
    count = runs.count;
    rows = orders-fit plan.orders runs.rows;
  }

-- ---- the plans of a plant

module _ (rule : ControllerPlan → IoDrop → List ScriptRow) where
  abbrev as_by : ControllerPlan → ControllerPlan
  as_by plan = plan_by rule plan

  passes-by : (plan : ControllerPlan) → PassesTests plan → PassesTests (as_by plan)
  passes-by plan passes =
      ap (λ (tests : List (Test (PlantFault × Place))). first_failed tests)
      (tests-same plan (as_by plan).drops (length-map plan.drops (scripted (rule plan)))
      (there-same (rule plan) plan.drops))
      ∙ passes

  all-by : (P Q : ControllerPlan → Type 0) (plans : List ControllerPlan)
      → ((k : ℕ) (plan : ControllerPlan) → slice_get plans k ≡ Some plan → P plan
      → Q (as_by plan)) → All P plans → All Q (map as_by plans)
  all-by P Q plans each all = from-places Q (map as_by plans) (λ k y is.
      let from = map-there as_by plans k y is in
      subst Q from.2 (each k from.0 from.1 (all-at P plans k from.0 all from.1)))

  nodes-by : (plans : List ControllerPlan)
      → map (λ (plan : ControllerPlan). plan.node) (map as_by plans)
      ≡ map (λ (plan : ControllerPlan). plan.node) plans
  nodes-by [] = refl
  nodes-by (plan ∷ plans) = λ i. plan.node ∷ nodes-by plans i

  abbrev on_net : ℕ → List ControllerPlan → List ControllerPlan
  on_net network plans = filter (λ (plan : ControllerPlan). plan.network == network) plans

  abbrev node_of : ControllerPlan → ℕ
  node_of plan = plan.node

  on-step : (network : ℕ) (plan : ControllerPlan) (plans : List ControllerPlan) (b : Bool)
      → map node_of (on_net network (map as_by plans)) ≡ map node_of (on_net network plans)
      → map node_of (cond b (as_by plan ∷ on_net network (map as_by plans))
      (on_net network (map as_by plans)))
      ≡ map node_of (cond b (plan ∷ on_net network plans) (on_net network plans))
  on-step network plan plans true more = ap (λ (l : List ℕ). plan.node ∷ l) more
  on-step network plan plans false more = more

  on-by : (network : ℕ) (plans : List ControllerPlan)
      → map node_of (on_net network (map as_by plans)) ≡ map node_of (on_net network plans)
  on-by network [] = refl
  on-by network (plan ∷ plans) =
      on-step network plan plans (plan.network == network) (on-by network plans)

  module _ (plant : Plant) where
    abbrev p : Plant
    p = plant_by rule plant

    net-by : (net : NetPlan) → IsNetOf plant net → IsNetOf p net
    net-by net is =
        let same = on-by net.number plant.controllers in
        record {
          plan = is.plan;
          some = subst (λ (l : List ℕ). 1 ≤ length (l ++ hosts_on plant net.number)) (sym same)
              is.some;
          members = subst (λ (l : List ℕ). IsPermutation (l ++ hosts_on plant net.number
              ++ ends_on plant net.number) net.members) (sym same) is.members;
          bridges = is.bridges;
        }

    bridge-by : (bridge : BridgePlan) → IsBridgeOf plant bridge → IsBridgeOf p bridge
    bridge-by bridge is = record
        { plan = is.plan; left_there = is.left_there; right_there = is.right_there }

    abbrev IsOn : ControllerPlan → Type 0
    IsOn plan = Contains (net_numbers plant) plan.network

    sound-by : IsPlant plant → IsPlant p
    sound-by s =
        let nodes = nodes-by plant.controllers in
        let long = length-map plant.controllers as_by in
        record {
          scan_time = s.scan_time;
          watchdog = s.watchdog;
          nets = from-places (IsNetOf p) plant.nets (λ k net is.
              net-by net (all-at (IsNetOf plant) plant.nets k net s.nets is));
          nets_rise = s.nets_rise;
          count = record {
            from = subst (λ n. 1 ≤ n) (sym long) s.count.from;
            to = subst (λ n. n ≤ controller_limit) (sym long) s.count.to;
          };
          controllers = all-by PassesTests PassesTests plant.controllers
              (λ k plan there. passes-by plan) s.controllers;
          controllers_there = all-by IsOn IsOn plant.controllers (λ k plan there is. is)
              s.controllers_there;
          controllers_rise = subst IsStrictlyIncreasing (sym nodes) s.controllers_rise;
          few = s.few;
          hosts = s.hosts;
          hosts_there = s.hosts_there;
          hosts_rise = s.hosts_rise;
          few_bridges = s.few_bridges;
          bridges = from-places (IsBridgeOf p) plant.bridges (λ k bridge is.
              bridge-by bridge (all-at (IsBridgeOf plant) plant.bridges k bridge s.bridges is));
          bridges_rise = s.bridges_rise;
          once = subst (λ (l : List ℕ). IsDistinct nat_eq (l ++ host_nodes plant
              ++ end_nodes plant)) (sym nodes) s.once;
        }

    pub can-by : CanRunPlant plant
        → ((k : ℕ) (plan : ControllerPlan) → slice_get plant.controllers k ≡ Some plan → (j : ℕ)
        (d : IoDrop) → slice_get plan.drops j ≡ Some d → Fits d (rule plan d)) → CanRunPlant p
    can-by can fits = record {
      sound = sound-by can.sound;
      controllers = all-by IsRunnablePlan IsRunnablePlan plant.controllers
          (λ k plan there runs. runs-scripted (rule plan) plan (fits k plan there) runs)
          can.controllers;
    }
