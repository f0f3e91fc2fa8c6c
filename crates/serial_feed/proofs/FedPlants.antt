-- A plant that is given a row can be run as before.
use Rattle.std.proofs.Common.{◌≡◌, ℕ, ◌+◌, ◌≤◌, ◌==◌, Bool, true, false, cond, List, [], ◌∷◌, ◌++◌}
use Rattle.std.proofs.Common.{length, map, filter, Option, Some, None, refl, sym, ap, subst, ◌∙◌}
use Rattle.std.specs.Prelude.{◌&&◌, ◌||◌, if◌then◌else◌, nat_eq, nat_le, not, suc}
use Rattle.std.specs.List.{All, Contains, IsDistinct, list_any}
use Rattle.std.specs.List.Sorted.{IsStrictlyIncreasing}
use Rattle.std.proofs.lemmas.List.{length-map}
use Rattle.plant_types.specs.declared.drops.IoDrop.{IoDrop}
use Rattle.plant_types.specs.declared.drops.ScriptRow.{ScriptRow}
use Rattle.plant_types.specs.declared.fault.PlantFault.{PlantFault}
use Rattle.plant_types.specs.declared.fault.PlantFault.TheVariants.{BadNode, BadOrder, BadRef}
use Rattle.plant_types.specs.declared.fault.PlantFault.TheVariants.{BadValue, TooLarge}
use Rattle.plant_types.specs.declared.fault.Place.{Place}
use Rattle.plant_types.specs.declared.net.BridgePlan.{BridgePlan}
use Rattle.plant_types.specs.declared.net.NetPlan.{NetPlan}
use Rattle.plant_types.specs.declared.plan.ControllerPlan.{ControllerPlan}
use Rattle.plant_types.specs.declared.plan.OrderRow.{OrderRow}
use Rattle.plant_types.specs.declared.plan.Plant.{Plant}
use Rattle.plant_types.specs.Checks.{sizes_of}
use Rattle.plant_types.specs.Fault.{controller_place, order_place}
use Rattle.plant_types.specs.FirstFault.{Test, first_failed, tests_of_each}
use Rattle.plant_types.specs.Limits.{controller_limit, most_address}
use Rattle.plant_types.specs.Plans.{end_nodes, ends_on}
use Rattle.plant_types.specs.Plans.{host_nodes, hosts_on, net_numbers, IsBridgeOf, IsNetOf}
use Rattle.plant_types.specs.Plans.{IsPlant, PassesTests}
use Rattle.plant_types.specs.PlanTests.{are_sizes, controller_tests, drop_limit, has_control}
use Rattle.plant_types.specs.PlanTests.{has_drop, is_segment, is_subroutines, order_limit}
use Rattle.plant_types.specs.PlanTests.{panel_limit, panel_tests, placed, power_limit, power_tests}
use Rattle.plant_types.specs.PlanTests.{segment_limit, segment_tests}
use Rattle.std.specs.Prelude.{IsPermutation}
use Rattle.traffic_cop.specs.Feeding.{row_fed, with_row as with_last_row}
use Rattle.serial_run.proofs.Lists.{from-places, map-there}
use Rattle.serial_run.proofs.Repeats.{all-at}
use Rattle.serial_feed.specs.Feeding.{plan_with, plant_fed}

-- ---- the drops of a plan

long-step : (d : IoDrop) (drops : List IoDrop) (number : ℕ) (row : ScriptRow) (b : Bool)
    → length (row_fed drops number row) ≡ length drops
    → length (if b then with_last_row d row ∷ drops else d ∷ row_fed drops number row)
    ≡ length (d ∷ drops)
long-step d drops number row true more = refl
long-step d drops number row false more = ap suc more

long-fed : (drops : List IoDrop) (number : ℕ) (row : ScriptRow)
    → length (row_fed drops number row) ≡ length drops
unfolding row_fed
long-fed [] number row = refl
long-fed (d ∷ drops) number row =
    long-step d drops number row (d.number == number) (long-fed drops number row)

any-step : (d : IoDrop) (drops : List IoDrop) (number k : ℕ) (row : ScriptRow) (b : Bool)
    → list_any (λ (one : IoDrop). one.number == k) (row_fed drops number row)
    ≡ list_any (λ (one : IoDrop). one.number == k) drops
    → list_any (λ (one : IoDrop). one.number == k)
    (if b then with_last_row d row ∷ drops else d ∷ row_fed drops number row)
    ≡ list_any (λ (one : IoDrop). one.number == k) (d ∷ drops)
any-step d drops number k row true more = refl
any-step d drops number k row false more = ap (λ (x : Bool). (d.number == k) || x) more

any-fed : (drops : List IoDrop) (number k : ℕ) (row : ScriptRow)
    → list_any (λ (one : IoDrop). one.number == k) (row_fed drops number row)
    ≡ list_any (λ (one : IoDrop). one.number == k) drops
unfolding row_fed
any-fed [] number k row = refl
any-fed (d ∷ drops) number k row =
    any-step d drops number k row (d.number == number) (any-fed drops number k row)

abbrev drops_if : Bool → List IoDrop → ℕ → ScriptRow → List IoDrop
drops_if b drops number row = if b then row_fed drops number row else drops

long-if : (b : Bool) (drops : List IoDrop) (number : ℕ) (row : ScriptRow)
    → length (drops_if b drops number row) ≡ length drops
long-if true drops number row = long-fed drops number row
long-if false drops number row = refl

there-if : (b : Bool) (drops : List IoDrop) (number : ℕ) (row : ScriptRow) (o : Option ℕ)
    → has_drop (drops_if b drops number row) o ≡ has_drop drops o
there-if true drops number row None = refl
there-if true drops number row (Some k) = any-fed drops number k row
there-if false drops number row None = refl
there-if false drops number row (Some k) = refl

-- ---- the tests of a plan

tests-same : (plan : ControllerPlan) (drops : List IoDrop) → length drops ≡ length plan.drops
    → ((o : Option ℕ) → has_drop drops o ≡ has_drop plan.drops o)
    → controller_tests (record plan { drops = drops }) ≡ controller_tests plan
tests-same plan drops long there = λ i.
    placed (controller_place 1)
    ((nat_le 1 plan.node && nat_le plan.node most_address, BadNode)
    ∷ (are_sizes (sizes_of plan), BadValue)
    ∷ (
      (nat_le (length plan.panel) panel_limit && nat_le (long i) drop_limit)
          && (nat_le (length plan.segments) segment_limit
          && (nat_le (length plan.orders) order_limit && nat_le (length plan.power) power_limit)),
      TooLarge,
    ) ∷ [])
    ++ (tests_of_each (segment_tests plan) plan.segments
    ++ (tests_of_each (λ (earlier : List OrderRow) (row : OrderRow).
    placed (order_place 1 (length earlier + 1))
    ((
      (is_segment plan.segments row.segment && not (is_subroutines plan.segments row.segment))
          && (there row.input i && there row.output i),
      BadOrder,
    )
    ∷ (has_control (sizes_of plan) row.control, BadRef) ∷ [])) plan.orders
    ++ (tests_of_each (power_tests plan) plan.power
    ++ tests_of_each (panel_tests (sizes_of plan)) plan.panel)))

module _ (node drop : ℕ) (row : ScriptRow) where
  abbrev as_fed : ControllerPlan → ControllerPlan
  as_fed plan = plan_with node drop row plan

  passes-fed : (plan : ControllerPlan) → PassesTests plan → PassesTests (as_fed plan)
  passes-fed plan passes =
      let b = plan.node == node in
      ap (λ (tests : List (Test (PlantFault × Place))). first_failed tests)
      (tests-same plan (drops_if b plan.drops drop row) (long-if b plan.drops drop row)
      (there-if b plan.drops drop row))
      ∙ passes

  -- ---- the plans of a plant

  pub all-fed : (P Q : ControllerPlan → Type 0) (plans : List ControllerPlan)
      → ((plan : ControllerPlan) → P plan → Q (as_fed plan)) → All P plans
      → All Q (map as_fed plans)
  all-fed P Q plans each all = from-places Q (map as_fed plans) (λ k y is.
      let from = map-there as_fed plans k y is in
      subst Q from.2 (each from.0 (all-at P plans k from.0 all from.1)))

  nodes-fed : (plans : List ControllerPlan)
      → map (λ (plan : ControllerPlan). plan.node) (map as_fed plans)
      ≡ map (λ (plan : ControllerPlan). plan.node) plans
  nodes-fed [] = refl
  nodes-fed (plan ∷ plans) = λ i. plan.node ∷ nodes-fed plans i

  abbrev on_net : ℕ → List ControllerPlan → List ControllerPlan
  on_net network plans = filter (λ (plan : ControllerPlan). plan.network == network) plans

  abbrev node_of : ControllerPlan → ℕ
  node_of plan = plan.node

  on-step : (network : ℕ) (plan : ControllerPlan) (plans : List ControllerPlan) (b : Bool)
      → map node_of (on_net network (map as_fed plans)) ≡ map node_of (on_net network plans)
      → map node_of (cond b (as_fed plan ∷ on_net network (map as_fed plans))
      (on_net network (map as_fed plans)))
      ≡ map node_of (cond b (plan ∷ on_net network plans) (on_net network plans))
  on-step network plan plans true more = ap (λ (l : List ℕ). plan.node ∷ l) more
  on-step network plan plans false more = more

  on-fed : (network : ℕ) (plans : List ControllerPlan)
      → map node_of (on_net network (map as_fed plans)) ≡ map node_of (on_net network plans)
  on-fed network [] = refl
  on-fed network (plan ∷ plans) =
      on-step network plan plans (plan.network == network) (on-fed network plans)

  module _ (plant : Plant) where
    abbrev p : Plant
    p = plant_fed plant node drop row

    net-fed : (net : NetPlan) → IsNetOf plant net → IsNetOf p net
    net-fed net is =
        let same = on-fed net.number plant.controllers in
        record {
          plan = is.plan;
          some = subst (λ (l : List ℕ). 1 ≤ length (l ++ hosts_on plant net.number)) (sym same)
              is.some;
          members = subst (λ (l : List ℕ). IsPermutation (l ++ hosts_on plant net.number
              ++ ends_on plant net.number) net.members) (sym same) is.members;
          bridges = is.bridges;
        }

    bridge-fed : (bridge : BridgePlan) → IsBridgeOf plant bridge → IsBridgeOf p bridge
    bridge-fed bridge is = record
        { plan = is.plan; left_there = is.left_there; right_there = is.right_there }

    abbrev IsOn : ControllerPlan → Type 0
    IsOn plan = Contains (net_numbers plant) plan.network

    pub sound-fed : IsPlant plant → IsPlant p
    sound-fed s =
        let nodes = nodes-fed plant.controllers in
        record {
          scan_time = s.scan_time;
          watchdog = s.watchdog;
          nets = from-places (IsNetOf p) plant.nets (λ k net is.
              net-fed net (all-at (IsNetOf plant) plant.nets k net s.nets is));
          nets_rise = s.nets_rise;
          count = record {
            from = subst (λ n. 1 ≤ n) (sym (length-map plant.controllers as_fed)) s.count.from;
            to = subst (λ n. n ≤ controller_limit) (sym (length-map plant.controllers as_fed)) s.count.to;
          };
          controllers = all-fed PassesTests PassesTests plant.controllers passes-fed s.controllers;
          controllers_there = all-fed IsOn IsOn plant.controllers (λ plan there. there)
              s.controllers_there;
          controllers_rise = subst IsStrictlyIncreasing (sym nodes) s.controllers_rise;
          few = s.few;
          hosts = s.hosts;
          hosts_there = s.hosts_there;
          hosts_rise = s.hosts_rise;
          few_bridges = s.few_bridges;
          bridges = from-places (IsBridgeOf p) plant.bridges (λ k bridge is.
              bridge-fed bridge (all-at (IsBridgeOf plant) plant.bridges k bridge s.bridges is));
          bridges_rise = s.bridges_rise;
          once = subst (λ (l : List ℕ). IsDistinct nat_eq (l ++ host_nodes plant
              ++ end_nodes plant)) (sym nodes) s.once;
        }
