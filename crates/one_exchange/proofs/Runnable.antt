-- A plant whose drops have the scripts of a rule can be run where the plant can, and the rows fit.
use Rattle.std.proofs.Common.{◌≡◌, ◌≤◌, ℕ, zero, suc, ◌+◌, ◌==◌, Bool, true, false, cond, List, []}
use Rattle.std.proofs.Common.{◌∷◌, ◌++◌}
use Rattle.std.proofs.Common.{length, map, filter, Option, Some, None, refl, sym, ap, subst, ◌∙◌}
use Rattle.std.proofs.Common.{eq-eqb}
use Rattle.std.specs.Prelude.{◌&&◌, ◌||◌, if◌then◌else◌, nat_eq, nat_le, not, option_map, replicate}
use Rattle.std.specs.Prelude.{IsPermutation, slice_get}
use Rattle.std.specs.List.{All, AllByRecursion, Contains, IsDistinct, enumerate_from, list_any}
use Rattle.std.specs.List.{range_with_len}
use Rattle.std.specs.List.Sorted.{IsStrictlyIncreasing}
use Rattle.std.proofs.lemmas.List.{length-map, length-replicate}
use Rattle.std.proofs.lemmas.List.FromFn.{length-enumerate_from}
use Rattle.plant_types.specs.declared.drops.IoDrop.{IoDrop}
use Rattle.plant_types.specs.declared.drops.Module.{Module}
use Rattle.plant_types.specs.declared.drops.ScriptRow.{ScriptRow}
use Rattle.plant_types.specs.declared.drops.ScriptRow.TheVariants.{Silent, Row}
use Rattle.plant_types.specs.declared.fault.PlantFault.{PlantFault}
use Rattle.plant_types.specs.declared.fault.PlantFault.TheVariants.{BadNode, BadOrder, BadRef}
use Rattle.plant_types.specs.declared.fault.PlantFault.TheVariants.{BadValue, TooLarge}
use Rattle.plant_types.specs.declared.fault.Place.{Place}
use Rattle.plant_types.specs.declared.net.BridgePlan.{BridgePlan}
use Rattle.plant_types.specs.declared.net.NetPlan.{NetPlan}
use Rattle.plant_types.specs.declared.plan.ControllerPlan.{ControllerPlan}
use Rattle.plant_types.specs.declared.plan.OrderRow.{OrderRow}
use Rattle.plant_types.specs.declared.plan.Plant.{Plant}
use Rattle.plant_types.specs.Checks.{sizes_of}
use Rattle.plant_types.specs.Fault.{controller_place, order_place}
use Rattle.plant_types.specs.FirstFault.{Test, first_failed, tests_of_each}
use Rattle.plant_types.specs.Limits.{controller_limit, most_address}
use Rattle.plant_types.specs.Plans.{IsBridgeOf, IsNetOf, IsPlant, PassesTests, end_nodes, ends_on}
use Rattle.plant_types.specs.Plans.{host_nodes, hosts_on, net_numbers}
use Rattle.plant_types.specs.PlanTests.{are_sizes, controller_tests, drop_limit, has_control}
use Rattle.plant_types.specs.PlanTests.{has_drop, is_segment, is_subroutines, order_limit}
use Rattle.plant_types.specs.PlanTests.{panel_limit, panel_tests, placed, power_limit, power_tests}
use Rattle.plant_types.specs.PlanTests.{segment_limit, segment_tests}
use Rattle.traffic_cop.specs.Exchange.{fits_row, input_total, row_at, IsDrop}
use Rattle.traffic_cop.specs.Rows.{FitsPlan, HasDrop, IsRunnablePlan, NamesDrop}
use Rattle.joint_history.specs.declared.joint.Joint.{Joint}
use Rattle.joint_history.specs.Runnable.{CanRunPlant}
use Rattle.peer_cop.specs.declared.wire.Wire.{Wire}
use Rattle.word_exchange.proofs.SerialLemmas.{from-places, map-there}
use Rattle.one_run.proofs.Places.{all-at}
use Rattle.word_exchange.specs.declared.sending.Sending.{Sending}
use Rattle.word_exchange.specs.Exchange.{row_due, row_total, script_due}
use Rattle.word_exchange.specs.Rows.{is_wired, own_row, own_row_or, row_made, word_made}
use Rattle.word_exchange.specs.Scripts.{plan_by, plant_by, script_exchanged}
use Rattle.one_exchange.proofs.Ruled.{named-by, scripted, Rule}

-- ---- rows that are made fit their drop

-- all rows of a script fit the modules of their drop
abbrev RowsFit : List Module → List ScriptRow → Type 0
RowsFit modules script = AllByRecursion (λ (row : ScriptRow). fits_row modules row ≡ true) script

-- so does each of them
row-of : (modules : List Module) (script : List ScriptRow) (k : ℕ) (row : ScriptRow)
    → RowsFit modules script → slice_get script k ≡ Some row → fits_row modules row ≡ true
row-of modules [] k row all is = absurd cc
row-of modules (first ∷ script) zero row all is =
    let same : first ≡ row = cc in subst (λ (r : ScriptRow). fits_row modules r ≡ true) same all.0
row-of modules (first ∷ script) (suc k) row all is = row-of modules script k row all.1 is

-- a drop's own row does, or zeros where it has none
own-by : (drop : IoDrop) (k : ℕ) (o : Option ScriptRow) → IsDrop drop
    → slice_get drop.script k ≡ o → fits_row drop.modules (own_row_or drop o) ≡ true
own-by drop k None own is =
    eq-eqb (length (replicate (input_total drop.modules) 0)) (input_total drop.modules)
    (length-replicate (input_total drop.modules) 0)
own-by drop k (Some row) own is = row-of drop.modules drop.script k row own.rows is

-- a row that is made of one that fits does too
made-fits : (modules : List Module) (sendings : List Sending) (node number : ℕ) (own : ScriptRow)
    → fits_row modules own ≡ true → fits_row modules (row_made sendings node number own) ≡ true
made-fits modules sendings node number Silent fits = refl
made-fits modules sendings node number (Row words) fits =
    ap (λ n. n == input_total modules)
    (length-map (enumerate_from 1 words) (word_made sendings node number)
    ∙ length-enumerate_from 1 words) ∙ fits

-- and so do many
each-fits : (modules : List Module) (row : ℕ → ScriptRow) (list : List ℕ)
    → ((k : ℕ) → fits_row modules (row k) ≡ true) → RowsFit modules (map row list)
each-fits modules row [] fits = tt
each-fits modules row (k ∷ list) fits = (fits k, each-fits modules row list fits)

-- a rule gives a drop whose rows fit a script whose rows fit
abbrev pub GivesRows : Rule → Type 0
GivesRows rule = (plan : ControllerPlan) (drop : IoDrop) → IsDrop drop
    → RowsFit drop.modules (rule plan drop)

-- the script of a drop, wired or not
rows-by : (b : Bool) (plant : Plant) (wires : List Wire) (moments : List Joint)
    (plan : ControllerPlan) (drop : IoDrop) → IsDrop drop
    → RowsFit drop.modules (if b then script_due plant wires plan drop moments else drop.script)
rows-by true plant wires moments plan drop own =
    each-fits drop.modules (row_due plant wires plan drop moments)
    (range_with_len 1 (row_total plan drop.number moments))
    (λ k. made-fits drop.modules _ plan.node drop.number (own_row drop k)
    (own-by drop _ (row_at drop.script k) own refl))
rows-by false plant wires moments plan drop own = own.rows

-- the rule of a word exchange does
pub exchanged-fits : (plant : Plant) (wires : List Wire) (moments : List Joint)
    → GivesRows (script_exchanged plant wires moments)
exchanged-fits plant wires moments plan drop own =
    rows-by (is_wired wires plan.node drop.number) plant wires moments plan drop own

module _ (rule : Rule) (gives : GivesRows rule) where
  -- a plan with the scripts of the rule
  abbrev ruled : ControllerPlan → ControllerPlan
  ruled plan = plan_by rule plan

  -- ---- a plan that can be run

  -- it has each drop that it had
  drop-there : (plan : ControllerPlan) (n : ℕ) → HasDrop plan n → HasDrop (ruled plan) n
  drop-there plan n has =
      let script = rule plan in
      let own = has.ready.fits in
      record {
        from = has.from;
        to = has.to;
        ready = record {
          found = scripted script has.ready.found;
          named = named-by script plan.drops n ∙ ap (option_map (scripted script)) has.ready.named;
          fits = record {
            rows = gives plan has.ready.found own;
            inputs = own.inputs;
            outputs = own.outputs;
          };
          room = has.ready.room;
        };
      }

  -- and each that a row of the order of solve names
  names-there : (plan : ControllerPlan) (named : Option ℕ) → NamesDrop plan named
      → NamesDrop (ruled plan) named
  names-there plan None has = tt
  names-there plan (Some n) has = drop-there plan n has

  -- so all of these rows fit it
  orders-there : (plan : ControllerPlan) (orders : List OrderRow)
      → AllByRecursion (FitsPlan plan) orders → AllByRecursion (FitsPlan (ruled plan)) orders
  orders-there plan [] all = tt
  orders-there plan (order ∷ orders) all = (
    record {
      from = all.0.from;
      to = all.0.to;
      control = all.0.control;
      input = names-there plan order.input all.0.input;
      output = names-there plan order.output all.0.output;
    },
    orders-there plan orders all.1,
  )

  -- and it can be run
  runs-by : (plan : ControllerPlan) → IsRunnablePlan plan → IsRunnablePlan (ruled plan)
  runs-by plan runs = record {
    passes = runs.passes;
    messages = runs.messages;
    count = runs.count;
    rows = orders-there plan plan.orders runs.rows;
  }

  -- ---- a plan that passes its tests

  -- a drop of a number is there as before
  any-by : (drops : List IoDrop) (script : IoDrop → List ScriptRow) (k : ℕ)
      → list_any (λ (one : IoDrop). one.number == k) (map (scripted script) drops)
      ≡ list_any (λ (one : IoDrop). one.number == k) drops
  any-by [] script k = refl
  any-by (d ∷ drops) script k = ap (λ (b : Bool). (d.number == k) || b) (any-by drops script k)

  -- so is one that a row names
  there-by : (drops : List IoDrop) (script : IoDrop → List ScriptRow) (o : Option ℕ)
      → has_drop (map (scripted script) drops) o ≡ has_drop drops o
  there-by drops script None = refl
  there-by drops script (Some k) = any-by drops script k

  -- so the plan has the tests that it had
  tests-by : (plan : ControllerPlan) → controller_tests (ruled plan) ≡ controller_tests plan
  tests-by plan =
      let long = length-map plan.drops (scripted (rule plan)) in
      let there = there-by plan.drops (rule plan) in
      λ i. placed (controller_place 1)
      ((nat_le 1 plan.node && nat_le plan.node most_address, BadNode)
      ∷ (are_sizes (sizes_of plan), BadValue)
      ∷ (
        (nat_le (length plan.panel) panel_limit && nat_le (long i) drop_limit)
            && (nat_le (length plan.segments) segment_limit
            && (nat_le (length plan.orders) order_limit && nat_le (length plan.power) power_limit)),
        TooLarge,
      ) ∷ [])
      ++ (tests_of_each (segment_tests plan) plan.segments
      ++ (tests_of_each (λ (earlier : List OrderRow) (row : OrderRow).
      placed (order_place 1 (length earlier + 1))
      ((
        (is_segment plan.segments row.segment && not (is_subroutines plan.segments row.segment))
            && (there row.input i && there row.output i),
        BadOrder,
      )
      ∷ (has_control (sizes_of plan) row.control, BadRef) ∷ [])) plan.orders
      ++ (tests_of_each (power_tests plan) plan.power
      ++ tests_of_each (panel_tests (sizes_of plan)) plan.panel)))

  -- and passes them
  passes-by : (plan : ControllerPlan) → PassesTests plan → PassesTests (ruled plan)
  passes-by plan passes =
      ap (λ (tests : List (Test (PlantFault × Place))). first_failed tests) (tests-by plan) ∙ passes

  -- ---- the plans of a plant

  -- what the rule keeps of each plan it keeps of all
  all-by : (P Q : ControllerPlan → Type 0) (plans : List ControllerPlan)
      → ((plan : ControllerPlan) → P plan → Q (ruled plan)) → All P plans → All Q (map ruled plans)
  all-by P Q plans each all = from-places Q (map ruled plans) (λ k y is.
      let from = map-there ruled plans k y is in
      subst Q from.2 (each from.0 (all-at P plans k from.0 all from.1)))

  -- the node of a plan
  abbrev node_in : ControllerPlan → ℕ
  node_in plan = plan.node

  -- the rule keeps the nodes
  nodes-by : (plans : List ControllerPlan) → map node_in (map ruled plans) ≡ map node_in plans
  nodes-by [] = refl
  nodes-by (plan ∷ plans) = ap (λ (l : List ℕ). plan.node ∷ l) (nodes-by plans)

  -- the plans on a network
  abbrev on_net : ℕ → List ControllerPlan → List ControllerPlan
  on_net network plans = filter (λ (plan : ControllerPlan). plan.network == network) plans

  -- the first plan is on it, or not
  on-step : (network : ℕ) (plan : ControllerPlan) (plans : List ControllerPlan) (b : Bool)
      → map node_in (on_net network (map ruled plans)) ≡ map node_in (on_net network plans)
      → map node_in (cond b (ruled plan ∷ on_net network (map ruled plans))
      (on_net network (map ruled plans)))
      ≡ map node_in (cond b (plan ∷ on_net network plans) (on_net network plans))
  on-step network plan plans true more = ap (λ (l : List ℕ). plan.node ∷ l) more
  on-step network plan plans false more = more

  -- the rule keeps the nodes on a network
  on-by : (network : ℕ) (plans : List ControllerPlan)
      → map node_in (on_net network (map ruled plans)) ≡ map node_in (on_net network plans)
  on-by network [] = refl
  on-by network (plan ∷ plans) =
      on-step network plan plans (plan.network == network) (on-by network plans)

  module _ (plant : Plant) where
    -- the plant with the scripts of the rule
    abbrev p : Plant
    p = plant_by rule plant

    -- it has the networks and the bridges that it had
    net-by : (net : NetPlan) → IsNetOf plant net → IsNetOf p net
    net-by net is =
        let same = on-by net.number plant.controllers in
        record {
          plan = is.plan;
          some = subst (λ (l : List ℕ). 1 ≤ length (l ++ hosts_on plant net.number)) (sym same)
              is.some;
          members = subst (λ (l : List ℕ). IsPermutation (l ++ hosts_on plant net.number
              ++ ends_on plant net.number) net.members) (sym same) is.members;
          bridges = is.bridges;
        }

    -- a bridge
    bridge-by : (bridge : BridgePlan) → IsBridgeOf plant bridge → IsBridgeOf p bridge
    bridge-by bridge is = record
        { plan = is.plan; left_there = is.left_there; right_there = is.right_there }

    -- a controller is on a network of the plant
    abbrev IsOn : ControllerPlan → Type 0
    IsOn plan = Contains (net_numbers plant) plan.network

    -- it is a plant
    sound-by : IsPlant plant → IsPlant p
    sound-by s =
        let nodes = nodes-by plant.controllers in
        let long = length-map plant.controllers ruled in
        record {
          scan_time = s.scan_time;
          watchdog = s.watchdog;
          nets = from-places (IsNetOf p) plant.nets (λ k net is.
              net-by net (all-at (IsNetOf plant) plant.nets k net s.nets is));
          nets_rise = s.nets_rise;
          count = record {
            from = subst (λ n. 1 ≤ n) (sym long) s.count.from;
            to = subst (λ n. n ≤ controller_limit) (sym long) s.count.to;
          };
          controllers = all-by PassesTests PassesTests plant.controllers passes-by s.controllers;
          controllers_there = all-by IsOn IsOn plant.controllers (λ plan there. there)
              s.controllers_there;
          controllers_rise = subst IsStrictlyIncreasing (sym nodes) s.controllers_rise;
          few = s.few;
          hosts = s.hosts;
          hosts_there = s.hosts_there;
          hosts_rise = s.hosts_rise;
          few_bridges = s.few_bridges;
          bridges = from-places (IsBridgeOf p) plant.bridges (λ k bridge is.
              bridge-by bridge (all-at (IsBridgeOf plant) plant.bridges k bridge s.bridges is));
          bridges_rise = s.bridges_rise;
          once = subst (λ (l : List ℕ). IsDistinct nat_eq (l ++ host_nodes plant
              ++ end_nodes plant)) (sym nodes) s.once;
        }

    -- and can be run
    pub can-by : CanRunPlant plant → CanRunPlant p
    can-by can = record {
      sound = sound-by can.sound;
      controllers = all-by IsRunnablePlan IsRunnablePlan plant.controllers runs-by can.controllers;
    }
