-- Controllers that are read pass their tests.
use Rattle.std.proofs.Common.{◌≡◌, ℕ, ◌+◌, ◌≤◌, ◌==◌, Bool, true, false, not, ◌&&◌, ◌||◌, List, []}
use Rattle.std.proofs.Common.{◌∷◌, ◌++◌, length, map, Option, Some, None, Ok, refl, sym, ap, ◌∙◌}
use Rattle.std.proofs.Common.{arith, le-leb}
use Rattle.std.specs.Prelude.{codes, nat_le, nat_eq, is_some, if◌then◌else◌}
use Rattle.std.specs.List.{list_any, list_all, AllByRecursion, IsDistinct}
use Rattle.std.proofs.lemmas.Bool.{and_parts, and_from, not-true, leb-true}
use Rattle.toml.specs.Data.{Members}
use Rattle.plant_types.specs.declared.reference.Ref.{Ref}
use Rattle.plant_types.specs.declared.drops.IoDrop.{IoDrop}
use Rattle.plant_types.specs.declared.plan.ControllerPlan.{ControllerPlan}
use Rattle.plant_types.specs.declared.plan.OrderRow.{OrderRow}
use Rattle.plant_types.specs.declared.fault.PlantFault.TheVariants.{BadRef, BadValue, BadNode}
use Rattle.plant_types.specs.declared.fault.PlantFault.TheVariants.{TooLarge, BadNetwork}
use Rattle.plant_types.specs.declared.fault.Place.{Place}
use Rattle.plant_types.specs.Fault.{controller_place, panel_place}
use Rattle.plant_types.specs.Reference.{is_discrete}
use Rattle.plant_types.specs.Sizes.{Sizes, has_reference, cleared, sizes_from}
use Rattle.plant_types.specs.Plans.{IsNode, PassesTests}
use Rattle.plant_types.specs.Checks.{is_size, is_discrete_size, sizes_of, passes_check}
use Rattle.plant_types.specs.FirstFault.{first_failed, tests_of_each}
use Rattle.plant_types.specs.Passing.{row_passes}
use Rattle.plant_types.specs.PlanTests.{placed, panel_limit, drop_limit, segment_limit, order_limit}
use Rattle.plant_types.specs.PlanTests.{power_limit, power_tests}
use Rattle.plant_types.specs.PlanTests.{segment_tests, is_segment, is_subroutines, has_drop}
use Rattle.plant_types.specs.PlanTests.{has_control, is_order, order_tests, panel_tests, are_sizes}
use Rattle.plant_types.specs.PlanTests.{has_few, table_tests, controller_tests}
use Rattle.plant_types.proofs.SizesLemmas.{contains_key-cleared}
use Rattle.plant_types.proofs.PassingLemmas.{checks-exact}
use Rattle.cell_text.specs.Steps.{or_fault}
use Rattle.cell_text.specs.Words.{text_words, only_word}
use Rattle.cell_text.specs.Numbers.{reference_of}
use Rattle.cell_text.proofs.StepLemmas.{step-ok, or_fault-ok, unless-ok}
use Rattle.traffic_cop.specs.Drops.{IsNamed, drop_named}
use Rattle.traffic_cop.specs.Rows.{HasControl, NamesDrop, FitsPlan, IsRunnablePlan}
use Rattle.traffic_cop.proofs.CheckLemmas.{checked-ready}
use Rattle.controller_tables.specs.declared.owner.Owner.{Owner}
use Rattle.plant_tables.specs.declared.net.NetTable.{NetTable}
use Rattle.plant_tables.specs.declared.tables.Version.{Version}
use Rattle.plant_tables.specs.declared.tables.Version.TheVariants.{One}
use Rattle.plant_tables.specs.Refusals.{Refusal}
use Rattle.plant_tables.specs.InOrder.{numbered_from}
use Rattle.plant_tables.specs.declared.tables.TableKind.TheVariants as kinds
use Rattle.plant_tables.specs.Tables.{table_passes}
use Rattle.plant_tables.specs.Keys.{address_at, size_at, discrete_size_at, texts_at, tables_at}
use Rattle.controller_tables.specs.Controller.{owner_from, sizes_at, panel_item, panel_of}
use Rattle.controller_tables.specs.Drops.{drops_of}
use Rattle.controller_tables.specs.Pieces.{segments_of}
use Rattle.controller_tables.specs.Orders.{nameable, orders_of}
use Rattle.controller_tables.specs.Failures.{power_rows_of}
use Rattle.controller_tables.specs.Stations.{Arrays, arrays_from, arrays_at, plan_of, parts_of}
use Rattle.controller_tables.specs.Stations.{has_controller, controller_behind, controllers_of}
use Rattle.plant_tables.specs.Net.{has_net, network_at}
use Rattle.controller_tables.specs.Accepted.{PassesDropTests}
use Rattle.plant_tables.proofs.Common.{ok_value, both-hold, placed-hold}
use Rattle.plant_tables.proofs.KeyLemmas.{address_at-within, size_at-is_size}
use Rattle.plant_tables.proofs.KeyLemmas.{discrete_size_at-is_discrete_size, texts_at-few}
use Rattle.plant_tables.proofs.KeyLemmas.{tables_at-few}
use Rattle.plant_tables.proofs.TestLemmas.{each_behind-keeps, each_behind-all, each_from-tests}
use Rattle.plant_tables.proofs.TestLemmas.{each_from-length, with_positions-count, none-node}
use Rattle.plant_tables.proofs.TestLemmas.{distinct-push, one-test}
use Rattle.plant_tables.proofs.NetLemmas.{IsOn, network-is}
use Rattle.controller_tables.proofs.SegmentLemmas.{segments-pass, segments-count}
use Rattle.controller_tables.proofs.DropLemmas.{drops-pass}
use Rattle.controller_tables.proofs.OrderLemmas.{orders-pass}
use Rattle.controller_tables.proofs.FailureLemmas.{power-pass}

-- a reference of a panel stands in the map
panel_item-held : (owner : Owner) (number : ℕ) (text : List ℕ) (at : Ref)
    → panel_item owner number text ≡ Ok at → has_reference owner.sizes at ≡ true
unfolding panel_item
panel_item-held owner number text at h =
    let bad : Refusal = (BadRef, panel_place owner.position number) in
    let word = step-ok (or_fault bad (only_word (text_words text))) _ at h in
    let found = step-ok (or_fault bad (reference_of word.0)) _ at word.1.1 in
    let held = unless-ok (has_reference owner.sizes found.0) bad
    (λ held. Ok found.0) at found.1.1 in
    let same : found.0 ≡ at = ok_value found.0 at held.1 in
    rw (← same) held.0

-- so do all references of a panel
panel-pass : (owner : Owner) (texts : List (List ℕ)) (panel : List Ref)
    → panel_of owner texts ≡ Ok panel
    → first_failed (tests_of_each (panel_tests owner.sizes) panel) ≡ Ok tt
panel-pass owner texts panel h =
    each_from-tests (panel_tests owner.sizes) (panel_item owner)
    (λ before n text at e. placed-hold (panel_place 1 (length before + 1))
    ((has_reference owner.sizes at, BadRef) ∷ [])
    (one-test (has_reference owner.sizes at) BadRef (panel_item-held owner n text at e)))
    texts 1 panel h

-- an owner has an address and sizes
record HasNumbers (owner : Owner) : Type 0 where
  node : (1 ≤ owner.node) × (owner.node ≤ 64)
  sizes : are_sizes owner.sizes ≡ true

sizes_at-are : (place : Place) (ms : Members) (sizes : Sizes) → sizes_at place ms ≡ Ok sizes
    → are_sizes sizes ≡ true
unfolding sizes_at
sizes_at-are place ms sizes h =
    let coils = step-ok (discrete_size_at place (codes "coils") ms) _ sizes h in
    let inputs = step-ok (discrete_size_at place (codes "inputs") ms) _ sizes coils.1.1 in
    let input_registers = step-ok (size_at place (codes "input_registers") ms) _ sizes
    inputs.1.1 in
    let registers = step-ok (size_at place (codes "registers") ms)
    (λ registers. Ok (sizes_from coils.0 inputs.0 input_registers.0 registers)) sizes
    input_registers.1.1 in
    let whole : Sizes = sizes_from coils.0 inputs.0 input_registers.0 registers.0 in
    let same : whole ≡ sizes = ok_value whole sizes registers.1.1 in
    let discretes = and_from (is_discrete_size coils.0) (is_discrete_size inputs.0)
    (discrete_size_at-is_discrete_size place (codes "coils") ms coils.0 coils.1.0)
    (discrete_size_at-is_discrete_size place (codes "inputs") ms inputs.0 inputs.1.0) in
    let words = and_from (is_size input_registers.0) (is_size registers.0)
    (size_at-is_size place (codes "input_registers") ms input_registers.0 input_registers.1.0)
    (size_at-is_size place (codes "registers") ms registers.0 registers.1.0) in
    let are : are_sizes whole ≡ true =
    and_from (is_discrete_size coils.0 && is_discrete_size inputs.0)
    (is_size input_registers.0 && is_size registers.0) discretes words in
    rw (← same) are

-- the arrays of a table are few
record HasFewItems (arrays : Arrays) : Type 0 where
  panel : length arrays.panel ≤ panel_limit
  drops : length arrays.drops ≤ drop_limit
  segments : length arrays.segments ≤ segment_limit
  orders : length arrays.orders ≤ order_limit
  power : length arrays.power ≤ power_limit

arrays_at-few : (place : Place) (ms : Members) (arrays : Arrays) → arrays_at place ms ≡ Ok arrays
    → HasFewItems arrays
unfolding arrays_at
arrays_at-few place ms arrays h =
    let panel = step-ok (texts_at place panel_limit (codes "panel") ms) _ arrays h in
    let drops = step-ok (tables_at place drop_limit (codes "drop") ms) _ arrays panel.1.1 in
    let segments = step-ok (tables_at place segment_limit (codes "segment") ms) _
    arrays drops.1.1 in
    let orders = step-ok (texts_at place order_limit (codes "orders") ms) _
    arrays segments.1.1 in
    let power = step-ok (texts_at place power_limit (codes "power") ms)
    (λ power. Ok (arrays_from panel.0 drops.0 segments.0 orders.0 power)) arrays orders.1.1 in
    let whole = arrays_from panel.0 drops.0 segments.0 orders.0 power.0 in
    let same : whole ≡ arrays = ok_value whole arrays power.1.1 in
    let few : HasFewItems whole = record {
      panel = texts_at-few place panel_limit (codes "panel") ms panel.0 panel.1.0;
      drops = tables_at-few place drop_limit (codes "drop") ms drops.0 drops.1.0;
      segments = tables_at-few place segment_limit (codes "segment") ms segments.0 segments.1.0;
      orders = texts_at-few place order_limit (codes "orders") ms orders.0 orders.1.0;
      power = texts_at-few place power_limit (codes "power") ms power.0 power.1.0;
    } in
    rw (← same) few

-- a controller that is read passes its tests
pub record IsRead (plan : ControllerPlan) : Type 0 where
  pub tests : PassesTests plan
  pub drops : PassesDropTests plan
  pub node : IsNode plan.node

three-hold : {F : Type 0} (a b c : Bool) (f g k : F) → a ≡ true → b ≡ true → c ≡ true
    → first_failed ((a, f) ∷ (b, g) ∷ (c, k) ∷ []) ≡ Ok tt
three-hold a b c f g k p q r = rw (p, q, r) refl

parts_of-read : (owner : Owner) (arrays : Arrays) (plan : ControllerPlan) → HasNumbers owner
    → HasFewItems arrays
    → parts_of owner arrays ≡ Ok plan → IsRead plan
unfolding parts_of
parts_of-read owner arrays plan numbers few h =
    let node = owner.node in
    let within = numbers.node in
    let sizes = numbers.sizes in
    let drops = step-ok (drops_of owner arrays.drops) _ plan h in
    let segments = step-ok (segments_of owner arrays.segments) _ plan drops.1.1 in
    let orders = step-ok (orders_of (nameable owner segments.0 drops.0) arrays.orders) _ plan
    segments.1.1 in
    let power = step-ok (power_rows_of owner (length orders.0) arrays.power) _ plan orders.1.1 in
    let panel = step-ok (panel_of owner arrays.panel)
    (λ panel. Ok (plan_of owner panel orders.0 power.0 drops.0 segments.0)) plan power.1.1 in
    let whole : ControllerPlan = plan_of owner panel.0 orders.0 power.0 drops.0 segments.0 in
    let same : whole ≡ plan = ok_value whole plan panel.1.1 in
    let segment_count = segments-count owner arrays.segments segments.0 segments.1.0 in
    let drop_count = with_positions-count _ arrays.drops drops.0 drops.1.0 in
    let order_count = each_from-length _ arrays.orders 1 orders.0 orders.1.0 in
    let power_count = with_positions-count _ arrays.power power.0 power.1.0 in
    let panel_count = each_from-length _ arrays.panel 1 panel.0 panel.1.0 in
    let segment_pass = segments-pass owner whole arrays.segments (refl {a = owner.sizes})
    (sym segment_count) segments.0 segments.1.0 in
    let address = and_from (nat_le 1 node) (nat_le node 64) (le-leb 1 node within.0)
    (le-leb node 64 within.1) in
    let panel_few = le-leb (length panel.0) panel_limit (omega (arith, panel_count, few.panel)) in
    let drops_few = le-leb (length drops.0) drop_limit (omega (arith, drop_count, few.drops)) in
    let segments_few = le-leb (length segments.0) segment_limit
    (omega (arith, segment_count, few.segments)) in
    let orders_few = le-leb (length orders.0) order_limit
    (omega (arith, order_count, few.orders)) in
    let power_few = le-leb (length power.0) power_limit (omega (arith, power_count, few.power)) in
    let count : has_few whole ≡ true =
    and_from (nat_le (length panel.0) panel_limit && nat_le (length drops.0) drop_limit)
    (nat_le (length segments.0) segment_limit
    && (nat_le (length orders.0) order_limit && nat_le (length power.0) power_limit))
    (and_from (nat_le (length panel.0) panel_limit) (nat_le (length drops.0) drop_limit)
    panel_few drops_few)
    (and_from (nat_le (length segments.0) segment_limit)
    (nat_le (length orders.0) order_limit && nat_le (length power.0) power_limit) segments_few
    (and_from (nat_le (length orders.0) order_limit) (nat_le (length power.0) power_limit)
    orders_few power_few)) in
    let table : first_failed (table_tests whole) ≡ Ok tt =
    three-hold (nat_le 1 node && nat_le node 64) (are_sizes owner.sizes)
    (has_few whole) BadNode BadValue TooLarge address sizes count in
    let panel_part = tests_of_each (panel_tests owner.sizes) panel.0 in
    let power_part = tests_of_each (power_tests whole) power.0 in
    let order_part = tests_of_each (order_tests whole) orders.0 in
    let segment_part = tests_of_each (segment_tests whole) segments.0 in
    let tests : first_failed (controller_tests whole) ≡ Ok tt =
    both-hold (placed (controller_place 1) (table_tests whole))
    (segment_part ++ (order_part ++ (power_part ++ panel_part)))
    (placed-hold (controller_place 1) (table_tests whole) table)
    (both-hold segment_part (order_part ++ (power_part ++ panel_part)) segment_pass
    (both-hold order_part (power_part ++ panel_part)
    (orders-pass owner whole (refl {a = owner.sizes}) arrays.orders orders.0 orders.1.0)
    (both-hold power_part panel_part (power-pass owner whole arrays.power power.0 power.1.0)
    (panel-pass owner arrays.panel panel.0 panel.1.0)))) in
    let read : IsRead whole = record {
      tests = tests;
      drops = drops-pass owner arrays.drops drops.0 drops.1.0;
      node = record { from = within.0; to = within.1 };
    } in
    rw (← same) read

-- the node and the network of the parts
record IsOf (owner : Owner) (plan : ControllerPlan) : Type 0 where
  node : plan.node ≡ owner.node
  network : plan.network ≡ owner.network

parts_of-owner : (owner : Owner) (arrays : Arrays) (plan : ControllerPlan)
    → parts_of owner arrays ≡ Ok plan → IsOf owner plan
unfolding parts_of
parts_of-owner owner arrays plan h =
    let drops = step-ok (drops_of owner arrays.drops) _ plan h in
    let segments = step-ok (segments_of owner arrays.segments) _ plan drops.1.1 in
    let orders = step-ok (orders_of (nameable owner segments.0 drops.0) arrays.orders) _ plan
    segments.1.1 in
    let power = step-ok (power_rows_of owner (length orders.0) arrays.power) _ plan orders.1.1 in
    let panel = step-ok (panel_of owner arrays.panel)
    (λ panel. Ok (plan_of owner panel orders.0 power.0 drops.0 segments.0)) plan power.1.1 in
    let whole : ControllerPlan = plan_of owner panel.0 orders.0 power.0 drops.0 segments.0 in
    let same : whole ≡ plan = ok_value whole plan panel.1.1 in
    let is : IsOf owner whole = record { node = refl; network = refl } in
    rw (← same) is

-- what is known of a controller of a table
record IsFresh (version : Version) (nets : List NetTable) (earlier : List ControllerPlan)
    (plan : ControllerPlan) : Type 0 where
  read : IsRead plan
  on : IsOn version nets plan.network
  fresh : has_controller earlier plan.node ≡ false

-- the controllers of a plant: each passes its tests and is on one of the networks, and no two have
-- one node
pub record AreRead (nets : List NetTable) (plans : List ControllerPlan) : Type 0 where
  pub each : AllByRecursion IsRead plans
  pub on : AllByRecursion (λ (plan : ControllerPlan). has_net nets plan.network ≡ true) plans
  pub nodes : IsDistinct nat_eq (map (λ (plan : ControllerPlan). plan.node) plans)

module _ (version : Version) (nets : List NetTable)
    (first : version ≡ One → map (λ (net : NetTable). net.number) nets ≡ 0 ∷ []) where
  controller-read : (earlier : List ControllerPlan) (table : ℕ × Members) (plan : ControllerPlan)
      → controller_behind version nets earlier table ≡ Ok plan → IsFresh version nets earlier plan
  unfolding controller_behind
  controller-read earlier table plan h =
      let place = controller_place table.0 in
      let keys = step-ok (table_passes place (kinds.Controller version) table.1) _ plan h in
      let node = step-ok (address_at place table.1) _ plan keys.1.1 in
      let named = step-ok (network_at version nets place table.1) _ plan node.1.1 in
      let sizes = step-ok (sizes_at place table.1) _ plan named.1.1 in
      let arrays = step-ok (arrays_at place table.1) _ plan sizes.1.1 in
      let fresh = unless-ok (not (has_controller earlier node.0)) (BadNode, place) _ plan
      arrays.1.1 in
      let network = or_fault-ok (BadNetwork, place) named.0
      (λ network. parts_of (owner_from table.0 node.0 network sizes.0) arrays.0) plan fresh.1 in
      let owner = owner_from table.0 node.0 network.0 sizes.0 in
      let own = parts_of-owner owner arrays.0 plan network.1.1 in
      let on = network-is version nets place table.1 network.0 first
      (named.1.0 ∙ ap Ok network.1.0) in
      record {
        read = parts_of-read owner arrays.0 plan (record {
          node = address_at-within place table.1 node.0 node.1.0;
          sizes = sizes_at-are place table.1 sizes.0 sizes.1.0;
        }) (arrays_at-few place table.1 arrays.0 arrays.1.0) network.1.1;
        on = rw own.network on;
        fresh = rw own.node (not-true (has_controller earlier node.0) fresh.0);
      }

  pub controllers-read : (tables : List Members) (plans : List ControllerPlan)
      → controllers_of version nets tables ≡ Ok plans → AreRead nets plans
  unfolding IsDistinct
  controllers-read tables plans h = record {
    each = each_behind-all IsRead (controller_behind version nets) (λ before table plan e.
        (controller-read before table plan e).read) (numbered_from 1 tables) [] plans tt h;
    on = each_behind-all (λ (plan : ControllerPlan). has_net nets plan.network ≡ true)
        (controller_behind version nets) (λ before table plan e.
        (controller-read before table plan e).on.there) (numbered_from 1 tables) [] plans tt h;
    nodes = each_behind-keeps (λ plans.
        IsDistinct nat_eq (map (λ (plan : ControllerPlan). plan.node) plans))
        (controller_behind version nets)
        (λ before table plan e held.
        distinct-push (λ (plan : ControllerPlan). plan.node) [] before plan held
        (sym (none-node (λ (plan : ControllerPlan). plan.node) plan.node before)
        ∙ (controller-read before table plan e).fresh))
        (numbered_from 1 tables) [] plans tt h;
  }

-- ---- what a controller that passes its tests can do

-- a drop that a row can name has a name
nameable-either : (one : IoDrop) (drops : List IoDrop) (number : ℕ) (b : Bool)
    → (one.number == number) ≡ b
    → (list_any (λ (other : IoDrop). other.number == number) drops ≡ true
    → is_some (drop_named drops number) ≡ true)
    → (one.number == number) || list_any (λ (other : IoDrop). other.number == number) drops ≡ true
    → is_some (if one.number == number then Some one else drop_named drops number) ≡ true
nameable-either one drops number true is more h = rw is refl
nameable-either one drops number false is more h =
    let rest : list_any (λ (other : IoDrop). other.number == number) drops ≡ true =
    sym (ap (λ b. b || list_any (λ (other : IoDrop). other.number == number) drops) is) ∙ h in
    rw is (more rest)

nameable-of : (drops : List IoDrop) (number : ℕ)
    → list_any (λ one. one.number == number) drops ≡ true → IsNamed drops number
unfolding drop_named
nameable-of [] number h = cc
nameable-of (one ∷ drops) number h =
    nameable-either one drops number (one.number == number) refl (nameable-of drops number) h

names-drop : (plan : ControllerPlan) (number : Option ℕ) → passes_check plan ≡ true
    → PassesDropTests plan → has_drop plan.drops
    number ≡ true → NamesDrop plan number
names-drop plan None passes held h = tt
names-drop plan (Some number) passes held h =
    checked-ready plan passes held number (nameable-of plan.drops number h)

has-control : (sizes : Sizes) (control : Option Ref) → has_control sizes control ≡ true
    → HasControl (cleared sizes) control
has-control sizes None h = tt
has-control sizes (Some at) h = let tests = and_parts (is_discrete at.kind)
    (has_reference sizes at) h in (contains_key-cleared sizes at ∙ tests.1, tests.0)

row-fits : (plan : ControllerPlan) (row : OrderRow) → passes_check plan ≡ true
    → PassesDropTests plan → row_passes plan row ≡ true → FitsPlan plan row
row-fits plan row passes held h =
    let parts = and_parts (is_order plan row) (has_control (sizes_of plan) row.control) h in
    let order = and_parts (is_segment plan.segments row.segment
    && not (is_subroutines plan.segments row.segment))
    (has_drop plan.drops row.input && has_drop plan.drops row.output) parts.0 in
    let segment = and_parts (is_segment plan.segments row.segment)
    (not (is_subroutines plan.segments row.segment)) order.0 in
    let numbers = and_parts (nat_le 1 row.segment)
    (nat_le row.segment (length plan.segments)) segment.0 in
    let drops = and_parts (has_drop plan.drops row.input)
    (has_drop plan.drops row.output) order.1 in
    record {
      from = leb-true 1 row.segment numbers.0;
      to = leb-true row.segment (length plan.segments) numbers.1;
      control = has-control (sizes_of plan) row.control parts.1;
      input = names-drop plan row.input passes held drops.0;
      output = names-drop plan row.output passes held drops.1;
    }

rows-fit : (plan : ControllerPlan) (rows : List OrderRow) → passes_check plan ≡ true
    → PassesDropTests plan → list_all (row_passes plan) rows ≡ true
    → AllByRecursion (FitsPlan plan) rows
rows-fit plan [] passes held h = tt
rows-fit plan (row ∷ rows) passes held h =
    let parts = and_parts (row_passes plan row) (list_all (row_passes plan) rows) h in
    (row-fits plan row passes held parts.0, rows-fit plan rows passes held parts.1)

-- a controller that is read can be run
pub read-runnable : (plan : ControllerPlan) → IsRead plan → IsRunnablePlan plan
read-runnable plan read =
    let checked = checks-exact.checked plan ((checks-exact.exact plan).0 read.tests) in
    let few = and_parts (nat_le (length plan.panel) panel_limit
    && nat_le (length plan.drops) drop_limit)
    (nat_le (length plan.segments) segment_limit
    && (nat_le (length plan.orders) order_limit && nat_le (length plan.power) power_limit))
    checked.few in
    let counts = and_parts (nat_le (length plan.segments) segment_limit)
    (nat_le (length plan.orders) order_limit && nat_le (length plan.power) power_limit) few.1 in
    let rows = and_parts (nat_le (length plan.orders) order_limit)
    (nat_le (length plan.power) power_limit) counts.1 in
    record {
      passes = checked.passes;
      messages = checked.messages;
      count = leb-true (length plan.orders) order_limit rows.0;
      rows = rows-fit plan plan.orders checked.passes read.drops checked.orders;
    }
