-- Drops that pass their tests are drops as a plant can have them.
use Rattle.std.proofs.Common.{◌≡◌, ◌+◌, not, ◌&&◌, List, [], ◌∷◌, ◌++◌, length, Ok}
use Rattle.std.specs.Prelude.{nat_le, is_some, slice_index_or, All}
use Rattle.std.proofs.lemmas.Bool.{and_parts, leb-true}
use Rattle.std.proofs.lemmas.List.Elements.{All-nil, All-push}
use Rattle.plant_types.specs.declared.drops.IoDrop.{IoDrop}
use Rattle.plant_types.specs.declared.plan.ControllerPlan.{ControllerPlan}
use Rattle.plant_types.specs.declared.fault.PlantFault.TheVariants.{BadDrop, BadNode, BadValue}
use Rattle.plant_types.specs.declared.fault.PlantFault.TheVariants.{TooLarge}
use Rattle.plant_types.specs.declared.sizes.Sizes.{Sizes}
use Rattle.plant_types.specs.Checks.{sizes_of}
use Rattle.plant_types.specs.FirstFault.{first_failed, tests_of_each}
use Rattle.plant_types.specs.Limits.{drop_words, most_address}
use Rattle.plant_types.specs.Fault.{controller_place}
use Rattle.plant_types.specs.PlanTests.{are_sizes, drop_limit, has_few, order_tests, panel_tests}
use Rattle.plant_types.specs.PlanTests.{placed, power_tests, segment_tests, table_tests}
use Rattle.plant_types.specs.Plans.{IsNode, PassesTests}
use Rattle.plant_types.proofs.PlanLemmas.{placed-ok, first-ok, parts-ok, behind-keeps, four-ok}
use Rattle.traffic_cop.specs.Drops.{drop_named}
use Rattle.traffic_cop.specs.Exchange.{input_total, output_total}
use Rattle.traffic_cop.specs.Tests.{has_few_words}
use Rattle.traffic_cop.specs.DropTests.{drop_place, drop_tests, module_limit, number_tests}
use Rattle.traffic_cop.specs.DropTests.{part_tests, placed_module_tests, placed_row_tests}
use Rattle.traffic_cop.specs.DropTests.{script_limit, word_tests}
use Rattle.peer_cop.specs.Plants.{IsPlantDrop}
use Rattle.peer_cop.specs.Tested.{TestedPlantsCanBeWired}

drop-tested : (sizes : Sizes) (earlier : List IoDrop) (d : IoDrop)
    → first_failed (drop_tests sizes earlier d) ≡ Ok tt → IsPlantDrop d
drop-tested sizes earlier d h =
    let position = length earlier + 1 in
    let parts = parts-ok (placed (drop_place 1 position) (number_tests earlier d))
    (part_tests sizes position d) h in
    let four = four-ok (nat_le 1 d.number && nat_le d.number drop_limit)
    (nat_le (length d.modules) module_limit)
    (nat_le (length d.script) script_limit) (not (is_some (drop_named earlier d.number))) BadValue
    TooLarge TooLarge BadDrop
    (placed-ok (drop_place 1 position) (number_tests earlier d) parts.0) in
    let within = and_parts (nat_le 1 d.number) (nat_le d.number drop_limit) four.0.0 in
    let words = placed (drop_place 1 position) (word_tests d.modules) in
    let rows = tests_of_each (placed_row_tests d.modules position) d.script in
    let modules = parts-ok (tests_of_each (placed_module_tests sizes position) d.modules)
    (words ++ rows) parts.1 in
    let others = parts-ok words rows modules.1 in
    let few = (first-ok (has_few_words d.modules) TooLarge []
    (placed-ok (drop_place 1 position) (word_tests d.modules) others.0)).0 in
    let totals = and_parts (nat_le (input_total d.modules) drop_words)
    (nat_le (output_total d.modules) drop_words) few in
    record {
      number = record { from = leb-true 1 d.number within.0; to = leb-true d.number 32 within.1 };
      inputs = leb-true (input_total d.modules) drop_words totals.0;
      outputs = leb-true (output_total d.modules) drop_words totals.1;
    }

drops-tested : (sizes : Sizes) (drops : List IoDrop)
    → first_failed (tests_of_each (drop_tests sizes) drops) ≡ Ok tt → All IsPlantDrop drops
drops-tested sizes drops h =
    behind-keeps (All IsPlantDrop) (drop_tests sizes)
    (λ earlier d all held. All-push IsPlantDrop earlier d all (drop-tested sizes earlier d held))
    [] drops (All-nil IsPlantDrop) h

node-tested : (plan : ControllerPlan) → first_failed (table_tests plan) ≡ Ok tt → IsNode plan.node
node-tested plan h =
    let first = first-ok (nat_le 1 plan.node && nat_le plan.node most_address) BadNode
    ((are_sizes (sizes_of plan), BadValue) ∷ (has_few plan, TooLarge) ∷ []) h in
    let within = and_parts (nat_le 1 plan.node) (nat_le plan.node most_address) first.0 in
    record {
      from = leb-true 1 plan.node within.0;
      to = leb-true plan.node most_address within.1;
    }

table-ok : (plan : ControllerPlan) → PassesTests plan → first_failed (table_tests plan) ≡ Ok tt
table-ok plan h =
    placed-ok (controller_place 1) (table_tests plan)
    (parts-ok (placed (controller_place 1) (table_tests plan))
    (tests_of_each (segment_tests plan) plan.segments
    ++ (tests_of_each (order_tests plan) plan.orders
    ++ (tests_of_each (power_tests plan) plan.power
    ++ tests_of_each (panel_tests (sizes_of plan)) plan.panel))) h).0

pub tested-wired : TestedPlantsCanBeWired
tested-wired plant sound drops k d within =
    let plan = slice_index_or plant.controllers k d in
    record {
      node = node-tested plan (table-ok plan (sound.controllers k d within));
      drops = drops-tested (sizes_of plan) plan.drops (drops k d within);
    }
