-- The tests of the drops of a controller in their order, each with its fault and its place. This
-- project's own.
use Rattle.std.specs.Prelude.{◌≡◌, ℕ, ◌+◌, not, ◌&&◌, nat_le, is_some, true, List, [], ◌∷◌, ◌++◌}
use Rattle.std.specs.Prelude.{length, Ok}
use Rattle.plant_types.specs.declared.drops.Module.{Module}
use Rattle.plant_types.specs.declared.drops.ScriptRow.{ScriptRow}
use Rattle.plant_types.specs.declared.drops.IoDrop.{IoDrop}
use Rattle.plant_types.specs.declared.plan.ControllerPlan.{ControllerPlan}
use Rattle.plant_types.specs.declared.fault.PlantFault.{PlantFault}
use Rattle.plant_types.specs.declared.fault.PlantFault.TheVariants.{BadDrop, BadScript, BadValue}
use Rattle.plant_types.specs.declared.fault.PlantFault.TheVariants.{TooLarge}
use Rattle.plant_types.specs.declared.fault.Part.TheVariants as parts
use Rattle.plant_types.specs.declared.fault.Place.{Place}
use Rattle.plant_types.specs.declared.sizes.Sizes.{Sizes}
use Rattle.plant_types.specs.Checks.{sizes_of, passes_check}
use Rattle.plant_types.specs.FirstFault.{Test, first_failed, tests_of_each}
use Rattle.plant_types.specs.PlanTests.{drop_limit, placed}
use Rattle.traffic_cop.specs.Drops.{IsNamed, drop_named}
use Rattle.traffic_cop.specs.Exchange.{fits_row}
use Rattle.traffic_cop.specs.Tests.{module_tests, held_of, has_few_words}
use Rattle.traffic_cop.specs.Rows.{HasDrop}

-- The most modules of a drop, and the most rows of its script.
abbrev pub module_limit : ℕ
module_limit = 16

abbrev pub script_limit : ℕ
script_limit = 10000

-- A drop of a controller, a module of it, and a row of its script.
abbrev pub drop_place : ℕ → ℕ → Place
drop_place controller drop = record { part = parts.Drop; at = controller ∷ drop ∷ 0 ∷ 0 ∷ [] }

abbrev pub module_place : ℕ → ℕ → ℕ → Place
module_place controller drop io_module =
    record { part = parts.Module; at = controller ∷ drop ∷ io_module ∷ 0 ∷ [] }

abbrev pub script_place : ℕ → ℕ → ℕ → Place
script_place controller drop row =
    record { part = parts.Script; at = controller ∷ drop ∷ row ∷ 0 ∷ [] }

-- The tests of a drop's own numbers behind the drops before it: its number, how many modules and
-- rows it has, and that none before it has its number.
abbrev pub number_tests : List IoDrop → IoDrop → List (Test PlantFault)
number_tests earlier drop =
    (nat_le 1 drop.number && nat_le drop.number drop_limit, BadValue)
    ∷ (nat_le (length drop.modules) module_limit, TooLarge)
    ∷ (nat_le (length drop.script) script_limit, TooLarge)
    ∷ (not (is_some (drop_named earlier drop.number)), BadDrop)
    ∷ []

-- The tests of a module of the drop at a position.
abbrev pub placed_module_tests : Sizes → ℕ → List Module → Module
    → List (Test (PlantFault × Place))
placed_module_tests sizes drop earlier io_module =
    placed (module_place 1 drop (length earlier + 1))
    (module_tests (held_of sizes io_module) io_module)

-- The test of a row of the script of the drop at a position, which has these modules.
abbrev pub placed_row_tests : List Module → ℕ → List ScriptRow → ScriptRow
    → List (Test (PlantFault × Place))
placed_row_tests modules drop earlier row =
    placed (script_place 1 drop (length earlier + 1)) ((fits_row modules row, BadScript) ∷ [])

-- The test of how many words a drop has.
abbrev pub word_tests : List Module → List (Test PlantFault)
word_tests modules = (has_few_words modules, TooLarge) ∷ []

-- The tests of the parts of the drop at a position: its modules, its words, and its script.
abbrev pub part_tests : Sizes → ℕ → IoDrop → List (Test (PlantFault × Place))
part_tests sizes position drop =
    tests_of_each (placed_module_tests sizes position) drop.modules
    ++ (placed (drop_place 1 position) (word_tests drop.modules)
    ++ tests_of_each (placed_row_tests drop.modules position) drop.script)

-- The tests of a drop behind those before it.
abbrev pub drop_tests : Sizes → List IoDrop → IoDrop → List (Test (PlantFault × Place))
drop_tests sizes earlier drop =
    placed (drop_place 1 (length earlier + 1)) (number_tests earlier drop)
    ++ part_tests sizes (length earlier + 1) drop

-- The tests of all drops of a controller.
abbrev pub cop_tests : ControllerPlan → List (Test (PlantFault × Place))
cop_tests plan = tests_of_each (drop_tests (sizes_of plan)) plan.drops

-- Drops that pass their tests are there and ready for their exchanges, in a plan that passes its
-- own.
abbrev pub CheckedDropsAreReady : Type 0
CheckedDropsAreReady =
    (plan : ControllerPlan) → passes_check plan ≡ true → first_failed (cop_tests plan) ≡ Ok tt
    → (number : ℕ) → IsNamed plan.drops number → HasDrop plan number
