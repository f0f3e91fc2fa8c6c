-- Tests in their order, the first that does not hold, and the tests of the pieces of a network.
use Rattle.std.specs.Prelude.{Bool, true, false, not, ◌&&◌, ◌||◌, ◌==◌, List, [], ◌∷◌, ◌++◌, Result}
use Rattle.std.specs.Prelude.{Ok, Err, if◌then◌else◌}
use Rattle.std.specs.List.{list_any}
use Rattle.plant_types.specs.declared.element.Element.{Element}
use Rattle.plant_types.specs.declared.element.Element.TheVariants.{Label}
use Rattle.plant_types.specs.declared.network.Cell.{Cell}
use Rattle.plant_types.specs.declared.network.Short.{Short}
use Rattle.plant_types.specs.declared.network.Network.{Network}
use Rattle.plant_types.specs.declared.fault.PlantFault.{PlantFault}
use Rattle.plant_types.specs.declared.fault.PlantFault.TheVariants.{BadCell, BadValue, BadRef}
use Rattle.plant_types.specs.declared.fault.PlantFault.TheVariants.{BadShape}
use Rattle.plant_types.specs.Sizes.{Sizes}
use Rattle.plant_types.specs.Operands.{has_form, has_values, has_kinds}
use Rattle.plant_types.specs.Network.{has_cell_place, has_short_place, same_short}
use Rattle.plant_types.specs.Checks.{has_room, has_shape}

-- Whether a test holds, and its fault where it does not. This project's own.
abbrev pub Test : Type 0 → Type 0
Test Fault = Bool × Fault

-- The fault of the first test that does not hold. This project's own.
abbrev pub first_failed : {Fault : Type 0} → List (Test Fault) → Result (Unit {0}) Fault
first_failed [] = Ok tt
first_failed (test ∷ tests) = if test.0 then first_failed tests else Err test.1

-- The tests of each item of a list, behind the items before it. This project's own.
unfoldable pub tests_behind : {Item Fault : Type 0}
    → (List Item → Item → List (Test Fault)) → List Item → List Item → List (Test Fault)
tests_behind tests earlier [] = []
tests_behind tests earlier (item ∷ items) =
    tests earlier item ++ tests_behind tests (earlier ++ item ∷ []) items

-- The tests of each item of a list, in their order. This project's own.
abbrev pub tests_of_each : {Item Fault : Type 0}
    → (List Item → Item → List (Test Fault)) → List Item → List (Test Fault)
tests_of_each tests items = tests_behind tests [] items

-- An element is a LAB. Modicon Ladder Logic Block Library User Guide.
abbrev pub is_label : Element → Bool
is_label (Label number) = true
is_label _ = false

-- A LAB stands at the first place of its network. This project's own.
abbrev pub has_label_place : Cell → Bool
has_label_place cell =
    not (is_label cell.element) || ((cell.row == 1) && (cell.column == 1))

-- The tests of a cell behind those before it in its network. This project's own.
abbrev pub cell_tests : Sizes → List Cell → Cell → List (Test PlantFault)
cell_tests sizes earlier cell =
    (has_cell_place cell && has_form cell.element, BadCell)
    ∷ (has_values cell.element, BadValue)
    ∷ (has_kinds cell.element && has_room sizes cell.element, BadRef)
    ∷ (has_shape earlier cell && has_label_place cell, BadShape)
    ∷ []

-- The tests of a short behind those before it in its network. This project's own.
abbrev pub short_tests : List Short → Short → List (Test PlantFault)
short_tests earlier short =
    (has_short_place short, BadCell)
    ∷ (not (list_any (same_short short) earlier), BadShape)
    ∷ []

-- The tests of a network: those of its cells in order, then those of its shorts in order. This
-- project's own.
abbrev pub network_tests : Sizes → Network → List (Test PlantFault)
network_tests sizes network =
    tests_of_each (cell_tests sizes) network.cells ++ tests_of_each short_tests network.shorts
