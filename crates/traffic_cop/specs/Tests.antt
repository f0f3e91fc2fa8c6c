-- The tests of a drop's modules and rows. This project's own.
use Rattle.std.specs.Prelude.{◌≡◌, ◌≤◌, ℕ, ◌+◌, ◌%◌, Bool, true, false, ◌&&◌, ◌==◌, nat_le, List}
use Rattle.std.specs.Prelude.{[], ◌∷◌, Option, Some, None, Result, Ok, Err}
use Rattle.std.specs.List.{AllByRecursion}
use Rattle.plant_types.specs.declared.reference.RefKind.{RefKind}
use Rattle.plant_types.specs.declared.reference.RefKind.TheVariants.{Coil, Input, InputRegister}
use Rattle.plant_types.specs.declared.reference.RefKind.TheVariants.{Register}
use Rattle.plant_types.specs.declared.drops.ModuleKind.{ModuleKind}
use Rattle.plant_types.specs.declared.drops.ModuleKind.TheVariants.{In, Out, InWords, OutWords}
use Rattle.plant_types.specs.declared.drops.Module.{Module}
use Rattle.plant_types.specs.declared.drops.IoDrop.{IoDrop}
use Rattle.plant_types.specs.declared.fault.PlantFault.{PlantFault}
use Rattle.plant_types.specs.declared.fault.PlantFault.TheVariants.{BadDrop, BadRef}
use Rattle.plant_types.specs.declared.sizes.Sizes.{Sizes}
use Rattle.plant_types.specs.Sizes.{count_of}
use Rattle.plant_types.specs.FirstFault.{Test, first_failed}
use Rattle.plant_types.specs.Limits.{drop_words}
use Rattle.plant_types.specs.PlanTests.{drop_limit}
use Rattle.traffic_cop.specs.Exchange.{carried_kind, input_total, output_total, fits_row}

-- How many words a module can carry: one for sixteen discretes, 1 to 16 for registers.
abbrev pub is_word_count : ModuleKind → ℕ → Bool
is_word_count In count = count == 1
is_word_count Out count = count == 1
is_word_count InWords count = nat_le 1 count && nat_le count 16
is_word_count OutWords count = nat_le 1 count && nat_le count 16

-- Sixteen discretes begin right behind a multiple of sixteen; registers begin anywhere.
abbrev pub is_aligned : ModuleKind → ℕ → Bool
is_aligned In first = first % 16 == 1
is_aligned Out first = first % 16 == 1
is_aligned InWords first = true
is_aligned OutWords first = true

-- A module can begin at that number, and carry so many words.
abbrev pub is_regular : ModuleKind → ℕ → ℕ → Bool
is_regular kind first count = is_word_count kind count && is_aligned kind first

-- A module carries references of its own kind alone.
abbrev pub carries : ModuleKind → RefKind → Bool
carries In Input = true
carries Out Coil = true
carries InWords InputRegister = true
carries OutWords Register = true
carries _ _ = false

-- How many references a module of so many words has.
abbrev pub references_by : ModuleKind → ℕ → ℕ
references_by In count = 16
references_by Out count = 16
references_by InWords count = count
references_by OutWords count = count

-- The references of a module stand among so many of its kind.
abbrev pub has_references : ℕ → Module → Bool
has_references held io_module =
    nat_le 1 io_module.first
    && nat_le (io_module.first + references_by io_module.kind io_module.count) (held + 1)

-- The tests of a module, where its controller has so many references of its kind: it is regular,
-- and its references are there.
abbrev pub module_tests : ℕ → Module → List (Test PlantFault)
module_tests held io_module =
    (is_regular io_module.kind io_module.first io_module.count, BadDrop)
    ∷ (has_references held io_module, BadRef)
    ∷ []

-- The fault that tests end with, where they do.
abbrev pub fault_in : {Fault : Type 0} → Result (Unit {0}) Fault → Option Fault
fault_in (Ok x) = None
fault_in (Err fault) = Some fault

-- The first fault of a module.
unfoldable pub module_fault : ℕ → Module → Option PlantFault
module_fault held io_module = fault_in (first_failed (module_tests held io_module))

-- How many references of a module's kind a controller has.
abbrev pub held_of : Sizes → Module → ℕ
held_of sizes io_module = count_of sizes (carried_kind io_module.kind)

-- The modules of a drop have at most 64 words in and 64 words out.
abbrev pub has_few_words : List Module → Bool
has_few_words modules =
    nat_le (input_total modules) drop_words && nat_le (output_total modules) drop_words

-- A drop that passes its tests: its number is 1 to 32, its modules have no fault in a map of these
-- sizes, and its rows fit them.
pub record IsTested (sizes : Sizes) (drop : IoDrop) : Type 0 where
  pub number : (1 ≤ drop.number) × (drop.number ≤ drop_limit)
  pub modules :
      AllByRecursion (λ io_module. module_fault (held_of sizes io_module) io_module
      ≡ None) drop.modules
  pub rows : AllByRecursion (λ row. fits_row drop.modules row ≡ true) drop.script
  pub words : has_few_words drop.modules ≡ true
