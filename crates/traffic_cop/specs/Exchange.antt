-- What the field gives a drop at an exchange, and what a drop gives the field.
use Rattle.std.specs.Prelude.{◌≡◌, ◌≤◌, ◌<◌, ℕ, ◌+◌, ◌-◌, Bool, true, ◌==◌, min, List, [], ◌∷◌}
use Rattle.std.specs.Prelude.{length, take, drop, replicate, Option, Some, None, slice_get}
use Rattle.std.specs.Prelude.{slice_index}
use Rattle.std.specs.List.{flat_map, sum_by, AllByRecursion}
use Rattle.std.specs.FinMap.{contains_key}
use Rattle.plant_types.specs.declared.reference.Ref.{Ref}
use Rattle.plant_types.specs.declared.reference.RefKind.{RefKind}
use Rattle.plant_types.specs.declared.reference.RefKind.TheVariants.{Coil, Input, InputRegister}
use Rattle.plant_types.specs.declared.reference.RefKind.TheVariants.{Register}
use Rattle.plant_types.specs.declared.drops.ModuleKind.{ModuleKind}
use Rattle.plant_types.specs.declared.drops.ModuleKind.TheVariants.{In, Out, InWords, OutWords}
use Rattle.plant_types.specs.declared.drops.Module.{Module}
use Rattle.plant_types.specs.declared.drops.ScriptRow.{ScriptRow}
use Rattle.plant_types.specs.declared.drops.ScriptRow.TheVariants.{Silent, Row}
use Rattle.plant_types.specs.declared.drops.IoDrop.{IoDrop}
use Rattle.plant_types.specs.Limits.{drop_words}
use Rattle.plant_types.specs.Reference.{ref_from, is_discrete, most_references}
use Rattle.plant_types.specs.Store.{Contents, HasRegisters, words_from, with_words}
use Rattle.plant_types.specs.Discretes.{bits_from, with_bits, word_bits, number_of_bits}

-- The kind of reference that a module carries: inputs, coils, input registers, holding
-- registers. This project's own.
abbrev pub carried_kind : ModuleKind → RefKind
carried_kind In = Input
carried_kind Out = Coil
carried_kind InWords = InputRegister
carried_kind OutWords = Register

-- The first reference of a module. This project's own.
abbrev pub module_at : Module → Ref
module_at io_module = record { kind = carried_kind io_module.kind; number = io_module.first }

-- How many words a module takes from the field, and how many it gives: one for sixteen
-- discretes. This project's own.
abbrev pub inputs_by : ModuleKind → ℕ → ℕ
inputs_by In count = 1
inputs_by InWords count = count
inputs_by _ count = 0

abbrev pub outputs_by : ModuleKind → ℕ → ℕ
outputs_by Out count = 1
outputs_by OutWords count = count
outputs_by _ count = 0

abbrev pub input_count : Module → ℕ
input_count io_module = inputs_by io_module.kind io_module.count

abbrev pub output_count : Module → ℕ
output_count io_module = outputs_by io_module.kind io_module.count

-- The words in and out of all modules. This project's own.
abbrev pub input_total : List Module → ℕ
input_total modules = sum_by input_count modules

abbrev pub output_total : List Module → ℕ
output_total modules = sum_by output_count modules

-- The contents after words of the field came to a module: sixteen inputs by the bits of a word,
-- the first by the highest; input registers by a word each. An output module takes none. This
-- project's own.
abbrev pub put_by : ModuleKind → Ref → List ℕ → Contents → Contents
put_by In at words m = with_bits m at (word_bits (slice_index words 0))
put_by InWords at words m = with_words m at words
put_by _ at words m = m

unfoldable pub put_words : Module → List ℕ → Contents → Contents
put_words io_module words m = put_by io_module.kind (module_at io_module) words m

-- The contents after words of the field came to the modules of a drop, in their order, each taking
-- its words from the front. This project's own.
unfoldable pub put_all : List Module → List ℕ → Contents → Contents
put_all [] words m = m
put_all (io_module ∷ modules) words m =
    put_all modules (drop (input_count io_module) words)
    (put_words io_module (take (input_count io_module) words) m)

-- The words that a module gives the field: sixteen coils as the bits of a word, the first in
-- the highest; a word for each holding register. An input module gives none. This project's
-- own.
abbrev pub given_by : ModuleKind → ℕ → Ref → Contents → List ℕ
given_by Out count at m = number_of_bits (bits_from m at 16) ∷ []
given_by OutWords count at m = words_from m at count
given_by _ count at m = []

unfoldable pub words_given : Contents → Module → List ℕ
words_given m io_module = given_by io_module.kind io_module.count (module_at io_module) m

-- The output words of a drop: those of its modules in their order. This project's own.
abbrev pub output_words : Contents → List Module → List ℕ
output_words m modules = flat_map (words_given m) modules

-- Sixteen discretes from one on are there. This project's own.
pub record HasGroup (m : Contents) (at : Ref) : Type 0 where
  pub kind : is_discrete at.kind ≡ true
  pub range : at.number + 16 ≤ most_references + 1
  pub held : (i : ℕ) → i < 16 → contains_key m (ref_from at i) ≡ true

-- A store has the references of a module. This project's own.
abbrev pub HasModuleBy : ModuleKind → Contents → Ref → ℕ → Type 0
HasModuleBy In m at count = HasGroup m at
HasModuleBy Out m at count = HasGroup m at
HasModuleBy InWords m at count = HasRegisters m at count
HasModuleBy OutWords m at count = HasRegisters m at count

abbrev pub HasModule : Contents → Module → Type 0
HasModule m io_module = HasModuleBy io_module.kind m (module_at io_module) io_module.count

abbrev pub HasModules : Contents → List Module → Type 0
HasModules m modules = AllByRecursion (HasModule m) modules

-- The row of a script at an exchange, counted from 1: the last one stands for all later
-- exchanges. This project's own.
abbrev pub row_at : List ScriptRow → ℕ → Option ScriptRow
row_at script k = slice_get script (min k (length script) - 1)

-- What the field gives a drop at an exchange: the words of its row, zeros where its script is
-- empty, and nothing where its row is silent. This project's own.
abbrev pub exchanged_by : Option ScriptRow → List Module → Contents → Contents
exchanged_by None modules m = put_all modules (replicate (input_total modules) 0) m
exchanged_by (Some Silent) modules m = m
exchanged_by (Some (Row words)) modules m = put_all modules words m

-- The contents after the exchange of that number, counted from 1, of a drop. This project's own.
abbrev pub after_exchange : IoDrop → ℕ → Contents → Contents
after_exchange drop k m = exchanged_by (row_at drop.script k) drop.modules m

-- A row is silent, or has a word for each input word of the modules. This project's own.
abbrev pub fits_row : List Module → ScriptRow → Bool
fits_row modules Silent = true
fits_row modules (Row words) = length words == input_total modules

-- A drop whose rows have as many words as it takes, and which gives at most 64 and takes at
-- most 64. This project's own.
pub record IsDrop (drop : IoDrop) : Type 0 where
  pub rows : AllByRecursion (λ row. fits_row drop.modules row ≡ true) drop.script
  pub inputs : input_total drop.modules ≤ drop_words
  pub outputs : output_total drop.modules ≤ drop_words
