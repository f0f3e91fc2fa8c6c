-- The drops of a controller: their tables, and the texts of modules and script rows. This
-- project's own.
use Rattle.std.specs.Prelude.{codes, ℕ, ◌+◌, ◌*◌, Bool, not, ◌&&◌, ◌==◌, is_some, if◌then◌else◌}
use Rattle.std.specs.Prelude.{List, [], ◌∷◌, length, fold, replicate, Option, Some, None}
use Rattle.std.specs.Prelude.{option_and_then, Result, Ok, Err}
use Rattle.std.specs.List.{list_all}
use Rattle.std.specs.Str.{bytes_eq}
use Rattle.toml.specs.Data.{Members}
use Rattle.plant_types.specs.declared.drops.ModuleKind.{ModuleKind}
use Rattle.plant_types.specs.declared.drops.ModuleKind.TheVariants.{In, Out, InWords, OutWords}
use Rattle.plant_types.specs.declared.drops.Module.{Module}
use Rattle.plant_types.specs.declared.drops.ScriptRow.{ScriptRow}
use Rattle.plant_types.specs.declared.drops.ScriptRow.TheVariants.{Silent, Row}
use Rattle.plant_types.specs.declared.drops.IoDrop.{IoDrop}
use Rattle.plant_types.specs.declared.fault.PlantFault.TheVariants.{BadRef, BadDrop, BadScript}
use Rattle.plant_types.specs.declared.fault.PlantFault.TheVariants.{BadValue, TooLarge}
use Rattle.plant_types.specs.declared.fault.Place.{Place}
use Rattle.plant_types.specs.declared.sizes.Sizes.{Sizes}
use Rattle.cell_text.specs.Steps.{◌>>=◌, or_fault, unless}
use Rattle.cell_text.specs.Words.{text_words, only_word, are_words}
use Rattle.cell_text.specs.Numbers.{spelled_number, reference_number, reference_of}
use Rattle.traffic_cop.specs.Exchange.{input_total}
use Rattle.traffic_cop.specs.Drops.{drop_named}
use Rattle.plant_types.specs.Fault.{at_place}
use Rattle.plant_types.specs.FirstFault.{first_failed}
use Rattle.plant_types.specs.PlanTests.{drop_limit}
use Rattle.traffic_cop.specs.Tests.{is_regular, carries, module_tests, held_of, has_few_words}
use Rattle.traffic_cop.specs.Exchange.{fits_row}
use Rattle.traffic_cop.specs.DropTests.{module_limit, script_limit, drop_place, module_place}
use Rattle.traffic_cop.specs.DropTests.{script_place}
use Rattle.controller_tables.specs.declared.owner.Owner.{Owner}
use Rattle.controller_tables.specs.declared.modules.SpelledModule.{SpelledModule as FoundModule}
use Rattle.plant_tables.specs.Refusals.{Refusal}
use Rattle.plant_tables.specs.Hex.{is_hex_digit, hex_digit}
use Rattle.plant_tables.specs.declared.tables.TableKind.TheVariants as kinds
use Rattle.plant_tables.specs.Tables.{table_passes}
use Rattle.plant_tables.specs.Keys.{number_at_key, texts_at}
use Rattle.plant_tables.specs.InOrder.{with_positions, each_behind, each_of, each_from}

-- A module as its text has it: its kind, the word of its first reference, and how many words it
-- carries.
pub record SpelledModule : Type 0 where
  pub kind : ModuleKind
  pub first : List ℕ
  pub count : ℕ

abbrev pub spelled : ModuleKind → List ℕ → ℕ → SpelledModule
spelled kind first count = record { kind = kind; first = first; count = count }

abbrev pub module_in : FoundModule → SpelledModule
module_in found = spelled found.kind found.first.now found.count

-- The module of these words, where they are `in` or `out` and a reference, or `inw` or `outw`, a
-- reference and a number.
abbrev pub discretes_spelled : List ℕ → List ℕ → Option SpelledModule
discretes_spelled name first =
    if bytes_eq name (codes "in") then Some (spelled In first 1)
    else if bytes_eq name (codes "out") then Some (spelled Out first 1)
    else None

abbrev pub registers_spelled : List ℕ → List ℕ → ℕ → Option SpelledModule
registers_spelled name first count =
    if bytes_eq name (codes "inw") then Some (spelled InWords first count)
    else if bytes_eq name (codes "outw") then Some (spelled OutWords first count)
    else None

-- The one number behind the first two words.
abbrev pub length_in : List (List ℕ) → Option ℕ
length_in words = option_and_then spelled_number (only_word words)

abbrev pub module_spelled : List (List ℕ) → Option SpelledModule
module_spelled (name ∷ first ∷ []) = discretes_spelled name first
module_spelled (name ∷ first ∷ rest) = option_and_then (registers_spelled name first)
    (length_in rest)
module_spelled _ = None

-- The module of a kind, with its first number and its words.
abbrev pub module_from : ModuleKind → ℕ → ℕ → Module
module_from kind first count = record { kind = kind; first = first; count = count }

-- A module of a drop by its text: it reads and is regular, and its references are there.
unfoldable pub module_of : Sizes → Place → List ℕ → Result Module Refusal
module_of sizes place text = do
  spelled ← or_fault (BadDrop, place) (module_spelled (text_words text))
  number ← or_fault (BadDrop, place) (reference_number spelled.first)
  regular ← unless (is_regular spelled.kind number spelled.count) (BadDrop, place)
  at ← or_fault (BadRef, place) (reference_of spelled.first)
  kind ← unless (carries spelled.kind at.kind) (BadRef, place)
  whole ← Ok (module_from spelled.kind at.number spelled.count)
  tested ← at_place place (first_failed (module_tests (held_of sizes whole) whole))
  Ok whole

abbrev pub numbered_module : Owner → ℕ → ℕ → List ℕ → Result Module Refusal
numbered_module owner drop number text =
    module_of owner.sizes (module_place owner.position drop number) text

-- The modules of the drop at a position.
abbrev pub modules_of : Owner → ℕ → List (List ℕ) → Result (List Module) Refusal
modules_of owner drop texts = each_from (numbered_module owner drop) 1 texts

-- The word that four hexadecimal digits stand for, the highest first.
abbrev pub is_hex_word : List ℕ → Bool
is_hex_word word = list_all is_hex_digit word && (length word == 4)

abbrev pub hex_value : List ℕ → ℕ
hex_value word = fold (λ value digit. value * 16 + hex_digit digit) 0 word

abbrev pub word_spelled : Place → List ℕ → Result ℕ Refusal
word_spelled place word = if is_hex_word word then Ok (hex_value word) else Err (BadScript, place)

-- A script row: the word X, or hexadecimal words.
unfoldable pub row_spelled : Place → List (List ℕ) → Result ScriptRow Refusal
row_spelled place words =
    if are_words words (codes "X" ∷ [])
    then Ok Silent
    else each_of (word_spelled place) words >>= λ values. Ok (Row values)

-- A script row of a drop with these modules by its text: it reads, and fits them.
unfoldable pub script_row : List Module → Place → List ℕ → Result ScriptRow Refusal
script_row modules place text = do
  row ← row_spelled place (text_words text)
  fits ← unless (fits_row modules row) (BadScript, place)
  Ok row

abbrev pub numbered_row : ℕ → List Module → ℕ → ℕ → List ℕ → Result ScriptRow Refusal
numbered_row controller modules drop number text =
    script_row modules (script_place controller drop number) text

-- The script rows of the drop at a position of a controller, which has these modules.
abbrev pub rows_of : ℕ → List Module → ℕ → List (List ℕ) → Result (List ScriptRow) Refusal
rows_of controller modules drop texts = each_from (numbered_row controller modules drop) 1 texts

-- A script without rows is one row of zeros.
abbrev pub or_zeros : List Module → List ScriptRow → List ScriptRow
or_zeros modules [] = Row (replicate (input_total modules) 0) ∷ []
or_zeros modules (row ∷ rows) = row ∷ rows

-- A drop from its parts.
abbrev pub drop_from : ℕ → List Module → List ScriptRow → IoDrop
drop_from number modules rows = record { number = number; modules = modules; script = rows }

-- The drop of a number has these modules and these script rows.
unfoldable pub drop_with : Owner → ℕ → ℕ → List (List ℕ) → List (List ℕ) → Result IoDrop Refusal
drop_with owner drop number module_texts row_texts = do
  modules ← modules_of owner drop module_texts
  few ← unless (has_few_words modules) (TooLarge, drop_place owner.position drop)
  rows ← rows_of owner.position modules drop row_texts
  Ok (drop_from number modules (or_zeros modules rows))

-- A drop behind those before it, none of which has its number; a drop's place is its position.
unfoldable pub drop_behind : Owner → List IoDrop → ℕ × Members → Result IoDrop Refusal
drop_behind owner earlier table = do
  place ← Ok (drop_place owner.position table.0)
  keys ← table_passes place kinds.Drop table.1
  number ← number_at_key place BadValue (codes "number") 1 drop_limit table.1
  module_texts ← texts_at place module_limit (codes "modules") table.1
  row_texts ← texts_at place script_limit (codes "script") table.1
  fresh ← unless (not (is_some (drop_named earlier number))) (BadDrop, place)
  drop_with owner table.0 number module_texts row_texts

-- The drops of a controller.
abbrev pub drops_of : Owner → List Members → Result (List IoDrop) Refusal
drops_of owner tables = each_behind (drop_behind owner) [] (with_positions tables)
