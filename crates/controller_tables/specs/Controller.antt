-- The map of a controller, and its panel. This project's own.
use Rattle.std.specs.Prelude.{codes, ℕ, List, Result, Ok}
use Rattle.toml.specs.Data.{Members}
use Rattle.plant_types.specs.declared.reference.Ref.{Ref}
use Rattle.plant_types.specs.declared.fault.PlantFault.TheVariants.{BadRef}
use Rattle.plant_types.specs.declared.sizes.Sizes.{Sizes}
use Rattle.plant_types.specs.Sizes.{has_reference, sizes_from}
use Rattle.cell_text.specs.Steps.{◌>>=◌, or_fault, unless}
use Rattle.cell_text.specs.Words.{text_words, only_word}
use Rattle.cell_text.specs.Numbers.{reference_of}
use Rattle.plant_types.specs.declared.fault.Place.{Place}
use Rattle.plant_types.specs.Fault.{panel_place}
use Rattle.controller_tables.specs.declared.owner.Owner.{Owner}
use Rattle.plant_tables.specs.Refusals.{Refusal}
use Rattle.plant_tables.specs.Keys.{size_at, discrete_size_at}
use Rattle.plant_tables.specs.InOrder.{each_from}

-- The controller of a position, by its node, its network and its map.
abbrev pub owner_from : ℕ → ℕ → ℕ → Sizes → Owner
owner_from position node network sizes =
    record { position = position; node = node; network = network; sizes = sizes }

-- How many references of each kind the controller of a table has.
unfoldable pub sizes_at : Place → Members → Result Sizes Refusal
sizes_at place ms = do
  coils ← discrete_size_at place (codes "coils") ms
  inputs ← discrete_size_at place (codes "inputs") ms
  input_registers ← size_at place (codes "input_registers") ms
  registers ← size_at place (codes "registers") ms
  Ok (sizes_from coils inputs input_registers registers)

-- A text of a panel, counted from 1, is one word, which is a reference of the map.
unfoldable pub panel_item : Owner → ℕ → List ℕ → Result Ref Refusal
panel_item owner number text = do
  word ← or_fault (BadRef, panel_place owner.position number) (only_word (text_words text))
  at ← or_fault (BadRef, panel_place owner.position number) (reference_of word)
  held ← unless (has_reference owner.sizes at) (BadRef, panel_place owner.position number)
  Ok at

-- The references of a panel, one for each text.
abbrev pub panel_of : Owner → List (List ℕ) → Result (List Ref) Refusal
panel_of owner texts = each_from (panel_item owner) 1 texts
