-- The map that packed words stand for.
use Rattle.std.specs.Prelude.{◌≡◌, ◌≤◌, ℕ, ◌-◌, ◌*◌, ◌/◌, ◌%◌, List, ◌++◌, length, take, replicate}
use Rattle.std.specs.Prelude.{map, slice_index_or, slice_set, if◌then◌else◌}
use Rattle.std.specs.FinMap.{from_entries}
use Rattle.plant_types.specs.declared.reference.RefKind.{RefKind}
use Rattle.plant_types.specs.declared.reference.RefKind.TheVariants.{Coil, Input, InputRegister}
use Rattle.plant_types.specs.declared.reference.RefKind.TheVariants.{Register}
use Rattle.plant_types.specs.declared.reference.Ref.{Ref}
use Rattle.plant_types.specs.declared.sizes.Sizes.{Sizes}
use Rattle.plant_types.specs.Sizes.{count_of, zeros}
use Rattle.plant_types.specs.Store.{Contents}
use Rattle.state_ram.specs.Bits.{word_bit}

-- All references of a map of these sizes, each 0. This project's own.
abbrev pub all_zeros : Sizes → List (Ref × ℕ)
all_zeros sizes =
    zeros Coil sizes.coils
    ++ (zeros Input sizes.inputs
    ++ (zeros InputRegister sizes.input_registers ++ zeros Register sizes.registers))

-- All references of these sizes, each with the number that it is given. This project's own.
unfoldable pub filled : Sizes → (Ref → ℕ) → Contents
filled sizes number = from_entries (map (λ e. (e.0, number e.0)) (all_zeros sizes))

-- The words of each kind. This project's own.
pub record Words : Type 0 where
  pub coils : List ℕ
  pub inputs : List ℕ
  pub input_registers : List ℕ
  pub registers : List ℕ

-- The words of a kind. This project's own.
abbrev pub words_of_kind : Words → RefKind → List ℕ
words_of_kind words Coil = words.coils
words_of_kind words Input = words.inputs
words_of_kind words InputRegister = words.input_registers
words_of_kind words Register = words.registers

-- Packed words with those of one kind replaced. This project's own.
abbrev pub with_words_of_kind : Words → RefKind → List ℕ → Words
with_words_of_kind words Coil other = record words { coils = other }
with_words_of_kind words Input other = record words { inputs = other }
with_words_of_kind words InputRegister other = record words { input_registers = other }
with_words_of_kind words Register other = record words { registers = other }

-- Sixteen discretes to a word, and one register. This project's own.
abbrev pub packed_sizes : Words → Sizes
packed_sizes words = record {
  coils = 16 * length words.coils;
  inputs = 16 * length words.inputs;
  input_registers = length words.input_registers;
  registers = length words.registers;
}

-- The bit at a place of many words, as 0 or 1. This project's own.
unfoldable pub bit_in : List ℕ → ℕ → ℕ
bit_in words place = if word_bit (slice_index_or words (place / 16) 0) (place % 16) then 1 else 0

-- The number that words of a kind hold at a place. This project's own.
abbrev pub number_in : RefKind → List ℕ → ℕ → ℕ
number_in Coil words place = bit_in words place
number_in Input words place = bit_in words place
number_in InputRegister words place = slice_index_or words place 0
number_in Register words place = slice_index_or words place 0

-- The number at a reference. This project's own.
abbrev pub packed_number : Words → Ref → ℕ
packed_number words at = number_in at.kind (words_of_kind words at.kind) (at.number - 1)

-- The word of sixteen discretes that holds one of them. This project's own.
abbrev pub group_of : Words → Ref → ℕ
group_of words at = slice_index_or (words_of_kind words at.kind) ((at.number - 1) / 16) 0

-- Packed words with the word of sixteen discretes that holds one of them replaced. This project's
-- own.
abbrev pub with_group : Words → Ref → ℕ → Words
with_group words at word =
    with_words_of_kind words at.kind (slice_set (words_of_kind words at.kind) ((at.number - 1) /
    16) word)

-- The contents that words stand for. This project's own.
unfoldable pub packed_contents : Words → Contents
packed_contents words = filled (packed_sizes words) (packed_number words)

-- A reference that words have a place for. This project's own.
pub record HasPlaceFor (words : Words) (at : Ref) : Type 0 where
  pub from_one : 1 ≤ at.number
  pub within : at.number ≤ count_of (packed_sizes words) at.kind

-- Words that have one number set, and all others as they were. This project's own.
pub record Sets (old new : Words) (at : Ref) (value : ℕ) : Type 0 where
  pub sizes : packed_sizes new ≡ packed_sizes old
  pub here : packed_number new at ≡ value
  pub others : (q : Ref) → 1 ≤ q.number → (q ≡ at → ⊥) → packed_number new q ≡ packed_number old q

-- Words of no more places than others. This project's own.
pub record AreNoMore (words other : Words) : Type 0 where
  pub coils : length words.coils ≤ length other.coils
  pub inputs : length words.inputs ≤ length other.inputs
  pub input_registers : length words.input_registers ≤ length other.input_registers
  pub registers : length words.registers ≤ length other.registers

-- As many words of each kind as there were, taken from others. This project's own.
abbrev pub words_taken : Words → Words → Words
words_taken words other = record {
  coils = take (length words.coils) other.coils;
  inputs = take (length words.inputs) other.inputs;
  input_registers = take (length words.input_registers) other.input_registers;
  registers = take (length words.registers) other.registers;
}

-- Words that are all 0. This project's own.
abbrev pub zero_words : ℕ → ℕ → ℕ → ℕ → Words
zero_words coils inputs input_registers registers = record {
  coils = replicate coils 0;
  inputs = replicate inputs 0;
  input_registers = replicate input_registers 0;
  registers = replicate registers 0;
}
