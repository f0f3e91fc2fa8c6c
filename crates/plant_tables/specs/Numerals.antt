-- Decimal numbers that are from a lowest to a highest. This project's own.
use Rattle.std.specs.Prelude.{ℕ, Bool, ◌&&◌, nat_le, if◌then◌else◌, List, Option, Some, None}
use Rattle.plant_types.specs.Numerals.{is_numeral, value_of}

-- The number of a word, where it reads and is from low to high.
abbrev pub is_numeral_within : ℕ → ℕ → List ℕ → Bool
is_numeral_within low high word =
    is_numeral word && (nat_le low (value_of word) && nat_le (value_of word) high)

abbrev pub numeral_within : ℕ → ℕ → List ℕ → Option ℕ
numeral_within low high word = if is_numeral_within low high word then Some (value_of word) else
    None

-- Numbers from here on are told apart from lower ones alone.
abbrev pub most_told : ℕ
most_told = 100000
