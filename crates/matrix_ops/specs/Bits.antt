-- The bits of a matrix of registers.
use Rattle.std.specs.Prelude.{ℕ, ◌+◌, ◌-◌, ◌*◌, ◌/◌, Bool, false}
use Rattle.std.specs.Prelude.{List, [], ◌∷◌, ◌++◌, length, take, drop, slice_index_or, map}
use Rattle.std.specs.List.{range_with_len}
use Rattle.plant_types.specs.Discretes.{word_bits, number_of_bits}

-- The bits of a matrix: those of its registers, one after another. Modicon Ladder Logic Block
-- Library User Guide.
unfoldable pub matrix_bits : List ℕ → List Bool
matrix_bits [] = []
matrix_bits (word ∷ words) = word_bits word ++ matrix_bits words

-- The bit of a number that counts from 1. Modicon Ladder Logic Block Library User Guide.
abbrev pub bit_number : List Bool → ℕ → Bool
bit_number bits k = slice_index_or bits (k - 1) false

-- The register at a place of those that have these bits, 16 in each. Modicon Ladder Logic Block
-- Library User Guide.
abbrev pub matrix_word : List Bool → ℕ → ℕ
matrix_word bits place = number_of_bits (take 16 (drop (16 * place) bits))

-- The registers that have these bits. Modicon Ladder Logic Block Library User Guide.
unfoldable pub matrix_words : List Bool → List ℕ
matrix_words bits = map (matrix_word bits) (range_with_len 0 (length bits / 16))
