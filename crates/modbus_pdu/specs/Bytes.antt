-- Numbers and bits as bytes.
use Rattle.std.specs.Prelude.{ℕ, zero, suc, ◌+◌, ◌*◌, ◌-◌, ◌/◌, ◌%◌, Bool, false, ◌==◌}
use Rattle.std.specs.Prelude.{if◌then◌else◌, List, [], ◌∷◌, ◌++◌, length, take, drop, replicate}
use Rattle.std.specs.Prelude.{slice_index}
use Rattle.std.specs.List.{flat_map}

-- A word as two bytes, the high byte first. Modicon Modbus Protocol Reference Guide.
abbrev pub word_bytes : ℕ → List ℕ
word_bytes word = (word / 256) ∷ (word % 256) ∷ []

-- Words one after the other. Modicon Modbus Protocol Reference Guide.
abbrev pub words_bytes : List ℕ → List ℕ
words_bytes words = flat_map word_bytes words

-- The word that begins at a place of bytes. Modicon Modbus Protocol Reference Guide.
abbrev pub word_in : List ℕ → ℕ → ℕ
word_in bytes place = 256 * slice_index bytes place + slice_index bytes (place + 1)

-- The words that bytes are, two bytes each. Modicon Modbus Protocol Reference Guide.
abbrev pub words_in : List ℕ → List ℕ
words_in [] = []
words_in (high ∷ []) = []
words_in (high ∷ low ∷ rest) = (256 * high + low) ∷ words_in rest

-- The number whose binary digits the bits are, the lowest first. This project's own.
unfoldable pub bits_number : List Bool → ℕ
bits_number [] = 0
bits_number (bit ∷ bits) = (if bit then 1 else 0) + 2 * bits_number bits

-- Bits in so many bytes, eight to a byte. Modicon Modbus Protocol Reference Guide.
unfoldable pub packed : ℕ → List Bool → List ℕ
packed zero bits = []
packed (suc count) bits = bits_number (take 8 bits) ∷ packed count (drop 8 bits)

-- How many bytes so many bits take. Modicon Modbus Protocol Reference Guide.
abbrev pub bytes_for : ℕ → ℕ
bytes_for quantity = (quantity + 7) / 8

-- How many spare bits fill the last byte. Modicon Modbus Protocol Reference Guide.
abbrev pub spare_count : ℕ → ℕ
spare_count quantity = 8 * bytes_for quantity - quantity

-- Spare bits that are 0. Modicon Modbus Protocol Reference Guide.
abbrev pub clear_spare : ℕ → List Bool
clear_spare quantity = replicate (spare_count quantity) false

-- Bits, with spare bits that are 0 behind them. This project's own.
abbrev pub packed_clear : List Bool → List ℕ
packed_clear bits = packed (bytes_for (length bits)) (bits ++ clear_spare (length bits))

-- A byte count, then bits and the spare bits behind them. Modicon Modbus Protocol Reference Guide.
abbrev pub counted_bits : List Bool → List Bool → List ℕ
counted_bits bits spare =
    bytes_for (length bits) ∷ packed (bytes_for (length bits)) (bits ++ spare)

-- A byte count, then words. Modicon Modbus Protocol Reference Guide.
abbrev pub counted_words : List ℕ → List ℕ
counted_words words = (2 * length words) ∷ words_bytes words

-- The binary digits of a number, so many of them, the lowest first. This project's own.
unfoldable pub bit_digits : ℕ → ℕ → List Bool
bit_digits zero number = []
bit_digits (suc count) number = (number % 2 == 1) ∷ bit_digits count (number / 2)

-- The bits in bytes, eight from each. Modicon Modbus Protocol Reference Guide.
unfoldable pub unpacked : List ℕ → List Bool
unpacked [] = []
unpacked (byte ∷ bytes) = bit_digits 8 byte ++ unpacked bytes
