-- Hexadecimal digits of either case. This project's own.
use Rattle.std.specs.Prelude.{ℕ, ◌+◌, ◌*◌, ◌-◌, Bool, ◌&&◌, ◌||◌, nat_le, if◌then◌else◌, List, []}
use Rattle.std.specs.Prelude.{◌∷◌}
use Rattle.plant_types.specs.Numerals.{is_digit}

-- A hexadecimal digit of either case, and its value.
abbrev pub is_hex_digit : ℕ → Bool
is_hex_digit byte =
    is_digit byte || (nat_le 65 byte && nat_le byte 70 || nat_le 97 byte && nat_le byte 102)

abbrev pub hex_digit : ℕ → ℕ
hex_digit byte =
    if nat_le byte 57 then byte - 48 else if nat_le byte 70 then byte - 55 else byte - 87

-- The bytes of digits, two for each.
abbrev pub hex_pairs : List ℕ → List ℕ
hex_pairs (high ∷ low ∷ rest) = (hex_digit high * 16 + hex_digit low) ∷ hex_pairs rest
hex_pairs _ = []
