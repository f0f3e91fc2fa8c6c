-- The numbers, places and references that words stand for.
use Rattle.std.specs.Prelude.{ℕ, Bool, ◌&&◌, ◌==◌, nat_le, if◌then◌else◌}
use Rattle.std.specs.Prelude.{List, Option, Some, None, length, drop, slice_index}
use Rattle.std.specs.Prelude.{option_and_then}
use Rattle.std.specs.List.{list_all, before_first, after_first}
use Rattle.plant_types.specs.declared.reference.RefKind.{RefKind}
use Rattle.plant_types.specs.declared.reference.RefKind.TheVariants.{Coil, Input, InputRegister}
use Rattle.plant_types.specs.declared.reference.RefKind.TheVariants.{Register}
use Rattle.plant_types.specs.declared.reference.Ref.{Ref}
use Rattle.plant_types.specs.Reference.{most_references}
use Rattle.plant_types.specs.Numerals.{is_digit, value_of, is_numeral_up_to}
use Rattle.plant_types.specs.Network.{is_row, is_column}

-- One to four digits without a sign, and without a leading zero. This project's own.
abbrev pub is_spelled_number : List ℕ → Bool
is_spelled_number word = is_numeral_up_to 4 word

-- The number that a word stands for. This project's own.
abbrev pub spelled_number : List ℕ → Option ℕ
spelled_number word = if is_spelled_number word then Some (value_of word) else None

-- A row and a column, where they stand in the grid. This project's own.
abbrev pub in_grid : ℕ → ℕ → Option (ℕ × ℕ)
in_grid row column = if is_row row && is_column column then Some (row, column) else None

-- What stands before the first comma of a word, and what stands behind it. This project's own.
abbrev pub row_word : List ℕ → List ℕ
row_word word = before_first (λ byte. byte == 44) word

abbrev pub column_word : List ℕ → List ℕ
column_word word = after_first (λ byte. byte == 44) word

-- The row and the column that a word stands for, separated by a comma. This project's own.
abbrev pub position_of : List ℕ → Option (ℕ × ℕ)
position_of word =
    option_and_then (λ row. option_and_then (in_grid row) (spelled_number (column_word word)))
    (spelled_number (row_word word))

-- Five digits are a reference, or the fault of one. This project's own.
abbrev pub is_reference_word : List ℕ → Bool
is_reference_word word = list_all is_digit word && (length word == 5)

-- The number that the last four of five digits stand for. This project's own.
abbrev pub reference_number : List ℕ → Option ℕ
reference_number word = if is_reference_word word then Some (value_of (drop 1 word)) else None

-- The kind that the first digit of a reference tells. Modicon Ladder Logic Block Library User
-- Guide.
abbrev pub kind_by_digit : ℕ → Option RefKind
kind_by_digit digit =
    if digit == 48 then Some Coil
    else if digit == 49 then Some Input
    else if digit == 51 then Some InputRegister
    else if digit == 52 then Some Register
    else None

-- A reference has a number from 1 to 9984. This project's own.
abbrev pub is_reference_number : ℕ → Bool
is_reference_number number = nat_le 1 number && nat_le number most_references

-- A reference of a kind and such a number. This project's own.
abbrev pub reference_numbered : RefKind → ℕ → Option Ref
reference_numbered kind number =
    if is_reference_number number then Some (record { kind = kind; number = number }) else None

-- The reference that a word stands for: the digit of its kind, then the four of its number.
-- Modicon Ladder Logic Block Library User Guide.
abbrev pub reference_of : List ℕ → Option Ref
reference_of word =
    if is_reference_word word
    then option_and_then (λ kind. reference_numbered kind (value_of (drop 1 word)))
    (kind_by_digit (slice_index word 0))
    else None
