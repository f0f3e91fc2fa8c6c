-- Numbers in decimal digits. This project's own.
use Rattle.std.specs.Prelude.{ℕ, ◌+◌, ◌*◌, ◌-◌, Bool, not, ◌&&◌, ◌||◌, ◌==◌, nat_le, List, fold}
use Rattle.std.specs.Prelude.{length, slice_index}
use Rattle.std.specs.List.{list_all}

-- A decimal digit.
abbrev pub is_digit : ℕ → Bool
is_digit byte = nat_le 48 byte && nat_le byte 57

-- The number that decimal digits stand for, the highest first.
abbrev pub value_of : List ℕ → ℕ
value_of digits = fold (λ value digit. value * 10 + (digit - 48)) 0 digits

-- A text that does not begin with 0, unless it is 0 alone.
abbrev pub has_no_leading_zero : List ℕ → Bool
has_no_leading_zero text = (length text == 1) || not (slice_index text 0 == 48)

-- Digits, at least one, without a leading zero.
abbrev pub is_numeral : List ℕ → Bool
is_numeral text = list_all is_digit text && (nat_le 1 (length text) && has_no_leading_zero text)

-- Digits, from one to so many, without a leading zero.
abbrev pub is_numeral_up_to : ℕ → List ℕ → Bool
is_numeral_up_to most text =
    list_all is_digit text
    && ((nat_le 1 (length text) && nat_le (length text) most) && has_no_leading_zero text)
