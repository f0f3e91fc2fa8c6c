-- Words of four hexadecimal digits, and scripts with and without rows.
use Rattle.std.proofs.Common.{◌≡◌, ◌≢◌, ℕ, ◌+◌, ◌*◌, ◌≤◌, ◌<◌, true, List, [], ◌∷◌, length, get_or}
use Rattle.std.proofs.Common.{Ok, refl, arith}
use Rattle.std.specs.List.{list_all}
use Rattle.plant_types.specs.declared.fault.Place.{Place}
use Rattle.plant_types.specs.declared.drops.Module.{Module}
use Rattle.plant_types.specs.declared.drops.ScriptRow.{ScriptRow}
use Rattle.plant_tables.specs.Hex.{is_hex_digit, hex_digit}
use Rattle.controller_tables.specs.Drops.{word_spelled, or_zeros}

-- nothing more
zero_more : (n : ℕ) → 0 + n ≡ n
zero_more n = omega arith

-- the word of four digits
hex_four : (place : Place) (a b c d : ℕ) → list_all is_hex_digit (a ∷ b ∷ c ∷ d ∷ []) ≡ true
    → word_spelled place (a ∷ b ∷ c ∷ d ∷ [])
    ≡ Ok (((hex_digit a * 16 + hex_digit b) * 16 + hex_digit c) * 16 + hex_digit d)
hex_four place a b c d h = rw (h, zero_more (hex_digit a)) refl

-- what four digits of a word stand for
pub record Digits (word : List ℕ) (a b c d : ℕ) : Type 0 where
  pub first : a ≡ hex_digit (get_or word 0 0)
  pub second : b ≡ hex_digit (get_or word 1 0)
  pub third : c ≡ hex_digit (get_or word 2 0)
  pub fourth : d ≡ hex_digit (get_or word 3 0)

-- a word of four digits is read as they say
pub word_spelled-four : (place : Place) (word : List ℕ) (a b c d : ℕ)
    → list_all is_hex_digit word ≡ true → 4 ≤ length word → length word < 5 → Digits word a b c d
    → word_spelled place word ≡ Ok (((a * 16 + b) * 16 + c) * 16 + d)
word_spelled-four place (a ∷ b ∷ c ∷ d ∷ []) p q r s h few many digits =
    rw (digits.first, digits.second, digits.third, digits.fourth) (hex_four place a b c d h)
word_spelled-four place (a ∷ b ∷ c ∷ d ∷ e ∷ rest) p q r s h few many digits = absurd (omega arith)
word_spelled-four place (a ∷ b ∷ c ∷ []) p q r s h few many digits = absurd (omega arith)
word_spelled-four place (a ∷ b ∷ []) p q r s h few many digits = absurd (omega arith)
word_spelled-four place (a ∷ []) p q r s h few many digits = absurd (omega arith)
word_spelled-four place [] p q r s h few many digits = absurd (omega arith)

-- a script that has rows is itself
pub some_rows : (modules : List Module) (rows : List ScriptRow) → length rows ≢ 0
    → or_zeros modules rows ≡ rows
some_rows modules [] h = absurd (h refl)
some_rows modules (row ∷ rows) h = refl

-- a script of no rows is none
pub no_rows : (modules : List Module) (rows : List ScriptRow) → length rows ≡ 0
    → or_zeros modules rows ≡ or_zeros modules []
no_rows modules [] h = refl
no_rows modules (row ∷ rows) h = absurd (omega arith)
