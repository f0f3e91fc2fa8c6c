-- How many references requests and replies may tell. This project's own bounds.
use Rattle.std.specs.Prelude.{ℕ, Bool, true, ◌&&◌, List, [], ◌∷◌, ⊤}
pub use Rattle.plant_types.specs.Limits.{is_up_to}
use Rattle.plant_types.specs.Plans.{IsFromTo}

-- Coils or inputs in one read.
abbrev pub most_discretes_read : ℕ
most_discretes_read = 2000

-- Registers in one read.
abbrev pub most_registers_read : ℕ
most_registers_read = 125

-- Coils in one write.
abbrev pub most_coils_written : ℕ
most_coils_written = 1968

-- Registers in one write.
abbrev pub most_registers_written : ℕ
most_registers_written = 123

-- Registers that function 23 writes.
abbrev pub most_registers_exchanged : ℕ
most_registers_exchanged = 121

-- From one up to a number.
abbrev pub IsUpTo : ℕ → ℕ → Type 0
IsUpTo most count = IsFromTo 1 most count

-- A quantity and its bound.
pub record Quantity : Type 0 where
  pub most : ℕ
  pub count : ℕ

abbrev pub at_most : ℕ → ℕ → Quantity
at_most most count = record { most = most; count = count }

-- Each quantity is at least 1 and within its bound.
abbrev pub EachUpTo : List Quantity → Type 0
EachUpTo [] = ⊤
EachUpTo (quantity ∷ quantities) =
    IsUpTo quantity.most quantity.count × EachUpTo quantities

-- Whether each quantity is.
abbrev pub are_up_to : List Quantity → Bool
are_up_to [] = true
are_up_to (quantity ∷ quantities) =
    is_up_to quantity.most quantity.count && are_up_to quantities
