-- Which rows the vertical shorts of a column join.
use Rattle.std.specs.Prelude.{ℕ, zero, suc, ◌+◌, ◌-◌, Bool, true, ◌&&◌, ◌==◌, nat_le, if◌then◌else◌}
use Rattle.std.specs.Prelude.{List}
use Rattle.std.specs.List.{list_any}
use Rattle.plant_types.specs.declared.network.Short.{Short}

-- A short of this row and the one below it stands at this column. Modicon Ladder Logic Block
-- Library User Guide; at the column's right border by this project's own rule.
abbrev pub is_shorted : List Short → ℕ → ℕ → Bool
is_shorted shorts column row = list_any (λ s. (s.column == column) && (s.row == row)) shorts

-- Each neighbouring pair of so many, from a row down, is shorted at this column. This project's
-- own.
abbrev pub are_shorted : List Short → ℕ → ℕ → ℕ → Bool
are_shorted shorts column row zero = true
are_shorted shorts column row (suc pairs) =
    is_shorted shorts column row && are_shorted shorts column (row + 1) pairs

-- Two rows are joined where each neighbouring pair between them is shorted. Modicon Ladder
-- Logic Block Library User Guide.
abbrev pub is_joined : List Short → ℕ → ℕ → ℕ → Bool
is_joined shorts column one other =
    if nat_le one other then are_shorted shorts column one
    (other - one) else are_shorted shorts column other (one - other)
