-- A dial. All of it is this project's own.
use Rattle.std.specs.Prelude.{ℕ, zero, suc, ◌+◌, ◌*◌, ◌%◌}

-- The mark behind a move from another: one further, or twice as far, round and round.
abbrev pub behind : ℕ → ℕ → ℕ → ℕ
behind marks mark zero = (mark + 1) % marks
behind marks mark (suc by) = (2 * mark) % marks
