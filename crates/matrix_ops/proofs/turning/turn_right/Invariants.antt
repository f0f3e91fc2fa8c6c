use Rattle.std.proofs.Common.{◌≡◌, ℕ, ◌*◌, ◌<◌, length, get_or, take, drop}
use Rattle.matrix_ops.specs.Bits.{matrix_bits}
use Rattle.matrix_ops.specs.Matrices.{right_turned}
use Rattle.plant_types.specs.Discretes.{number_of_bits}
use Rattle.matrix_ops.proofs.turning.turn_right.Given as goal

abbrev pub invariant-loop-place : goal.invariant-loop-place
invariant-loop-place l =
    (k : ℕ) → k < l.place
    → get_or l.turned k 0 ≡ number_of_bits (take 16
    (drop (16 * k) (right_turned (16 * length l.words) (matrix_bits l.words) l.bit_in)))
