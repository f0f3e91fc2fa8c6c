use Rattle.std.proofs.Common.{◌≡◌, ℕ, ◌*◌, ◌<◌, get_or, take, drop}
use Rattle.matrix_ops.specs.Bits.{matrix_bits}
use Rattle.matrix_ops.specs.Matrices.{left_turned}
use Rattle.plant_types.specs.Discretes.{number_of_bits}
use Rattle.matrix_ops.proofs.turning.turn_left.Given as goal

abbrev pub invariant-loop-place : goal.invariant-loop-place
invariant-loop-place l = (k : ℕ) → k < l.place → get_or l.turned k 0
    ≡ number_of_bits (take 16 (drop (16 * k) (left_turned (matrix_bits l.words) l.bit_in)))
