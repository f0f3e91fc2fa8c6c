use Rattle.std.proofs.Common.{◌≡◌, ◌+◌, drop, zip}
use Rattle.std.specs.List.{position_from}
use Rattle.matrix_ops.specs.Bits.{matrix_bits}
use Rattle.matrix_ops.specs.Matrices.{is_apart, first_difference}
use Rattle.matrix_ops.proofs.comparing.difference_behind.Given as goal

abbrev pub invariant-loop-place : goal.invariant-loop-place
invariant-loop-place l =
    position_from is_apart (l.place + 1)
    (drop l.place (zip (matrix_bits l.words) (matrix_bits l.others)))
    ≡ first_difference l.behind (matrix_bits l.words) (matrix_bits l.others)
