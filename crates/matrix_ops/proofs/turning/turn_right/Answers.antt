use Rattle.std.proofs.Common.{◌<◌, ◌*◌, length, arith}
use Rattle.matrix_ops.specs.Bits.{matrix_bits}
use Rattle.matrix_ops.specs.Matrices.{right_turned}
use Rattle.matrix_ops.proofs.BitLemmas.{matrix_words-by_place}
use Rattle.matrix_ops.proofs.TurnLemmas.{words-right_turned}
use Rattle.matrix_ops.proofs.turning.turn_right.Goals as goal

pub returns : goal.returns
returns c =
    let ws = c.args.words.now in
    let size = words-right_turned ws c.args.bit_in in
    matrix_words-by_place c.loop-place.turned
    (right_turned (16 * length ws) (matrix_bits ws) c.args.bit_in) (omega arith)
    (λ k h. let b : k < c.loop-place.place = omega arith in c.loop-place.invariant k b)
