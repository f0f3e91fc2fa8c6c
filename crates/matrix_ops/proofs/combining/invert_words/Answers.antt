use Rattle.std.proofs.Common.{◌<◌, arith}
use Rattle.std.specs.Int.{bit_not, w16}
use Rattle.matrix_ops.proofs.MatrixLemmas.{map-by_place}
use Rattle.matrix_ops.proofs.combining.invert_words.Goals as goal

pub returns : goal.returns
returns c =
    map-by_place (bit_not w16) c.args.words.now c.loop-word.words (omega arith)
    (λ k h. let b : k < c.loop-word.word-index = omega arith in c.loop-word.invariant.0 k b)
