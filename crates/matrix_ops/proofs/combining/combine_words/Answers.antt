use Rattle.std.proofs.Common.{◌<◌, arith}
use Rattle.matrix_ops.specs.Rule.{rule_of}
use Rattle.matrix_ops.proofs.MatrixLemmas.{word_by_word-by_place}
use Rattle.matrix_ops.proofs.combining.combine_words.Goals as goal

pub returns : goal.returns
returns c =
    word_by_word-by_place (rule_of c.args.rule) c.args.words.now c.args.others.now c.loop-i.words
    c.requires (omega arith)
    (λ k h. let b : k < c.loop-i.i = omega arith in c.loop-i.invariant.0 k b)
