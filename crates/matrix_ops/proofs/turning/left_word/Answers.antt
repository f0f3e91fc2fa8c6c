use Rattle.std.proofs.Common.{◌+◌, ◌<◌, ◌*◌, ◌%◌, get_or, ap, ◌∙◌, arith}
use Rattle.std.specs.Prelude.{bit_or}
use Rattle.matrix_ops.proofs.TurnLemmas.{byte_of_bit, left_word-inside, left_word-last}
use Rattle.matrix_ops.proofs.turning.left_word.Goals as goal
use Rattle.matrix_ops.proofs.turning.left_word.Goals.{then-place-words, else-place-words}

pub returns : goal.returns
returns c =
    let ws = c.args.words.now in
    let place = c.args.place in
    let fits : get_or ws place 0 < 65536 = omega (arith, c.type_inv.words place) in
    elim c.if-place-words.branch [
      | then-place-words w ↦ ap (λ b. bit_or (get_or ws place 0 * 2 % 65536) b) w.last-is
          ∙ left_word-inside ws place c.args.bit_in (omega arith) fits
          (omega (arith, c.type_inv.words (place + 1)))
      | else-place-words w ↦ ap (λ b. bit_or (get_or ws place 0 * 2 % 65536) b) w.last-is
          ∙ left_word-last ws place w.from-last.result c.args.bit_in (omega arith) fits
          (w.from-last.ensures ∙ byte_of_bit c.args.bit_in)
    ]
