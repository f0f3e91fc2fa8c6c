use Rattle.std.proofs.Common.{◌<◌, ◌*◌, ◌%◌, ◌/◌, get_or, ap, ◌∙◌, arith}
use Rattle.std.specs.Prelude.{bit_or}
use Rattle.matrix_ops.proofs.TurnLemmas.{byte_of_bit, right_word-inside, right_word-first}
use Rattle.matrix_ops.proofs.turning.right_word.Goals as goal
use Rattle.matrix_ops.proofs.turning.right_word.Goals.{then-place-gt0, else-place-gt0}

pub returns : goal.returns
returns c =
    let ws = c.args.words.now in
    let place = c.args.place in
    let fits : get_or ws place 0 < 65536 = omega (arith, c.type_inv.words place) in
    elim c.if-place-gt0.branch [
      | then-place-gt0 w ↦ ap (λ b. bit_or (b * 32768 % 65536) (get_or ws place 0 / 2)) w.first-is
          ∙ right_word-inside ws place c.args.bit_in (omega arith) (omega arith) fits
      | else-place-gt0 w ↦ ap (λ b. bit_or (b * 32768 % 65536) (get_or ws place 0 / 2)) w.first-is
          ∙ right_word-first ws place w.from-first.result c.args.bit_in (omega arith)
          (omega arith) fits (w.from-first.ensures ∙ byte_of_bit c.args.bit_in)
    ]
