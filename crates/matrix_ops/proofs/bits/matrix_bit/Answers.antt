use Rattle.std.proofs.Common.{◌/◌, ◌%◌, ◌*◌, ◌+◌, ◌≡◌, ◌<◌, length, get_or, false, sym, ap, ◌∙◌}
use Rattle.std.proofs.Common.{arith}
use Rattle.plant_types.specs.Discretes.{word_bits}
use Rattle.matrix_ops.specs.Bits.{matrix_bits}
use Rattle.matrix_ops.proofs.BitLemmas.{get_or-matrix_bits}
use Rattle.matrix_ops.proofs.bits.matrix_bit.Goals as goal

pub returns : goal.returns
returns c =
    let place = c.args.place in
    let ws = c.args.words.now in
    let whole : 16 * (place / 16) + place % 16 ≡ place = omega arith in
    let within : place / 16 < length ws = omega arith in
    c.word_bit.ensures
    ∙ ap (λ i. get_or (word_bits (get_or ws i 0)) (place % 16) false) c.from.ensures
    ∙ sym (get_or-matrix_bits ws (place / 16) (place % 16) false within (omega arith))
    ∙ ap (λ p. get_or (matrix_bits ws) p false) whole
