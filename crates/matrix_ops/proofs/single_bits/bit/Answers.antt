use Rattle.std.proofs.Common.{◌≡◌, ◌<◌, ◌+◌, ◌-◌, ◌*◌, ◌/◌, ◌%◌, length, get_or, false, sym, ap}
use Rattle.std.proofs.Common.{◌∙◌, arith}
use Rattle.plant_types.specs.Store.{word_at, words_from}
use Rattle.plant_types.proofs.RunLemmas.{length-words_from, get_or-words_from}
use Rattle.plant_types.specs.Discretes.{word_bits}
use Rattle.matrix_ops.specs.Bits.{matrix_bits}
use Rattle.matrix_ops.proofs.BitLemmas.{get_or-matrix_bits}
use Rattle.matrix_ops.proofs.single_bits.bit.Goals as goal

pub returns : goal.returns
returns g c =
    let m = g.R.RefStore.contents c.args.ram.now in
    let ws = words_from m c.args.matrix c.args.length in
    let place = c.args.k - 1 in
    let size = length-words_from m c.args.matrix c.args.length in
    let inside : place / 16 < c.args.length = omega arith in
    let within : place / 16 < length ws = omega arith in
    let whole : 16 * (place / 16) + place % 16 ≡ place = omega arith in
    c.word_bit.ensures
    ∙ ap (λ w. get_or (word_bits w) (place % 16) false)
    (c.word.ensures ∙ ap (word_at m) c.ref_after.ensures
    ∙ sym (get_or-words_from m c.args.matrix c.args.length (place / 16) 0 inside))
    ∙ sym (get_or-matrix_bits ws (place / 16) (place % 16) false within (omega arith))
    ∙ ap (λ p. get_or (matrix_bits ws) p false) whole
