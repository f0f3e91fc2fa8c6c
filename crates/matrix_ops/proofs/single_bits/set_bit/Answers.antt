use Rattle.std.proofs.Common.{◌-◌, ◌%◌, slice_set, sym, ap, ◌∙◌}
use Rattle.std.specs.FinMap.{insert}
use Rattle.plant_types.specs.Discretes.{word_bits, number_of_bits}
use Rattle.plant_types.specs.Store.{word_at}
use Rattle.matrix_ops.proofs.SingleLemmas.{with_matrix_bit-word}
use Rattle.matrix_ops.proofs.single_bits.set_bit.Goals as goal

pub returns-clause-stored : goal.returns-clause-stored
returns-clause-stored g c =
    let m = g.R.RefStore.contents c.args.ram.now in
    let place = (c.args.k - 1) % 16 in
    c.set_word.ensures.stored
    ∙ ap (insert m c.ref_after-at.result) c.with_word_bit-word.ensures
    ∙ ap (λ w. insert m c.ref_after-at.result
    (number_of_bits (slice_set (word_bits w) place c.args.on))) c.word.ensures
    ∙ ap (λ at. insert m at (number_of_bits (slice_set (word_bits (word_at m at)) place c.args.on)))
    c.ref_after-at.ensures
    ∙ sym (with_matrix_bit-word m c.args.matrix c.args.length c.args.k c.args.on c.requires.from_one
    c.requires.within)
