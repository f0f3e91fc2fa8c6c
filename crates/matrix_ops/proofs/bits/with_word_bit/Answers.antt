use Rattle.std.proofs.Common.{ap, sym, ◌∙◌, set, arith}
use Rattle.plant_types.specs.Discretes.{word_bits, number_of_bits}
use Rattle.matrix_ops.proofs.BitLemmas.{number_of_bits-set_on, number_of_bits-set_off}
use Rattle.matrix_ops.proofs.bits.with_word_bit.Goals as goal

pub returns-then-on : goal.returns-then-on
returns-then-on c =
    number_of_bits-set_on c.args.word c.args.place (omega arith) (omega arith)
    ∙ ap (λ on. number_of_bits (set (word_bits c.args.word) c.args.place on)) (sym c.if-on.true)

pub returns-else-on : goal.returns-else-on
returns-else-on c =
    number_of_bits-set_off c.args.word c.args.place (omega arith) (omega arith)
    ∙ ap (λ on. number_of_bits (set (word_bits c.args.word) c.args.place on)) (sym c.if-on.false)
