use Rattle.matrix_ops.proofs.SingleLemmas as lemmas
use Rattle.matrix_ops.proofs.single_bits.sets_one_bit.Goals as goal

pub returns : goal.returns
returns c = lemmas.sets_one_bit
