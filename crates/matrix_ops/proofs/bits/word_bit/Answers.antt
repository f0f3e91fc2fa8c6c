use Rattle.std.proofs.Common.{◌==◌, ◌-◌, false, sym, ap, ◌∙◌, arith}
use Rattle.std.proofs.lemmas.Nat.Bits.{shr_and_one}
use Rattle.plant_types.proofs.DiscretesLemmas.{get_or-bits_high_first}
use Rattle.matrix_ops.proofs.bits.word_bit.Goals as goal

pub returns : goal.returns
returns c =
    let k = 15 - c.args.place in
    ap (λ b. b == 1) (shr_and_one c.args.word k)
    ∙ sym (get_or-bits_high_first 16 c.args.word c.args.place k false (omega arith))
