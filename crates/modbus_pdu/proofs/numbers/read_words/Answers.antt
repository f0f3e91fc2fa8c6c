use Rattle.std.proofs.Common.{arith}
use Rattle.modbus_pdu.proofs.Bytes.{words_read}
use Rattle.modbus_pdu.proofs.numbers.read_words.Goals as goal

pub returns : goal.returns
returns c =
    words_read _ _ (λ i. omega (arith, c.type_inv.bytes i)) (omega arith) c.read_u16_into.ensures
