use Rattle.std.proofs.Common.{◌≡◌, sym, ap, ◌∙◌, arith}
use Rattle.modbus_pdu.specs.Bytes.{words_in, words_bytes}
use Rattle.modbus_pdu.proofs.Bytes.{words_read, words_in-words_bytes}
use Rattle.reply_laws.proofs.result.read_words.Goals as goal

-- Words that were read from bytes are the words in them.
pub returns : goal.returns
returns c =
    let words = c.read_u16_into.new.dst in
    let spelled : words_bytes words ≡ c.args.bytes.now =
    words_read _ _ (λ i. omega (arith, c.type_inv.bytes i)) (omega arith) c.read_u16_into.ensures in
    sym (ap words_in (sym spelled) ∙ words_in-words_bytes words)
