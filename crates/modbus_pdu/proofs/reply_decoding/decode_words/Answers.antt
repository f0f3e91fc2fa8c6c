use Rattle.std.proofs.Common.{arith}
use Rattle.modbus_pdu.proofs.Bytes.{IsBytes}
use Rattle.std.proofs.lemmas.Result.{err_from_is_err_and}
use Rattle.modbus_pdu.proofs.Replies.{no_words, words_found, words_there}
use Rattle.modbus_pdu.proofs.reply_decoding.decode_words.Goals as goal

pub returns-in_default : goal.returns-in_default
returns-in_default c =
    no_words c.args.function c.args.quantity c.args.bytes.now c.in_default.ensures

pub returns-in_err-words : goal.returns-in_err-words
returns-in_err-words c =
    let p = err_from_is_err_and c.from_residual.result c.from_residual.ensures.1 in
    let fits : IsBytes c.args.bytes.now = λ i. omega (arith, c.type_inv.bytes i) in
    let at = c.in-Some in
    rw (p.1, p.2)
    (words_there c.args.function c.args.quantity c.args.bytes.now at.rest.now c.requires fits
    at.ensures (record { from = omega arith; to = omega arith }) (omega arith))

pub returns : goal.returns
returns c =
    words_found c.args.function c.args.quantity c.args.bytes.now c.in-Some.rest.now
    c.in_ok-words.words c.requires c.in-Some.ensures
    (record { from = omega arith; to = omega arith }) (omega arith) c.in_ok-words.ensures
