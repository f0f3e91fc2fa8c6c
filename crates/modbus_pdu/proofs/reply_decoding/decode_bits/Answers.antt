use Rattle.std.proofs.Common.{refl, arith}
use Rattle.modbus_pdu.proofs.Bytes.{IsBytes}
use Rattle.std.proofs.lemmas.Result.{err_from_is_err_and}
use Rattle.modbus_pdu.proofs.Replies.{no_bits, bits_unclear, bits_found, bits_there}
use Rattle.modbus_pdu.proofs.reply_decoding.decode_bits.Goals as goal

pub returns-in_default : goal.returns-in_default
returns-in_default c = no_bits c.args.function c.args.quantity c.args.bytes.now c.in_default.ensures

pub returns-then-not-spare_is_clear : goal.returns-then-not-spare_is_clear
returns-then-not-spare_is_clear c =
    bits_unclear c.args.function c.args.quantity c.args.bytes.now c.in-Some.packed.now
    c.in-Some.ensures
    (λ clear. absurd (let h = c.if-not-spare_is_clear.ensures.1 clear in cc))

pub returns-in_err-bits : goal.returns-in_err-bits
returns-in_err-bits c =
    let p = err_from_is_err_and c.from_residual.result c.from_residual.ensures.1 in
    let fits : IsBytes c.args.bytes.now = λ i. omega (arith, c.type_inv.bytes i) in
    let at = c.in-Some in
    let clear = c.if-not-spare_is_clear.ensures.0 refl in
    rw (p.1, p.2)
    (bits_there c.args.function c.args.quantity c.args.bytes.now at.packed.now c.requires fits
    at.ensures (record { from = omega arith; to = omega arith }) (omega arith) clear)

pub returns : goal.returns
returns c =
    bits_found c.args.function c.args.quantity c.args.bytes.now c.in-Some.packed.now
    c.in_ok-bits.bits c.requires
    (λ i. omega (arith, c.type_inv.bytes i)) c.in-Some.ensures
    (record { from = omega arith; to = omega arith }) (omega arith)
    (c.if-not-spare_is_clear.ensures.0 refl) c.in_ok-bits.ensures
