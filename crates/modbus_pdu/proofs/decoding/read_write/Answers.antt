use Rattle.std.proofs.Common.{refl, arith}
use Rattle.modbus_pdu.proofs.Bytes.{IsBytes}
use Rattle.std.proofs.lemmas.Result.{err_from_is_err_and}
use Rattle.modbus_pdu.proofs.ReadWrites.{no_read_write, read_write_read, read_write_there}
use Rattle.modbus_pdu.proofs.decoding.read_write.Goals as goal

pub returns-in_default : goal.returns-in_default
returns-in_default c = (refl, no_read_write c.args.fields.now c.in_default.ensures)

pub returns-in_err-words : goal.returns-in_err-words
returns-in_err-words c =
    let p = err_from_is_err_and c.from_residual.result c.from_residual.ensures.1 in
    let fits : IsBytes c.args.fields.now = λ i. omega (arith, c.type_inv.fields i) in
    let at = c.in-Some in
    rw (p.1, p.2) (
      _,
      read_write_there c.args.fields.now at.read at.quantity at.write at.count at.rest.now fits
          at.ensures (record { from = omega arith; to = omega arith })
          (record { from = omega arith; to = omega arith }) (omega arith),
    )

pub returns : goal.returns
returns c =
    read_write_read c.args.fields.now c.in-Some.read c.in-Some.quantity c.in-Some.write
    c.in-Some.count c.in-Some.rest.now c.in_ok-words.words
    c.in-Some.ensures (record { from = omega arith; to = omega arith })
    (record { from = omega arith; to = omega arith }) (omega arith) c.in_ok-words.ensures
