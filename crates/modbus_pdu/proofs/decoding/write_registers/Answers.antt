use Rattle.std.proofs.Common.{refl, arith}
use Rattle.modbus_pdu.proofs.Bytes.{IsBytes}
use Rattle.std.proofs.lemmas.Result.{err_from_is_err_and}
use Rattle.modbus_pdu.proofs.Registers.{no_registers, registers_read, registers_there}
use Rattle.modbus_pdu.proofs.decoding.write_registers.Goals as goal

pub returns-in_default : goal.returns-in_default
returns-in_default c = (refl, no_registers c.args.fields.now c.in_default.ensures)

pub returns-in_err-words : goal.returns-in_err-words
returns-in_err-words c =
    let p = err_from_is_err_and c.from_residual.result c.from_residual.ensures.1 in
    let fits : IsBytes c.args.fields.now = λ i. omega (arith, c.type_inv.fields i) in
    let at = c.in-Some in
    rw (p.1, p.2) (
      _,
      registers_there c.args.fields.now at.address at.quantity at.rest.now fits at.ensures
          (record { from = omega arith; to = omega arith }) (omega arith),
    )

pub returns : goal.returns
returns c =
    registers_read c.args.fields.now c.in-Some.address c.in-Some.quantity c.in-Some.rest.now
    c.in_ok-words.words c.in-Some.ensures
    (record { from = omega arith; to = omega arith }) (omega arith) c.in_ok-words.ensures
