use Rattle.std.proofs.Common.{refl, arith}
use Rattle.modbus_pdu.proofs.Bytes.{IsBytes}
use Rattle.std.proofs.lemmas.Result.{err_from_is_err_and}
use Rattle.modbus_pdu.proofs.Coils.{no_coils, coils_there}
use Rattle.modbus_pdu.proofs.decoding.write_coils.Goals as goal

pub returns-in_default : goal.returns-in_default
returns-in_default c = (refl, no_coils c.args.fields.now c.in_default.ensures)

pub returns-in_err-bits : goal.returns-in_err-bits
returns-in_err-bits c =
    let p = err_from_is_err_and c.from_residual.result c.from_residual.ensures.1 in
    let fits : IsBytes c.args.fields.now = λ i. omega (arith, c.type_inv.fields i) in
    let at = c.in-Some in
    rw (p.1, p.2) (
      _,
      coils_there c.args.fields.now at.address at.quantity at.packed.now fits at.ensures
          (record { from = omega arith; to = omega arith }) (omega arith),
    )

pub returns : goal.returns
returns c =
    let fits : IsBytes c.args.fields.now = λ i. omega (arith, c.type_inv.fields i) in
    let at = c.in-Some in
    rw c.in_ok-bits.ensures
    (coils_there c.args.fields.now at.address at.quantity at.packed.now fits at.ensures
    (record { from = omega arith; to = omega arith }) (omega arith))
