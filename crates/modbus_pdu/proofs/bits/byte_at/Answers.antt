use Rattle.std.proofs.Common.{ap, ◌∙◌, arith}
use Rattle.modbus_pdu.specs.Bytes.{bits_number}
use Rattle.modbus_pdu.proofs.Packing.{first_eight}
use Rattle.modbus_pdu.proofs.bits.byte_at.Goals as goal

pub returns : goal.returns
returns c = c.byte_of.ensures.number
    ∙ ap bits_number (first_eight _ _ c.args.bits.now c.min-end.ensures (omega arith))
