use Rattle.std.proofs.Common.{sym}
use Rattle.modbus_pdu.proofs.Packing.{unpacked-at}
use Rattle.modbus_pdu.proofs.bits.bit_at.Goals as goal

pub returns : goal.returns
returns c = sym (unpacked-at c.args.packed.now c.args.place c.requires)
