use Rattle.std.proofs.Common.{◌≡◌, take}
use Rattle.modbus_pdu.specs.Bytes.{unpacked}
use Rattle.modbus_pdu.proofs.bits.unpack.Given as goal

abbrev pub invariant-loop-place : goal.invariant-loop-place
invariant-loop-place l = l.bits.items ≡ take l.place (unpacked l.packed)
