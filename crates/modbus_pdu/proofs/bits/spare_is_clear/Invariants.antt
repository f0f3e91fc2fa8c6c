use Rattle.std.proofs.Common.{◌≡◌, ℕ, ◌<◌, ◌≤◌, false, slice_index_or}
use Rattle.modbus_pdu.specs.Bytes.{unpacked}
use Rattle.modbus_pdu.proofs.bits.spare_is_clear.Given as goal

abbrev pub invariant-loop-place : goal.invariant-loop-place
invariant-loop-place l = (place : ℕ) → l.quantity ≤ place → place < l.place
    → slice_index_or (unpacked l.packed) place false ≡ false
