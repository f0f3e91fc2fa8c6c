use Rattle.std.proofs.Common.{◌≡◌, ◌++◌, ◌+◌, length}
use Rattle.modbus_pdu.specs.Bytes.{packed, clear_spare}
use Rattle.modbus_pdu.proofs.draft.Draft.bits.Given as goal

abbrev pub invariant-loop-index : goal.invariant-loop-index
invariant-loop-index l = record {
  bytes : l.self ≡ l.fn.self ++ packed l.index (l.bits ++ clear_spare (length l.bits));
  length : length l.self ≡ length l.fn.self + l.index;
}
