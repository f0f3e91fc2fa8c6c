use Rattle.std.proofs.Common.{◌≡◌, ◌++◌, ◌+◌, ◌*◌, length, take}
use Rattle.modbus_pdu.specs.Bytes.{words_bytes}
use Rattle.modbus_pdu.proofs.draft.Draft.words.Given as goal

abbrev pub invariant-loop-word : goal.invariant-loop-word
invariant-loop-word l = record {
  bytes : l.self ≡ l.fn.self ++ words_bytes (take l.word-index l.words);
  length : length l.self ≡ length l.fn.self + 2 * l.word-index;
}
