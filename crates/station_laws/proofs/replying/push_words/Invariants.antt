use Rattle.std.proofs.Common.{◌≡◌, ◌++◌, take}
use Rattle.modbus_pdu.specs.Bytes.{words_bytes}
use Rattle.station_laws.proofs.replying.push_words.Given as goal

abbrev pub invariant-loop-word : goal.invariant-loop-word
invariant-loop-word l =
    l.bytes.items ≡ l.initial.bytes.items ++ words_bytes (take l.word-index l.words)
