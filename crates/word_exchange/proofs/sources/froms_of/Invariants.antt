use Rattle.std.proofs.Common.{take}
use Rattle.word_exchange.specs.Sources.{AreFromsOf}
use Rattle.word_exchange.proofs.sources.froms_of.Given as goal

abbrev pub invariant-loop-wire : goal.invariant-loop-wire
invariant-loop-wire l = AreFromsOf l.wires (take l.wire-index l.wires) l.froms.items
