use Rattle.std.proofs.Common.{take}
use Rattle.word_exchange.specs.Starting.{AreWiredOf}
use Rattle.word_exchange.proofs.starting.wired_drops.Given as goal

abbrev pub invariant-loop-wire : goal.invariant-loop-wire
invariant-loop-wire l =
    AreWiredOf l.plant l.wires l.froms (take l.wire-index l.wires) l.readers l.wired.items
