use Rattle.std.proofs.Common.{◌≡◌, ◌++◌, drop}
use Rattle.std.specs.List.{filter}
use Rattle.word_exchange.specs.Rows.{ends_at}
use Rattle.word_exchange.proofs.sources.wires_to.Given as goal

abbrev pub invariant-loop-wire : goal.invariant-loop-wire
invariant-loop-wire l =
    l.own.items ++ filter (ends_at l.node l.drop) (drop l.wire-index l.wires)
    ≡ filter (ends_at l.node l.drop) l.wires
