use Rattle.std.proofs.Common.{◌≡◌}
use Rattle.word_exchange.specs.Sources.{sources_due}
use Rattle.word_exchange.proofs.sources.sources_of.Given as goal

abbrev pub invariant-loop-before : goal.invariant-loop-before
invariant-loop-before l =
    l.sources.items ≡ sources_due l.froms l.wires l.node l.drop l.before
