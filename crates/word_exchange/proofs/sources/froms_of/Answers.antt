use Rattle.std.proofs.Common.{◌+◌, refl}
use Rattle.word_exchange.proofs.SourceLemmas.{from-more}
use Rattle.word_exchange.proofs.sources.froms_of.Goals as goal

pub loop-wire-preserved : goal.loop-wire-preserved
loop-wire-preserved c =
    let at = c.loop-wire.wire-index in
    from-more c.args.wires.now c.loop-wire.froms.items c.add_from.new.froms.items at (at + 1) _ _
    c.loop-wire-test.true refl refl c.in_ok-add_from.ensures c.loop-wire.invariant
