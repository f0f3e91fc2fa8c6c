use Rattle.std.proofs.Common.{◌+◌, ◌∙◌, List, ap, refl}
use Rattle.peer_cop.specs.declared.wire.Wire.{Wire}
use Rattle.word_exchange.specs.Sources.{source_due}
use Rattle.word_exchange.proofs.SourceLemmas.{sources-more}
use Rattle.word_exchange.proofs.sources.sources_of.Goals as goal

pub loop-before-preserved : goal.loop-before-preserved
loop-before-preserved c =
    let froms = c.args.froms.now in
    let node = c.args.node in
    let number = c.args.drop in
    let before = c.loop-before.before in
    c.in_ok-push.ensures.items
    ∙ sources-more froms c.args.wires.now c.in_ok-own.own.items node number before (before + 1)
    c.loop-before.sources.items c.source_due.result c.in_ok-own.ensures refl
    (c.source_due.ensures
    ∙ ap (λ (l : List Wire). source_due froms l node number (before + 1)) c.as_slice.ensures.value)
    c.loop-before.invariant
