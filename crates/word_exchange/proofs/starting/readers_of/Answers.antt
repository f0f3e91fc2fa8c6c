use Rattle.std.proofs.Common.{◌+◌, refl}
use Rattle.word_exchange.specs.Starting.{IsReaderAtStart}
use Rattle.word_exchange.proofs.StartLemmas.{zip-more}
use Rattle.word_exchange.proofs.starting.readers_of.Goals as goal

pub loop-from-preserved : goal.loop-from-preserved
loop-from-preserved c =
    let at = c.loop-from.from-index in
    zip-more (IsReaderAtStart c.args.plant.now) c.args.froms.now c.loop-from.readers.items
    c.push.new.self.items at (at + 1) _ _ c.in_ok-reader_of.field-0 c.loop-from-test.true refl refl
    c.in_ok-push.ensures.items c.loop-from.invariant c.in_ok-reader_of.ensures
