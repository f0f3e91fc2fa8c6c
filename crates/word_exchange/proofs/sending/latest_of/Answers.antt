use Rattle.word_exchange.proofs.WordLemmas.{latest-more}
use Rattle.word_exchange.proofs.sending.latest_of.Goals as goal

pub loop-entry-preserved : goal.loop-entry-preserved
loop-entry-preserved c =
    latest-more c.args.plan.now c.args.drop c.args.entries.now c.loop-entry.entry-index
    c.entry-item.result c.loop-entry.latest.now c.output_or-latest.result.now _
    c.loop-entry-test.true c.entry-item.is c.output_or-latest.ensures c.loop-entry.invariant
