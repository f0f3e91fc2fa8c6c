use Rattle.word_exchange.proofs.GivingRows.{GivenSoFar}
use Rattle.word_exchange.proofs.feeding.feed_all.Given as goal

abbrev pub invariant-loop-at : goal.invariant-loop-at
invariant-loop-at l = GivenSoFar l.readers l.fn.wired l.wired l.at l.fn.serial l.serial
