use Rattle.word_exchange.specs.Counting.{Counts}
use Rattle.word_exchange.proofs.ReadingOn.{ChangedSoFar}
use Rattle.word_exchange.proofs.going_on.count_all.Given as goal

abbrev pub invariant-loop-at : goal.invariant-loop-at
invariant-loop-at l = ChangedSoFar (Counts l.serial) l.fn.wired l.wired l.at
