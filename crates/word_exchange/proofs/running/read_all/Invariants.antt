use Rattle.word_exchange.specs.Running.{ReadsOn}
use Rattle.word_exchange.proofs.ReadingOn.{ChangedSoFar}
use Rattle.word_exchange.proofs.running.read_all.Given as goal

abbrev pub invariant-loop-at : goal.invariant-loop-at
invariant-loop-at l = ChangedSoFar (ReadsOn l.serial) l.fn.readers l.readers l.at
