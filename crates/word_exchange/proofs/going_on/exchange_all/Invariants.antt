use Rattle.serial_feed.specs.Standing.{made_by}
use Rattle.word_exchange.specs.Exchanging.{steps_left, IsGoingOn}
use Rattle.word_exchange.proofs.going_on.exchange_all.Given as goal

abbrev pub invariant-repetitions : goal.invariant-repetitions
invariant-repetitions l =
    IsGoingOn l.plant l.wires l.scans l.readers l.wired l.serial l.goes_on

abbrev pub decreases-repetitions : goal.decreases-repetitions
decreases-repetitions l = steps_left l.plant l.scans (made_by l.serial)
