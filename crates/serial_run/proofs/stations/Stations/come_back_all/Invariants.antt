use Rattle.serial_run.specs.declared.order.Turn.TheVariants.{Away}
use Rattle.serial_run.specs.Held.{IsOffAway}
use Rattle.serial_run.proofs.Rounds.{SomeTurns}
use Rattle.serial_run.proofs.stations.Stations.come_back_all.Given as goal

abbrev pub invariant-loop-at : goal.invariant-loop-at
invariant-loop-at l = SomeTurns Away IsOffAway l.at l.fn.self l.self
