use Rattle.serial_run.proofs.Rounds.{SomeHolds}
use Rattle.serial_run.proofs.stations.Stations.round_on.Given as goal

abbrev pub invariant-loop : goal.invariant-loop
invariant-loop l = SomeHolds l.network l.counter l.fn.self l.self
