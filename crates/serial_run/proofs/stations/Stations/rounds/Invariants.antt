use Rattle.serial_run.specs.Held.{IsOffAway, Stay}
use Rattle.serial_run.specs.Scans.{KeepScans}
use Rattle.serial_run.specs.Serial.{MakesRounds}
use Rattle.serial_run.specs.Stations.{Did}
use Rattle.serial_run.proofs.stations.Stations.rounds.Given as goal

abbrev pub invariant-loop : goal.invariant-loop
invariant-loop l = record {
  did : Did (λ plant scans. MakesRounds plant scans l.counter) l.fn.self l.self;
  scans : KeepScans l.fn.self l.self;
  off : Stay IsOffAway l.fn.self l.self;
}
