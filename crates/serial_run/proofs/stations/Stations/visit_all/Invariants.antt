use Rattle.std.proofs.Common.{◌≡◌}
use Rattle.serial_run.specs.declared.order.Turn.TheVariants.{Visit}
use Rattle.serial_run.specs.Held.{IsOffAway, IsVisited, Stay, stations_here}
use Rattle.serial_run.proofs.Rounds.{SomeTurns}
use Rattle.serial_run.proofs.stations.Stations.visit_all.Given as goal

abbrev pub invariant-loop-at : goal.invariant-loop-at
invariant-loop-at l = record {
  turns : SomeTurns Visit IsVisited l.at l.fn.self l.self;
  off : Stay IsOffAway l.fn.self l.self;
  here : stations_here l.self ≡ stations_here l.fn.self;
}
