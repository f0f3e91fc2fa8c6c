use Rattle.std.proofs.Common.{◌≡◌, ◌++◌, map}
use Rattle.serial_run.specs.Stations.{log_of, station_notes}
use Rattle.serial_run.proofs.joining.logs_of.Given as goal

abbrev pub invariant-loop-station : goal.invariant-loop-station
invariant-loop-station l = record {
  logs : l.logs.items ++ map log_of l.station-iterator.rest.items
      ≡ map log_of l.fn.stations.items;
  notes : l.notes.items ++ map station_notes l.station-iterator.rest.items
      ≡ map station_notes l.fn.stations.items;
}
