use Rattle.std.proofs.Common.{◌≡◌, ◌++◌, map}
use Rattle.serial_run.specs.Stations.{log_of_ring}
use Rattle.serial_run.proofs.joining.ring_logs_of.Given as goal

abbrev pub invariant-loop-station : goal.invariant-loop-station
invariant-loop-station l = l.logs.items ++ map log_of_ring l.station-iterator.rest.items ≡ map
    log_of_ring l.fn.stations.items
