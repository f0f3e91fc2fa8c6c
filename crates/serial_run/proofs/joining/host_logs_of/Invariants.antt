use Rattle.std.proofs.Common.{◌≡◌, ◌++◌, map}
use Rattle.serial_run.specs.Stations.{host_log_of}
use Rattle.serial_run.proofs.joining.host_logs_of.Given as goal

abbrev pub invariant-loop-station : goal.invariant-loop-station
invariant-loop-station l = l.logs.items ++ map host_log_of l.station-iterator.rest.items ≡ map
    host_log_of l.fn.stations.items
