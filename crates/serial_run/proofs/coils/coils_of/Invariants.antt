use Rattle.std.proofs.Common.{◌≡◌, ◌≤◌, ◌+◌, ◌*◌, ◌^◌, drop}
use Rattle.std.specs.List.{sum_by, zip}
use Rattle.serial_run.specs.Stations.{station_coils}
use Rattle.serial_run.proofs.coils.coils_of.Given as goal

abbrev pub invariant-loop-at : goal.invariant-loop-at
invariant-loop-at l = record {
  total : l.total + sum_by station_coils (zip (drop l.at l.plans) (drop l.at l.stations))
      ≡ sum_by station_coils (zip l.plans l.stations);
  small : l.total ≤ l.at * 2 ^ 64;
}
