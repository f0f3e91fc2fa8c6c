use Rattle.std.proofs.Common.{◌≡◌, ◌+◌, drop}
use Rattle.plant_tables.specs.InOrder.{each_passes}
use Rattle.plant_loader.specs.Whole.{has_station, have_stations}
use Rattle.plant_loader.proofs.whole.have_stations.Given as goal

-- whether each network left has a station
abbrev pub invariant-loop-net : goal.invariant-loop-net
invariant-loop-net l = record {
  left : each_passes (has_station l.stations) (l.number + 1) (drop l.net-index l.nets)
      ≡ have_stations l.stations l.nets;
  number : l.number ≡ l.net-index;
}
