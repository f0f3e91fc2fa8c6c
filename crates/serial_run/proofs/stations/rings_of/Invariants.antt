use Rattle.std.proofs.Common.{take}
use Rattle.std.specs.List.{AllZip}
use Rattle.serial_run.specs.Stations.{StartsRing}
use Rattle.serial_run.proofs.stations.rings_of.Given as goal

abbrev pub invariant-loop-net : goal.invariant-loop-net
invariant-loop-net l = AllZip StartsRing (take l.net-index l.plant.nets) l.rings.items
