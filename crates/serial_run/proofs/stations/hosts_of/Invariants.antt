use Rattle.std.proofs.Common.{take}
use Rattle.std.specs.List.{AllZip}
use Rattle.serial_run.specs.Stations.{StartsHost}
use Rattle.serial_run.proofs.stations.hosts_of.Given as goal

abbrev pub invariant-loop-plan : goal.invariant-loop-plan
invariant-loop-plan l = AllZip (StartsHost l.plant) (take l.plan-index l.plant.hosts)
    l.stations.items
