use Rattle.std.proofs.Common.{take}
use Rattle.std.specs.List.{AllZip}
use Rattle.serial_run.specs.Stations.{StartsBridgeSite}
use Rattle.serial_run.proofs.stations.bridges_of.Given as goal

abbrev pub invariant-loop-plan : goal.invariant-loop-plan
invariant-loop-plan l = AllZip (StartsBridgeSite l.plant) (take l.plan-index l.plant.bridges)
    l.sites.items
