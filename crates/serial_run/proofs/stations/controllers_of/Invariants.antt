use Rattle.std.proofs.Common.{take}
use Rattle.std.specs.List.{AllZip}
use Rattle.serial_run.specs.Stations.{StartsController}
use Rattle.serial_run.proofs.stations.controllers_of.Given as goal

abbrev pub invariant-loop-plan : goal.invariant-loop-plan
invariant-loop-plan l = AllZip (StartsController l.plant l.scans)
    (take l.plan-index l.plant.controllers) l.stations.items
