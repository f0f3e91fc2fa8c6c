use Rattle.serial_run.specs.Held.{turns_left}
use Rattle.serial_run.proofs.Repeats.{SomeLate}
use Rattle.serial_run.proofs.stations.Stations.empty_rings.Given as goal

abbrev pub invariant-loop-self : goal.invariant-loop-self
invariant-loop-self l = SomeLate l.fn.self l.self

abbrev pub decreases-loop-self : goal.decreases-loop-self
decreases-loop-self l = turns_left l.self
