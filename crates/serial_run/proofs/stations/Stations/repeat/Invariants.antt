use Rattle.serial_run.specs.Scans.{steps_left}
use Rattle.serial_run.proofs.Repeats.{SomeRepetitions}
use Rattle.serial_run.proofs.stations.Stations.repeat.Given as goal

abbrev pub invariant-loop-self : goal.invariant-loop-self
invariant-loop-self l = SomeRepetitions l.rotations l.fn.self l.self

abbrev pub decreases-loop-self : goal.decreases-loop-self
decreases-loop-self l = steps_left l.self
