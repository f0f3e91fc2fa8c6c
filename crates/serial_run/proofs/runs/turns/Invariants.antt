use Rattle.std.proofs.Common.{take}
use Rattle.serial_run.specs.Turns.{MakesTurns, nothing_made}
use Rattle.serial_run.specs.Stations.{StandAll, joint_of}
use Rattle.serial_run.proofs.runs.turns.Given as goal

abbrev pub invariant-loop-turn : goal.invariant-loop-turn
invariant-loop-turn l = record {
  stand : StandAll l.plant l.scans l.run;
  made : MakesTurns l.plant l.scans (take l.turn-index l.order) (nothing_made l.plant)
      (joint_of l.run);
}
