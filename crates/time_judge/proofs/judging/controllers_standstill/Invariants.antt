use Rattle.std.proofs.Common.{map, take}
use Rattle.std.specs.List.{AllByRecursion as Each}
use Rattle.entry_causes.specs.InTime.{IsInTime}
use Rattle.entry_causes.specs.Joint.{controller_log}
use Rattle.time_judge.proofs.judging.controllers_standstill.Given as goal

abbrev pub invariant-loop-log : goal.invariant-loop-log
invariant-loop-log l = Each (IsInTime l.ring) (map controller_log (take l.log-index l.logs))
