use Rattle.std.proofs.Common.{map, take}
use Rattle.std.specs.List.{AllByRecursion as Each}
use Rattle.entry_causes.specs.InTime.{IsInTime}
use Rattle.entry_causes.specs.Joint.{host_log}
use Rattle.time_judge.proofs.judging.hosts_standstill.Given as goal

abbrev pub invariant-loop-host : goal.invariant-loop-host
invariant-loop-host l = Each (IsInTime l.ring) (map host_log (take l.host-index l.logs))
