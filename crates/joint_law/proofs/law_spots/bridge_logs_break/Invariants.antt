use Rattle.std.proofs.Common.{None, take}
use Rattle.std.specs.List.{flat_map}
use Rattle.station_laws.specs.Bound.{side_bounds}
use Rattle.joint_law.specs.LawEnds.{IsLogsEnd}
use Rattle.joint_law.proofs.law_spots.bridge_logs_break.Given as goal

abbrev pub invariant-loop-log : goal.invariant-loop-log
invariant-loop-log l =
    IsLogsEnd l.law l.node (flat_map (side_bounds l.ring) (take l.log-index l.logs)) None
