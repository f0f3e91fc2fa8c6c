use Rattle.std.proofs.Common.{◌≡◌, ℕ, ◌<◌, get_or}
use Rattle.joint_history.specs.declared.joint.HostLog.{HostLog}
use Rattle.station_laws.specs.Bound.{host_bound, KeepsLaw}
use Rattle.joint_law.proofs.law_spots.host_logs_break.Given as goal

abbrev pub invariant-loop-log : goal.invariant-loop-log
invariant-loop-log l =
    (k : ℕ) (d : HostLog) → k < l.log-index → (get_or l.logs k d).node ≡ l.node
    → KeepsLaw l.law (host_bound l.ring (get_or l.logs k d))
