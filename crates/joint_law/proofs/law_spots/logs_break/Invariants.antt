use Rattle.std.proofs.Common.{◌≡◌, ℕ, ◌<◌, get_or}
use Rattle.joint_history.specs.declared.joint.ControllerLog.{ControllerLog}
use Rattle.station_laws.specs.Bound.{controller_bound, KeepsLaw}
use Rattle.joint_law.proofs.law_spots.logs_break.Given as goal

abbrev pub invariant-loop-log : goal.invariant-loop-log
invariant-loop-log l =
    (k : ℕ) (d : ControllerLog) → k < l.log-index → (get_or l.logs k d).node ≡ l.node
    → KeepsLaw l.law (controller_bound l.ring (get_or l.logs k d))
