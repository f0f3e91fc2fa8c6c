use Rattle.std.proofs.Common.{ℕ, ◌<◌, get_or}
use Rattle.joint_history.specs.declared.joint.BridgeLog.{BridgeLog}
use Rattle.joint_law.specs.AllComplete.{AreEndsDoneOn}
use Rattle.joint_law.proofs.complete.bridges_are_done.Given as goal

abbrev pub invariant-loop-log : goal.invariant-loop-log
invariant-loop-log l =
    (k : ℕ) (d : BridgeLog) → k < l.log-index → AreEndsDoneOn l.on (get_or l.logs k d)
