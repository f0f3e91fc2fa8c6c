use Rattle.std.proofs.Common.{◌≡◌, ℕ, ◌<◌, false, get_or}
use Rattle.joint_history.specs.declared.joint.ControllerLog.{ControllerLog}
use Rattle.joint_law.specs.AllComplete.{IsControllerDone, own_entries}
use Rattle.joint_law.proofs.complete.controllers_are_done.Given as goal

abbrev pub invariant-loop-at : goal.invariant-loop-at
invariant-loop-at l =
    (k : ℕ) (d : ControllerLog) → k < l.at → (get_or l.logs k d).node ≡ l.on.node
    → IsControllerDone l.scans l.on.status (get_or l.logs k d) (get_or l.done k false)
    (own_entries l.on)
