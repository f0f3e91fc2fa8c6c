use Rattle.std.proofs.Common.{◌≡◌, ℕ, ◌<◌, false, get_or}
use Rattle.plant_types.specs.declared.net.HostPlan.{HostPlan}
use Rattle.joint_history.specs.declared.joint.HostLog.{HostLog}
use Rattle.joint_law.specs.AllComplete.{IsHostNodeDone, own_entries}
use Rattle.joint_law.proofs.complete.hosts_are_done.Given as goal

abbrev pub invariant-loop-at : goal.invariant-loop-at
invariant-loop-at l =
    (k : ℕ) (p : HostPlan) (d : HostLog) → k < l.at → (get_or l.logs k d).node ≡ l.on.node
    → IsHostNodeDone (get_or l.plans k p) l.on.status (get_or l.logs k d) (get_or l.done k false)
    (own_entries l.on)
