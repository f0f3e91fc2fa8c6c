use Rattle.std.proofs.Common.{◌≡◌, ℕ, ◌<◌, false, length, get_or}
use Rattle.std.specs.Prelude.{◌↔◌, IsTrue}
use Rattle.plant_types.specs.declared.net.HostPlan.{HostPlan}
use Rattle.joint_history.specs.declared.joint.HostLog.{HostLog}
use Rattle.host_port.specs.Legal.{IsHostHistory}
use Rattle.joint_history.specs.Complete.{EndsEachCall}
use Rattle.joint_history.specs.Reading.{host_items_of}
use Rattle.joint_law.proofs.courses.hosts_course.Given as goal

abbrev pub invariant-loop-at : goal.invariant-loop-at
invariant-loop-at l =
    record {
      size : length l.done ≡ l.at;
      legal : (j : ℕ) (p : HostPlan) (g : HostLog) → j < l.at
          → IsHostHistory (get_or l.plans j p) (get_or l.logs j g).entries;
      each : (j : ℕ) (p : HostPlan) (g : HostLog) → j < l.at
          → IsTrue (get_or l.done j false)
          ↔ EndsEachCall (host_items_of (get_or l.logs j g).entries);
    }
