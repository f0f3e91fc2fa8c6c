use Rattle.std.proofs.Common.{◌≡◌, ℕ, ◌<◌, false, length, get_or}
use Rattle.std.specs.Prelude.{◌↔◌, IsTrue}
use Rattle.plant_types.specs.declared.plan.ControllerPlan.{ControllerPlan}
use Rattle.joint_history.specs.declared.joint.ControllerLog.{ControllerLog}
use Rattle.controller_core.specs.Controller.{IsLegal}
use Rattle.joint_history.specs.Complete.{ControllerIsComplete}
use Rattle.joint_history.specs.JointLaws.{fixed_of}
use Rattle.joint_law.proofs.CourseEnds.{NotedSoFar}
use Rattle.joint_law.proofs.courses.controllers_course.Given as goal

abbrev pub invariant-loop-at : goal.invariant-loop-at
invariant-loop-at l =
    record {
      size : length l.done ≡ l.at;
      legal : (j : ℕ) (p : ControllerPlan) (g : ControllerLog) → j < l.at
          → IsLegal (fixed_of l.plant l.scans (get_or l.plans j p)) (get_or l.logs j g).entries;
      each : (j : ℕ) (p : ControllerPlan) (g : ControllerLog) → j < l.at
          → IsTrue (get_or l.done j false)
          ↔ ControllerIsComplete (fixed_of l.plant l.scans (get_or l.plans j p))
          (get_or l.logs j g).entries;
      noted : NotedSoFar l.plant l.plans l.logs l.notes l.at;
    }
