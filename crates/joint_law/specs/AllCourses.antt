-- How the lists of all stations, bridges and rings go. This project's own.
use Rattle.std.specs.Prelude.{◌≡◌, ◌↔◌, ℕ, ◌+◌, ◌<◌, Bool, false, List, get_or, length, IsTrue}
use Rattle.plant_types.specs.declared.plan.ControllerPlan.{ControllerPlan}
use Rattle.plant_types.specs.declared.plan.Plant.{Plant}
use Rattle.controller_core.specs.declared.notes.Notes.{Notes}
use Rattle.joint_history.specs.declared.joint.ControllerLog.{ControllerLog}
use Rattle.joint_history.specs.declared.joint.HostLog.{HostLog}
use Rattle.joint_history.specs.declared.joint.Joint.{Joint}
use Rattle.joint_history.specs.Complete.{ControllerIsComplete, EndsEachCall}
use Rattle.joint_history.specs.JointLaws.{fixed_of}
use Rattle.joint_history.specs.Noted.{notes_in}
use Rattle.joint_history.specs.Reading.{host_items_of}
use Rattle.joint_law.specs.Spots.{AreLegalBridgeLogs, AreLegalHostLogs, AreLegalLogs}
use Rattle.joint_law.specs.Spots.{AreLegalRingLogs, BridgeSpot, ControllerSpot, HostSpot, RingSpot}
use Rattle.joint_law.specs.declared.courses.BridgeCourses.{BridgeCourses}
use Rattle.joint_law.specs.declared.courses.BridgeCourses.TheVariants as bridge_courses
use Rattle.joint_law.specs.declared.courses.ControllerCourses.{ControllerCourses}
use Rattle.joint_law.specs.declared.courses.ControllerCourses.TheVariants as courses
use Rattle.joint_law.specs.declared.courses.HostCourses.{HostCourses}
use Rattle.joint_law.specs.declared.courses.HostCourses.TheVariants as host_courses
use Rattle.joint_law.specs.declared.courses.RingCourses.{RingCourses}
use Rattle.joint_law.specs.declared.courses.RingCourses.TheVariants as ring_courses

-- Each controller was done or not, as this list says.
pub record AreDone (plant : Plant) (scans : ℕ) (joint : Joint) (done : List Bool) : Type 0 where
  pub size : length done ≡ length plant.controllers
  pub each : (k : ℕ) (plan : ControllerPlan) (log : ControllerLog) → k < length plant.controllers
      → IsTrue (get_or done k false)
      ↔ ControllerIsComplete (fixed_of plant scans (get_or plant.controllers k plan))
      (get_or joint.controllers k log).entries

-- Each host has an answer to all that it asked or not, as this list says.
pub record AreHostsDone (plant : Plant) (joint : Joint) (done : List Bool) : Type 0 where
  pub size : length done ≡ length plant.hosts
  pub each : (k : ℕ) (log : HostLog) → k < length plant.hosts
      → IsTrue (get_or done k false)
      ↔ EndsEachCall (host_items_of (get_or joint.hosts k log).entries)

-- The lists of all controllers are legal, and each was done or not, and noted this.
pub record AreWholeCourses (plant : Plant) (scans : ℕ) (joint : Joint) (done : List Bool)
    (notes : List Notes) : Type 0 where
  pub legal : AreLegalLogs plant scans joint
  pub are_done : AreDone plant scans joint done
  pub notes_are : notes ≡ notes_in plant joint

-- The list of a controller is the first that is not legal, or all are legal.
abbrev pub ControllersEnd : Plant → ℕ → Joint → ControllerCourses → Type 0
ControllersEnd plant scans joint (courses.Breaks node place) =
    ControllerSpot plant scans joint node (place + 1)
ControllersEnd plant scans joint (courses.Whole done notes) =
    AreWholeCourses plant scans joint done notes

-- The list of a host is the first that is not legal, or all are legal.
abbrev pub HostsEnd : Plant → ℕ → Joint → HostCourses → Type 0
HostsEnd plant scans joint (host_courses.Breaks node place) =
    HostSpot plant scans joint node (place + 1)
HostsEnd plant scans joint (host_courses.Whole done) =
    AreLegalHostLogs plant joint × AreHostsDone plant joint done

-- The list of a bridge is the first that is not legal, or all are legal.
abbrev pub BridgesEnd : Plant → ℕ → Joint → BridgeCourses → Type 0
BridgesEnd plant scans joint (bridge_courses.Breaks left place) =
    BridgeSpot plant scans joint left (place + 1)
BridgesEnd plant scans joint bridge_courses.Whole = AreLegalBridgeLogs plant joint

-- The list of a ring is the first that is not legal, or all are legal.
abbrev pub RingsEnd : Plant → ℕ → Joint → RingCourses → Type 0
RingsEnd plant scans joint (ring_courses.Breaks network place) =
    RingSpot plant scans joint network (place + 1)
RingsEnd plant scans joint ring_courses.Whole = AreLegalRingLogs plant joint
