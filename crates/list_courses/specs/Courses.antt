-- How the lists of stations go. This project's own.
use Rattle.std.specs.Prelude.{◌≡◌, ◌↔◌, ℕ, ◌+◌, Bool, List, Option, Some, None, IsTrue}
use Rattle.plant_types.specs.declared.net.HostPlan.{HostPlan}
use Rattle.plant_types.specs.declared.plan.ControllerPlan.{ControllerPlan}
use Rattle.plant_types.specs.declared.plan.Plant.{Plant}
use Rattle.controller_core.specs.declared.entry.Entry.{Entry}
use Rattle.controller_core.specs.declared.fixed.Fixed.{Fixed}
use Rattle.controller_core.specs.declared.notes.Notes.{Notes}
use Rattle.controller_core.specs.Controller.{IsLegal}
use Rattle.controller_core.specs.Notes.{notes_of}
use Rattle.host_port.specs.declared.entry.HostEntry.{HostEntry}
use Rattle.host_port.specs.Legal.{IsHostHistory}
use Rattle.joint_history.specs.Complete.{ControllerIsComplete, EndsEachCall}
use Rattle.joint_history.specs.JointLaws.{fixed_of, most_scans}
use Rattle.joint_history.specs.Reading.{host_items_of}
use Rattle.station_laws.specs.Differing.{BreaksAt}
use Rattle.list_courses.specs.declared.following.ControllerCourse.{ControllerCourse}
use Rattle.list_courses.specs.declared.following.ControllerCourse.TheVariants as controllers
use Rattle.list_courses.specs.declared.following.Course.{Course}
use Rattle.list_courses.specs.declared.following.Course.TheVariants.{Breaks, Whole}

-- A list is legal, or breaks off with an entry, counted from 0.
abbrev pub FollowedTo : {E : Type 0} → (List E → Type 0) → List E → Option ℕ → Type 0
FollowedTo Legal entries None = Legal entries
FollowedTo Legal entries (Some place) = BreaksAt Legal entries (place + 1)

-- A list is legal or breaks off with an entry, and whether a station with a legal list was done.
abbrev pub IsCourse : {E : Type 0} → (List E → Type 0) → Type 0 → List E → Course → Type 0
IsCourse Legal Done entries (Breaks place) = BreaksAt Legal entries (place + 1)
IsCourse Legal Done entries (Whole done) = Legal entries × (IsTrue done ↔ Done)

-- The list of a controller is legal or breaks off, and whether it was done.
abbrev pub IsLegalCourse : Fixed → List Entry → Course → Type 0
IsLegalCourse fixed entries =
    IsCourse (IsLegal fixed) (ControllerIsComplete fixed entries) entries

-- The list of a host is legal or breaks off, and whether it has an answer to all that it asked.
abbrev pub IsHostCourse : HostPlan → List HostEntry → Course → Type 0
IsHostCourse plan entries =
    IsCourse (IsHostHistory plan) (EndsEachCall (host_items_of entries)) entries

-- The history is the list, if that was followed to its end.
abbrev pub HasFollowed : {E : Type 0} → List E → List E → Course → Type 0
HasFollowed entries history (Breaks place) = Unit {0}
HasFollowed entries history (Whole done) = history ≡ entries

-- The list of a controller is legal, and the controller was done or not, and noted this.
pub record IsWholeCourse (plant : Plant) (scans : ℕ) (plan : ControllerPlan)
    (entries : List Entry) (is_done : Bool) (notes : Notes) : Type 0 where
  pub legal : IsLegal (fixed_of plant scans plan) entries
  pub done : IsTrue is_done ↔ ControllerIsComplete (fixed_of plant scans plan) entries
  pub notes_are : notes ≡ notes_of (fixed_of plant most_scans plan) entries

-- The list of a controller is legal, or breaks off with an entry.
abbrev pub IsControllerCourse : Plant → ℕ → ControllerPlan → List Entry → ControllerCourse
    → Type 0
IsControllerCourse plant scans plan entries (controllers.Breaks place) =
    BreaksAt (IsLegal (fixed_of plant scans plan)) entries (place + 1)
IsControllerCourse plant scans plan entries (controllers.Whole is_done notes) =
    IsWholeCourse plant scans plan entries is_done notes
