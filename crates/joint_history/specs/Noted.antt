-- What a run hands over. This project's own.
use Rattle.std.specs.Prelude.{◌≡◌, List, map}
use Rattle.plant_types.specs.declared.plan.ControllerPlan.{ControllerPlan}
use Rattle.plant_types.specs.declared.plan.Plant.{Plant}
use Rattle.controller_core.specs.declared.notes.Notes.{Notes}
use Rattle.controller_core.specs.Notes.{notes_of}
use Rattle.joint_history.specs.declared.joint.ControllerLog.{ControllerLog}
use Rattle.joint_history.specs.declared.joint.Joint.{Joint}
use Rattle.joint_history.specs.declared.noted.Noted.{Noted}
use Rattle.joint_history.specs.JointLaws.{fixed_of, logged, most_scans}

-- What a controller noted of its panel, by its log. It is the same however many scans it makes.
abbrev pub notes_by_log : Plant → ControllerPlan × ControllerLog → Notes
notes_by_log plant of = notes_of (fixed_of plant most_scans of.0) of.1.entries

-- What each controller of a plant noted of its panel, by its log.
abbrev pub notes_in : Plant → Joint → List Notes
notes_in plant joint = map (notes_by_log plant) (logged plant joint)

-- The notes are those of the joint history's controllers.
abbrev pub IsNoted : Plant → Noted → Type 0
IsNoted plant noted = noted.notes ≡ notes_in plant noted.joint
