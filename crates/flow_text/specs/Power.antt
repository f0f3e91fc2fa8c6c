-- What conducted in the scans of a plant. All of it is this project's own.
use Rattle.std.specs.Prelude.{ℕ, ◌+◌, ◌-◌, List}
use Rattle.std.specs.List.{flat_map, range_with_len}
use Rattle.plant_types.specs.declared.plan.ControllerPlan.{ControllerPlan}
use Rattle.plant_types.specs.declared.plan.Plant.{Plant}
use Rattle.joint_history.specs.declared.joint.ControllerLog.{ControllerLog}
use Rattle.joint_history.specs.declared.joint.Joint.{Joint}
use Rattle.joint_history.specs.JointLaws.{fixed_of, logged, most_scans}
use Rattle.flow_text.specs.Solved.{networks_solved}
use Rattle.flow_text.specs.Lines.{scan_lines}

-- The lines of a controller in a scan, by its log.
abbrev pub log_lines : Plant → ℕ → ControllerPlan × ControllerLog → List ℕ
log_lines plant scan of =
    scan_lines of.0.node (networks_solved (fixed_of plant most_scans of.0) of.1.entries) scan

-- The lines of all controllers in a scan, in rising address.
abbrev pub plant_lines : Plant → Joint → ℕ → List ℕ
plant_lines plant joint scan = flat_map (log_lines plant scan) (logged plant joint)

-- What conducted, from one scan to another: scan by scan the lines of the controllers.
abbrev pub flow : Plant → ℕ → ℕ → Joint → List ℕ
flow plant first last joint =
    flat_map (plant_lines plant joint) (range_with_len first (last + 1 - first))
