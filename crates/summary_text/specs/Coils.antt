-- The coils that are on where the logs of controllers end. This project's own.
use Rattle.std.specs.Prelude.{ℕ, List, map}
use Rattle.std.specs.List.{count_by, range_with_len, sum_by}
use Rattle.plant_types.specs.declared.reference.Ref.{Ref}
use Rattle.plant_types.specs.declared.plan.ControllerPlan.{ControllerPlan}
use Rattle.plant_types.specs.declared.plan.Plant.{Plant}
use Rattle.plant_types.specs.Reference.{coil_at}
use Rattle.plant_types.specs.Store.{Contents, is_on}
use Rattle.controller_core.specs.Replay.{replay}
use Rattle.joint_history.specs.declared.joint.ControllerLog.{ControllerLog}
use Rattle.joint_history.specs.declared.joint.Joint.{Joint}
use Rattle.joint_history.specs.JointLaws.{fixed_of, logged, most_scans}

-- All coils of a controller, from 1 on.
abbrev pub all_coils : ControllerPlan → List Ref
all_coils plan = map coil_at (range_with_len 1 plan.coils)

-- What a controller's store holds where its log ends.
abbrev pub store_at_end : Plant → ControllerPlan × ControllerLog → Contents
store_at_end plant of = (replay (fixed_of plant most_scans of.0) of.1.entries).solving.map

-- How many coils of a controller are on at the end of its list.
abbrev pub coils_by_log : Plant → ControllerPlan × ControllerLog → ℕ
coils_by_log plant of = count_by (is_on (store_at_end plant of)) (all_coils of.0)

-- How many coils of all controllers are on where their logs end.
abbrev pub coils_at_end : Plant → Joint → ℕ
coils_at_end plant joint = sum_by (coils_by_log plant) (logged plant joint)
