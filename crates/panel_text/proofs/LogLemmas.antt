-- The logs of a plant's stations.
use Rattle.std.proofs.Common.{◌≡◌, List, [], ◌∷◌, suc, length, map, refl, ap, arith}
use Rattle.std.proofs.lemmas.List.Elements.{All-head, All-tail}
use Rattle.std.specs.List.{All, AllByRecursion, AllZip, zip}
use Rattle.plant_types.specs.declared.net.HostPlan.{HostPlan}
use Rattle.plant_types.specs.declared.plan.ControllerPlan.{ControllerPlan}
use Rattle.plant_types.specs.declared.plan.Plant.{Plant}
use Rattle.controller_core.specs.Machine.{IsRunnable}
use Rattle.joint_history.specs.declared.joint.ControllerLog.{ControllerLog}
use Rattle.joint_history.specs.declared.joint.HostLog.{HostLog}
use Rattle.controller_core.specs.NotedLines.{NotesTellTheLines}
use Rattle.joint_history.specs.JointLaws.{IsLegalHostLog, IsLegalLog, fixed_of, most_scans}
use Rattle.joint_history.specs.Noted.{notes_by_log}
use Rattle.joint_history.specs.Runnable.{CanRunPlant}
use Rattle.panel_text.specs.Panel.{CanShow, IsHostLog, log_lines}
use Rattle.panel_text.specs.Scans.{runs_noted}

-- each log is a legal one of some host
pub host_logs : (plans : List HostPlan) (logs : List HostLog) → AllZip IsLegalHostLog plans logs
    → AllByRecursion IsHostLog logs
host_logs [] [] legal = tt
host_logs [] (log ∷ logs) legal = absurd legal
host_logs (plan ∷ plans) [] legal = tt
host_logs (plan ∷ plans) (log ∷ logs) legal = ((plan, legal.0.1), host_logs plans logs legal.1)

-- each controller of a plant that can be run can make the most scans
pub controllers_run : (plant : Plant) → CanRunPlant plant
    → All (λ plan. IsRunnable (fixed_of plant most_scans plan)) plant.controllers
controllers_run plant runs = λ k d within. record {
  plan = runs.controllers k d within;
  scan_time = runs.sound.scan_time.to;
  watchdog = runs.sound.watchdog.from;
  scans = omega arith;
}

-- each controller can be run, and its log is legal
pub controller_logs : (plant : Plant) (plans : List ControllerPlan) (logs : List ControllerLog)
    → All (λ plan. IsRunnable (fixed_of plant most_scans plan)) plans
    → AllZip (IsLegalLog plant most_scans) plans logs
    → AllByRecursion (CanShow plant) (zip plans logs)
controller_logs plant [] logs runs legal = tt
controller_logs plant (plan ∷ plans) [] runs legal = tt
controller_logs plant (plan ∷ plans) (log ∷ logs) runs legal =
    let P : ControllerPlan → Type 0 = λ p. IsRunnable (fixed_of plant most_scans p) in (
      record { runs = All-head P plan plans runs; legal = legal.0.1 },
      controller_logs plant plans logs (All-tail P plan plans runs) legal.1,
    )

-- each controller of a plant has notes
pub notes_long : (plant : Plant) (plans : List ControllerPlan) (logs : List ControllerLog)
    → AllZip (IsLegalLog plant most_scans) plans logs
    → length (map (notes_by_log plant) (zip plans logs)) ≡ length plans
notes_long plant [] [] legal = refl
notes_long plant [] (log ∷ logs) legal = absurd legal
notes_long plant (plan ∷ plans) [] legal = absurd legal
notes_long plant (plan ∷ plans) (log ∷ logs) legal = ap suc (notes_long plant plans logs legal.1)

-- and they tell its lines
pub notes_tell : NotesTellTheLines → (plant : Plant) (plans : List ControllerPlan)
    (logs : List ControllerLog) → AllZip (IsLegalLog plant most_scans) plans logs
    → runs_noted plans (map (notes_by_log plant) (zip plans logs))
    ≡ map (log_lines plant) (zip plans logs)
notes_tell law plant [] [] legal = refl
notes_tell law plant [] (log ∷ logs) legal = absurd legal
notes_tell law plant (plan ∷ plans) [] legal = absurd legal
notes_tell law plant (plan ∷ plans) (log ∷ logs) legal =
    λ i. law (fixed_of plant most_scans plan) log.entries legal.0.1 i
    ∷ notes_tell law plant plans logs legal.1 i
