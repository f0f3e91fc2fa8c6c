-- The plan of a controller that is found by its node.
use Rattle.std.proofs.Common.{◌≡◌, ℕ, suc, Bool, true, false, cond, List, [], ◌∷◌}
use Rattle.std.proofs.Common.{Some, arith}
use Rattle.std.specs.Prelude.{Contains, ◌==◌}
use Rattle.std.proofs.lemmas.List.Elements.{All-contains}
use Rattle.plant_types.specs.declared.plan.ControllerPlan.{ControllerPlan}
use Rattle.plant_types.specs.declared.plan.Plant.{Plant}
use Rattle.controller_core.specs.Machine.{IsRunnable}
use Rattle.traffic_cop.specs.Rows.{IsRunnablePlan}
use Rattle.joint_history.specs.JointLaws.{fixed_of}
use Rattle.joint_history.specs.Runnable.{CanRunPlant}
use Rattle.command_words.specs.Words.{IsNumberOfScans}
use Rattle.command_answers.specs.Due.{plan_at}

-- the plan that is found is one of them
pub found-there : (node : ℕ) (plans : List ControllerPlan) (plan : ControllerPlan)
    → Some plan ≡ plan_at node plans → Contains plans plan
found-there node [] plan found = absurd (cc)
found-there node (first ∷ rest) plan found =
    go (first.node == node) (λ e. found-there node rest plan e) found
  where
    go : (t : Bool) → (Some plan ≡ plan_at node rest → Contains rest plan)
        → Some plan ≡ cond t (Some first) (plan_at node rest) → Contains (first ∷ rest) plan
    go true there e =
        let same : first ≡ plan = cc in
        (0, omega arith, same)
    go false there e =
        let at = there e in
        (suc at.0, let low = at.1 in omega (arith, low), at.2)

-- so it can be run where all can
pub found-runs : (plant : Plant) (node scans : ℕ) (plan : ControllerPlan) → CanRunPlant plant
    → IsNumberOfScans scans → Some plan ≡ plan_at node plant.controllers
    → IsRunnable (fixed_of plant scans plan)
found-runs plant node scans plan runs within found = record {
  plan = All-contains IsRunnablePlan plant.controllers plan runs.controllers
      (found-there node plant.controllers plan found);
  scan_time = runs.sound.scan_time.to;
  watchdog = runs.sound.watchdog.from;
  scans = within.to;
}
