-- States that stand for others at all of their references. All of it is this project's own.
use Rattle.std.specs.Prelude.{◌≡◌}
use Rattle.plant_types.specs.declared.plan.ControllerPlan.{ControllerPlan}
use Rattle.controller_core.specs.Replay.{ControllerState}
use Rattle.field_runs.specs.Alike.{IsAlike, IsSettled}

-- A state that is kept stands for a state that is alike it, and has settled unless it stopped.
pub record StandsWhole (plan : ControllerPlan) (s kept : ControllerState) : Type 0 where
  pub alike : IsAlike s kept
  pub settled : kept.stop ≡ 0 → IsSettled plan kept
