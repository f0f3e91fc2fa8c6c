-- What a standby keeps. All of it is this project's own.
use Rattle.std.specs.Prelude.{◌≡◌, ℕ, Bool, false}
use Rattle.plant_types.specs.declared.plan.ControllerPlan.{ControllerPlan}
use Rattle.controller_core.specs.Controller.{ControllerIs, state_of}
use Rattle.whole_scan.specs.Scans.{IsBetweenScans}
use Rattle.hot_standby.specs.Part.{scans_made}

-- No scan of the controller is running, and it has done so many.
pub record HoldsScans (v : ControllerIs) (scans : ℕ) : Type 0 where
  pub between : IsBetweenScans v
  pub rests : v.reserved ≡ false
  pub scans_is : scans ≡ scans_made (state_of v)

-- The plan is the controller's, and until the standby has failed it holds whole scans.
pub record IsHeld (plan : ControllerPlan) (v : ControllerIs) (scans : ℕ) (failed : Bool)
    : Type 0 where
  pub plan_is : v.fixed.plan ≡ plan
  pub holds : failed ≡ false → HoldsScans v scans
