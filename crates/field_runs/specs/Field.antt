-- What the field may bring. All of it is this project's own.
use Rattle.std.specs.Prelude.{◌≡◌, ◌<◌, ℕ, length, slice_get, Some}
use Rattle.std.specs.List.{AllZip}
use Rattle.plant_types.specs.declared.drops.ScriptRow.{ScriptRow}
use Rattle.plant_types.specs.declared.drops.IoDrop.{IoDrop}
use Rattle.plant_types.specs.declared.plan.ControllerPlan.{ControllerPlan}
use Rattle.controller_core.specs.Controller.{fixed_with}
use Rattle.controller_core.specs.Replay.{ControllerState, replay}
use Rattle.controller_core.specs.Run.{run_of}

-- A drop is another but for its script: each row of it is one of the other's rows, and it has a row
-- where the other has one.
pub record IsPlayedBy (drop played : IoDrop) : Type 0 where
  pub others : played ≡ record drop { script = played.script }
  pub rows : (i : ℕ) (row : ScriptRow) → slice_get played.script i ≡ Some row
      → (j : ℕ) × (slice_get drop.script j ≡ Some row)
  pub some : 0 < length drop.script → 0 < length played.script

-- A plan plays in the field of another: it is that plan but for the scripts of its drops, and what
-- these bring the field may bring: at each exchange one of the rows of that drop, in any order,
-- however often.
pub record PlaysInField (plan played : ControllerPlan) : Type 0 where
  pub others : played ≡ record plan { drops = played.drops }
  pub drops : AllZip IsPlayedBy plan.drops played.drops

-- The state of a controller that is alone after its first scans, so many of them, or after its
-- stop.
abbrev pub state_after : ControllerPlan → ℕ → ℕ → ℕ → ControllerState
state_after plan scan_time watchdog scans =
    let fixed = fixed_with plan scan_time watchdog scans in
    replay fixed (run_of fixed)
