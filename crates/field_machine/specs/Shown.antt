-- What a run of a field shows of its panel. All of it is this project's own.
use Rattle.std.specs.Prelude.{◌≡◌, ℕ, List, ◌++◌, length}
use Rattle.std.specs.List.{flat_map, range_with_len}
use Rattle.plant_types.specs.declared.plan.ControllerPlan.{ControllerPlan}
use Rattle.scan_order.specs.Due.{full_scan}
use Rattle.ladder_solver.specs.declared.places.BlockPlace.{BlockPlace}
use Rattle.controller_core.specs.declared.fixed.Fixed.{Fixed}
use Rattle.controller_core.specs.Notes.{values_of}
use Rattle.controller_core.specs.Replay.{ControllerState}
use Rattle.field_runs.specs.Alike.{IsAlike}
use Rattle.field_runs.specs.Played.{with_scripts}
use Rattle.field_runs.specs.Scan.{scanned}
use Rattle.field_machine.specs.declared.shown.Shown.{Shown}
use Rattle.field_machine.specs.Choices.{told_by}
use Rattle.field_machine.specs.Keys.{state_in, IsKeyOf}
use Rattle.field_machine.specs.Never.{state_of_run, told_in_ways}

-- The values of the panel in a state, and after so many scans of a run.
abbrev pub panel_in : ControllerPlan → ControllerState → List ℕ
panel_in plan s = values_of s.solving.map plan.panel

abbrev pub panel_after : Fixed → ControllerPlan → ℕ → List ℕ
panel_after fixed played scans = panel_in fixed.plan (state_of_run fixed played scans)

-- What the run of a field shows in which the field brings rows in these ways, one for each scan: the
-- values of the panel after each of these scans, and the stop code after the last.
pub record IsShownBy (fixed : Fixed) (ways : List ℕ) (shown : Shown) : Type 0 where
  pub values : shown.values.items
      ≡ flat_map (panel_after fixed (with_scripts fixed.plan (told_in_ways fixed.plan ways)))
      (range_with_len 1 (length ways))
  pub stop : shown.stop
      ≡ (state_of_run fixed (with_scripts fixed.plan (told_in_ways fixed.plan ways))
      (length ways)).stop

-- A scan in which the field brings rows in a way leads from the state of a key to that of another,
-- and its panel is added to the values of those before it.
pub record ShowsScan (fixed : Fixed) (places : List BlockPlace) (way : ℕ)
    (from to old new : List ℕ) : Type 0 where
  pub after : ControllerState
  pub behind : IsAlike (scanned fixed (told_by fixed.plan (full_scan fixed.plan) way)
      (state_in fixed.plan places from)) after
  pub key : IsKeyOf fixed.plan places after to
  pub values : new ≡ old ++ panel_in fixed.plan after
