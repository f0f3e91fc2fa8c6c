-- Which controllers can be compared side by side. All of it is this project's own.
use Rattle.std.specs.Prelude.{◌≡◌, ◌<◌, ℕ, Option, Some, None}
use Rattle.plant_types.specs.declared.plan.ControllerPlan.{ControllerPlan}
use Rattle.traffic_cop.specs.Drops.{drop_named}
use Rattle.side_runs.specs.Beside.{AreAlikeDrops, TakeOneField}
use Rattle.field_pair.specs.declared.alike.Difference.{Difference}
use Rattle.field_pair.specs.declared.alike.Difference.TheVariants as differences

-- Two controllers are alike: they have one panel, one scan time, and drops that take one field.
-- Names, watchdogs, sizes, orders of solve and segments may differ.
pub record AreAlike (old new : ControllerPlan) (old_time new_time : ℕ) : Type 0 where
  pub panels : old.panel ≡ new.panel
  pub scan_times : old_time ≡ new_time
  pub drops : TakeOneField old.drops new.drops

-- The panels are one, the scan times differ.
pub record DifferInScanTime (old new : ControllerPlan) (old_time new_time : ℕ) : Type 0 where
  pub panels : old.panel ≡ new.panel
  pub differ : old_time ≡ new_time → ⊥

-- The panels and scan times are one, and this is the least number whose drops do not take one
-- field.
pub record DifferInDrop (old new : ControllerPlan) (old_time new_time number : ℕ) : Type 0 where
  pub panels : old.panel ≡ new.panel
  pub scan_times : old_time ≡ new_time
  pub differ : AreAlikeDrops (drop_named old.drops number) (drop_named new.drops number) → ⊥
  pub least : (less : ℕ) → less < number
      → AreAlikeDrops (drop_named old.drops less) (drop_named new.drops less)

-- The first thing in which two controllers differ, if there is one: the panel, the scan time, or
-- the drop of the least number.
abbrev pub IsFirstDifference : ControllerPlan → ControllerPlan → ℕ → ℕ → Option Difference → Type 0
IsFirstDifference old new old_time new_time None = AreAlike old new old_time new_time
IsFirstDifference old new old_time new_time (Some differences.Panel) = old.panel ≡ new.panel → ⊥
IsFirstDifference old new old_time new_time (Some differences.ScanTime) =
    DifferInScanTime old new old_time new_time
IsFirstDifference old new old_time new_time (Some (differences.Drop number)) =
    DifferInDrop old new old_time new_time number
