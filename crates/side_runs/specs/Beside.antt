-- Two controllers side by side in one field. All of it is this project's own.
use Rattle.std.specs.Prelude.{◌≡◌, ℕ, List, length}
use Rattle.std.specs.Prelude.{Option, Some, None, slice_get}
use Rattle.std.specs.List.{AllByRecursion}
use Rattle.plant_types.specs.declared.drops.IoDrop.{IoDrop}
use Rattle.plant_types.specs.declared.drops.ScriptRow.{ScriptRow}
use Rattle.plant_types.specs.declared.plan.ControllerPlan.{ControllerPlan}
use Rattle.traffic_cop.specs.Drops.{drop_named}
use Rattle.controller_core.specs.declared.fixed.Fixed.{Fixed}
use Rattle.controller_core.specs.Replay.{ControllerState}
use Rattle.field_runs.specs.Alike.{IsAlike}
use Rattle.field_runs.specs.Field.{state_after}
use Rattle.side_runs.specs.Brought.{Brings, NamesRows, ScanField}

-- Each row of a script is one of another.
abbrev pub HasRowsOf : List ScriptRow → List ScriptRow → Type 0
HasRowsOf script other =
    (i : ℕ) (row : ScriptRow) → slice_get script i ≡ Some row
    → (j : ℕ) × (slice_get other j ≡ Some row)

-- Two drops take one field: they have the same modules, and the same rows, in any order, however
-- often.
pub record TakeTheSame (one other : IoDrop) : Type 0 where
  pub modules : one.modules ≡ other.modules
  pub in_other : HasRowsOf one.script other.script
  pub in_one : HasRowsOf other.script one.script

-- The drops of a number, if there are any: both are there and take one field, or neither is there.
abbrev pub AreAlikeDrops : Option IoDrop → Option IoDrop → Type 0
AreAlikeDrops None None = Unit {0}
AreAlikeDrops None (Some other) = ⊥
AreAlikeDrops (Some one) None = ⊥
AreAlikeDrops (Some one) (Some other) = TakeTheSame one other

-- Two controllers take one field: their drops of each number do.
abbrev pub TakeOneField : List IoDrop → List IoDrop → Type 0
TakeOneField old new =
    (number : ℕ) → AreAlikeDrops (drop_named old number) (drop_named new number)

-- Two plans play side by side for so many scans, one in the field of an old controller, one in that
-- of a new one: both bring in each scan what one field brings, the same row at the same exchange
-- with a drop in that scan. The rows are those of the old controller's drops.
pub record PlaySideBySide (old new : Fixed) (one other : ControllerPlan) (scans : ℕ)
    : Type 0 where
  pub fields : List ScanField
  pub as_many : length fields ≡ scans
  pub named : AllByRecursion (NamesRows old.plan.drops) fields
  pub old_brings : Brings old old.plan.drops fields one
  pub new_brings : Brings new old.plan.drops fields other

-- The states of two controllers side by side.
pub record StatePair : Type 0 where
  pub old : ControllerState
  pub new : ControllerState

-- The states after so many scans of two runs.
abbrev pub pair_after : Fixed → Fixed → ControllerPlan → ControllerPlan → ℕ → StatePair
pair_after old new one other scans = record {
  old = state_after one old.scan_time old.watchdog scans;
  new = state_after other new.scan_time new.watchdog scans;
}

-- Two pairs of states are alike: the states of each controller are.
pub record AreAlikePairs (s t : StatePair) : Type 0 where
  pub old : IsAlike s.old t.old
  pub new : IsAlike s.new t.new
