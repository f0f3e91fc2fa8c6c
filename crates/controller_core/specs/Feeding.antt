-- A row that is added to the script of a drop while a controller runs. All of it is this project's
-- own.
use Rattle.std.specs.Prelude.{◌≡◌, ◌≤◌, ℕ, ◌-◌, true, List, ◌++◌, slice_index}
use Rattle.plant_types.specs.declared.drops.ScriptRow.{ScriptRow}
use Rattle.traffic_cop.specs.Feeding.{fits_drop, plan_fed, row_count, row_fed}
use Rattle.traffic_cop.specs.Rows.{HasDrop}
use Rattle.controller_core.specs.declared.entry.Entry.{Entry}
use Rattle.controller_core.specs.declared.fixed.Fixed.{Fixed}
use Rattle.controller_core.specs.declared.machine.Machine.{Machine}
use Rattle.controller_core.specs.Controller.{ControllerIs, IsLegal}
use Rattle.controller_core.specs.Machine.{IsRunnable}
use Rattle.controller_core.specs.Notes.{noted_values}
use Rattle.controller_core.specs.Replay.{ControllerState, replay}

-- The fixed part with this row last in the script of the drop of that number.
abbrev pub fixed_fed : Fixed → ℕ → ScriptRow → Fixed
fixed_fed fixed drop row = record fixed { plan = plan_fed fixed.plan drop row }

-- A machine whose plan has the row, and whose traffic cop has it too.
abbrev pub machine_fed : Machine → ℕ → ScriptRow → Machine
machine_fed machine drop row = record machine {
  fixed = fixed_fed machine.fixed drop row;
  cop = row_fed machine.cop drop row;
}

-- A controller whose plan has the row; its history stays.
abbrev pub feeding : ControllerIs → ℕ → ScriptRow → ControllerIs
feeding v drop row = record v { fixed = fixed_fed v.fixed drop row }

-- The input exchanges that a drop has made.
abbrev pub exchanges_made : ControllerState → ℕ → ℕ
exchanges_made s drop = slice_index s.exchanges (drop - 1)

-- A row can be added after a history: the drop is there, the row fits it, and it has made at most
-- as many input exchanges as its script has rows.
pub record CanFeedAfter (fixed : Fixed) (history : List Entry) (drop : ℕ) (row : ScriptRow)
    : Type 0 where
  pub there : HasDrop fixed.plan drop
  pub fits : fits_drop fixed.plan.drops drop row ≡ true
  pub exchanges : exchanges_made (replay fixed history) drop ≤ row_count fixed.plan.drops drop

-- A row can be added to the script of a drop of a controller as it is now.
abbrev pub CanFeed : ControllerIs → ℕ → ScriptRow → Type 0
CanFeed v drop row = CanFeedAfter v.fixed v.history drop row

-- Rows that are added keep the histories: with the row the fixed part still can be run, and a
-- history after which the row can be added is replayed to the same state, has noted the same, and
-- is legal where it was; so is each front of it, as the row can be added after a front too.
pub record RowsKeepHistories : Type 0 where
  pub runs : (fixed : Fixed) (drop : ℕ) (row : ScriptRow)
      → fits_drop fixed.plan.drops drop row ≡ true → IsRunnable fixed
      → IsRunnable (fixed_fed fixed drop row)
  pub state : (fixed : Fixed) (history : List Entry) (drop : ℕ) (row : ScriptRow)
      → CanFeedAfter fixed history drop row
      → replay (fixed_fed fixed drop row) history ≡ replay fixed history
  pub notes : (fixed : Fixed) (history : List Entry) (drop : ℕ) (row : ScriptRow)
      → CanFeedAfter fixed history drop row
      → noted_values (fixed_fed fixed drop row) history ≡ noted_values fixed history
  pub legal : (fixed : Fixed) (history : List Entry) (drop : ℕ) (row : ScriptRow)
      → CanFeedAfter fixed history drop row → IsLegal fixed history
      → IsLegal (fixed_fed fixed drop row) history
  pub fronts : (fixed : Fixed) (front rest : List Entry) (drop : ℕ) (row : ScriptRow)
      → CanFeedAfter fixed (front ++ rest) drop row → CanFeedAfter fixed front drop row
