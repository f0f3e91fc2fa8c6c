-- A row that is added to the script of a drop. All of it is this project's own.
use Rattle.std.specs.Prelude.{◌≡◌, ◌≤◌, ℕ, ◌+◌, Bool, true, false, ◌==◌, if◌then◌else◌, List, []}
use Rattle.std.specs.Prelude.{◌∷◌, ◌++◌, length, Option, Some, None}
use Rattle.plant_types.specs.declared.drops.ScriptRow.{ScriptRow}
use Rattle.plant_types.specs.declared.drops.IoDrop.{IoDrop}
use Rattle.plant_types.specs.declared.plan.ControllerPlan.{ControllerPlan}
use Rattle.plant_types.specs.Store.{Contents}
use Rattle.traffic_cop.specs.Drops.{drop_named, input_after, outputs_of, IsNamed}
use Rattle.traffic_cop.specs.Exchange.{fits_row}
use Rattle.traffic_cop.specs.Rows.{IsRunnablePlan}

-- A drop with this row last in its script.
abbrev pub with_row : IoDrop → ScriptRow → IoDrop
with_row drop row = record drop { script = drop.script ++ row ∷ [] }

-- The drops with this row last in the script of the first drop of that number.
unfoldable pub row_fed : List IoDrop → ℕ → ScriptRow → List IoDrop
row_fed [] number row = []
row_fed (drop ∷ drops) number row =
    if drop.number == number then with_row drop row ∷ drops else drop ∷ row_fed drops number row

-- The place of the first drop of a number, counted from 0.
unfoldable pub place_named : List IoDrop → ℕ → ℕ
place_named [] number = 0
place_named (drop ∷ drops) number =
    if drop.number == number then 0 else place_named drops number + 1

-- The plan with this row last in the script of the first drop of that number.
abbrev pub plan_fed : ControllerPlan → ℕ → ScriptRow → ControllerPlan
plan_fed plan number row = record plan { drops = row_fed plan.drops number row }

-- The number of rows of a drop's script; 0 where there is no such drop.
abbrev pub rows_in : Option IoDrop → ℕ
rows_in None = 0
rows_in (Some drop) = length drop.script

abbrev pub row_count : List IoDrop → ℕ → ℕ
row_count drops number = rows_in (drop_named drops number)

-- The row fits a drop that is there: it is silent, or has a word for each of its input words.
abbrev pub fits_in : Option IoDrop → ScriptRow → Bool
fits_in None row = false
fits_in (Some drop) row = fits_row drop.modules row

abbrev pub fits_drop : List IoDrop → ℕ → ScriptRow → Bool
fits_drop drops number row = fits_in (drop_named drops number) row

-- Rows that are added come later: no exchange that has a row of its own changes, nor any exchange
-- of another drop, nor what a drop gives; a plan that can be run still can, where the row fits.
pub record RowsComeLater : Type 0 where
  pub inputs : (drops : List IoDrop) (number other k : ℕ) (row : ScriptRow) (m : Contents) → 1 ≤ k
      → (other ≡ number → k ≤ row_count drops number)
      → input_after (row_fed drops number row) other k m ≡ input_after drops other k m
  pub outputs : (drops : List IoDrop) (number other : ℕ) (row : ScriptRow) (m : Contents)
      → outputs_of (row_fed drops number row) other m ≡ outputs_of drops other m
  pub runs : (plan : ControllerPlan) (number : ℕ) (row : ScriptRow)
      → fits_drop plan.drops number row ≡ true → IsRunnablePlan plan
      → IsRunnablePlan (plan_fed plan number row)
  pub count : (drops : List IoDrop) (number : ℕ) (row : ScriptRow) → IsNamed drops number
      → row_count (row_fed drops number row) number ≡ row_count drops number + 1
  pub fits : (drops : List IoDrop) (number other : ℕ) (row next : ScriptRow)
      → fits_drop (row_fed drops number row) other next ≡ fits_drop drops other next
