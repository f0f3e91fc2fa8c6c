-- What a bench keeps. All of it is this project's own.
use Rattle.std.specs.Prelude.{◌≡◌, ◌+◌, ◌-◌, ◌*◌, ◌==◌, ◌||◌, Bool, false, ℕ, List, []}
use Rattle.std.specs.Prelude.{drop, get_or, if◌then◌else◌, length}
use Rattle.std.specs.List.{list_any}
use Rattle.plant_types.specs.declared.plan.ControllerPlan.{ControllerPlan}
use Rattle.plant_types.specs.declared.plan.PowerRow.{PowerRow}
use Rattle.controller_core.specs.Controller.{ControllerIs}
use Rattle.controller_core.specs.Panel.{line_text, panel_lines}
use Rattle.panel_line.specs.Told.{gone_told, stopped_told}
use Rattle.scan_order.specs.Power.{is_dark_by, is_failure_in}
use Rattle.whole_scan.specs.Scans.{IsBetweenScans}
use Rattle.panel_session.specs.declared.line.Shown.{Shown}
use Rattle.panel_session.specs.Serving.{request_count}

-- What of a plan its panel lines are told by.
abbrev pub shown_of : ControllerPlan → Shown
shown_of plan = record {
  node = plan.node;
  panel = plan.panel;
  orders = length plan.orders;
  power = plan.power;
}

-- A scan ends without power by a power row: power fails in it, or it is a dark one of that row.
abbrev pub ends_off_by : ℕ → ℕ → PowerRow → Bool
ends_off_by orders scan row = is_failure_in orders scan row || is_dark_by scan row

-- A scan ends without power.
abbrev pub is_shown_off : Shown → ℕ → Bool
is_shown_off shown scan = list_any (ends_off_by shown.orders scan) shown.power

-- The line of the scan that was over last, by how many are gone, the stop code, and the values of
-- the panel as each was over.
abbrev pub line_over : Shown → ℕ → ℕ → List ℕ → List ℕ
line_over shown gone stop values =
    if stop == 0
    then line_text gone shown.node
    (gone_told (is_shown_off shown gone) shown.panel
    (drop ((gone - 1) * length shown.panel) values))
    else line_text (gone + 1) shown.node (stopped_told stop)

-- The lines are told by the controller's plan, no scan of it is running, and so many requests were
-- taken.
pub record IsOnBench (shown : Shown) (v : ControllerIs) (served : ℕ) : Type 0 where
  pub shown_is : shown ≡ shown_of v.fixed.plan
  pub between : IsBetweenScans v
  pub rests : v.reserved ≡ false
  pub served_is : served ≡ request_count v.history

-- The panel lines of a controller so far.
abbrev pub lines_of : ControllerIs → List (List ℕ)
lines_of v = panel_lines v.fixed v.history

-- The last of some lines; nothing where there is none.
abbrev pub last_line : List (List ℕ) → List ℕ
last_line lines = get_or lines (length lines - 1) []
