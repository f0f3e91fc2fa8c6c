-- Whole scans of a controller. All of it is this project's own.
use Rattle.std.specs.Prelude.{◌≡◌, ◌<◌, ◌≤◌, ℕ, ◌+◌, false, if◌then◌else◌, length, List, ◌++◌}
use Rattle.scan_order.specs.Due.{due}
use Rattle.controller_core.specs.declared.entry.Entry.{Entry}
use Rattle.controller_core.specs.declared.entry.Maker.TheVariants.{Scan}
use Rattle.controller_core.specs.Run.{entries_from}
use Rattle.controller_core.specs.Scans.{scans_from}
use Rattle.controller_core.specs.Controller.{ControllerIs, ControllerWentOn, has_ended, left_of}
use Rattle.controller_core.specs.Controller.{state_of}

-- The events of the scan that is due in a controller, or of the part of it up to a stop.
abbrev pub scan_events : ControllerIs → List Entry
scan_events v = entries_from v.fixed (state_of v) (due v.fixed.plan ((state_of v).gone + 1))

-- A controller's history after its next whole scan; the same where it has ended.
abbrev pub with_scan : ControllerIs → List Entry
with_scan v = if has_ended v then v.history else v.history ++ scan_events v

-- A controller stands between two scans: whole scans are left of what is due, from the one after
-- those that are gone.
pub record IsBetweenScans (v : ControllerIs) : Type 0 where
  pub many : ℕ
  pub left : (state_of v).stop ≡ 0
      → left_of v.fixed v.history ≡ scans_from v.fixed ((state_of v).gone + 1) many

-- A controller has as many steps left as before, as many scans are gone, it has stopped if it had,
-- and its power is as it was, and has failed as often.
pub record KeepsStepsLeft (v w : ControllerIs) : Type 0 where
  pub fixed : w.fixed ≡ v.fixed
  pub left : left_of w.fixed w.history ≡ left_of v.fixed v.history
  pub gone : (state_of w).gone ≡ (state_of v).gone
  pub stop : (state_of w).stop ≡ (state_of v).stop
  pub powered : (state_of w).powered ≡ (state_of v).powered
  pub failures : (state_of w).failures ≡ (state_of v).failures

-- A controller that has not ended has fewer steps before it.
pub record LessensScan (v w : ControllerIs) : Type 0 where
  pub no_more : length (left_of w.fixed w.history) ≤ length (left_of v.fixed v.history)
  pub less : has_ended v ≡ false
      → length (left_of w.fixed w.history) < length (left_of v.fixed v.history)

-- A controller went on by events of its scan alone, to this history.
pub record MadeEvents (history : List Entry) (old new : ControllerIs) : Type 0 where
  pub history_is : new.history ≡ history
  pub events : List Entry
  pub went_on : ControllerWentOn Scan events old new
