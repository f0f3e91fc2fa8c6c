-- What the fields of a controller keep.
use Rattle.std.specs.Prelude.{◌≡◌, ◌≤◌, ◌<◌, ◌+◌, ℕ, Bool, true, List, length}
use Rattle.scan_order.specs.declared.due.ScanPlace.{ScanPlace}
use Rattle.scan_order.specs.declared.due.ScanPlace.TheVariants as places
use Rattle.scan_order.specs.Due.{IsPlace}
use Rattle.controller_core.specs.declared.fixed.Fixed.{Fixed}
use Rattle.controller_core.specs.declared.entry.Entry.{Entry}
use Rattle.controller_core.specs.declared.machine.Machine.{Machine}
use Rattle.controller_core.specs.Replay.{replay}
use Rattle.controller_core.specs.Event.{scan_steps}
use Rattle.controller_core.specs.Machine.{state_is, IsSound, IsTimely}
use Rattle.controller_core.specs.Scans.{left_in_scan, scans_at, IsPlaced}
use Rattle.controller_core.specs.Controller.{IsLegal}
use Rattle.controller_core.specs.Notes.{IsPanelNoted}

-- While a scan runs and the controller goes on, networks are left to the watchdog. This project's
-- own.
abbrev pub IsWatched : ScanPlace → Machine → Type 0
IsWatched places.Start machine = Unit {0}
IsWatched at machine = machine.stop ≡ 0 → 0 < machine.watch.left

-- The machine is in the state of the history, which is legal, and at the place that its steps lead
-- to. This project's own.
pub record IsKept (fixed : Fixed) (machine : Machine) (history : List Entry)
    (at : ScanPlace) : Type 0 where
  pub fixed_is : machine.fixed ≡ fixed
  pub sound : IsSound machine
  pub legal : IsLegal fixed history
  pub state : state_is machine ≡ replay fixed history
  pub steps : IsPlaced fixed (scan_steps history) machine.gone at
  pub place : IsPlace fixed.plan at
  pub within : scans_at at machine.gone ≤ fixed.scans
  pub watched : IsWatched at machine
  pub timely : IsTimely machine (length (scan_steps history))

-- A controller is kept so, and its panel noted, with room for the rest of a scan whose memory is
-- reserved. This project's own.
pub record IsWhole (machine : Machine) (history : List Entry) (at : ScanPlace) (reserved : Bool)
    (capacity : ℕ) (values : List ℕ) (values_capacity : ℕ) : Type 0 where
  pub kept : IsKept machine.fixed machine history at
  pub room : reserved ≡ true
      → length history
      + length (left_in_scan machine.fixed machine.gone (scan_steps history)) ≤ capacity
  pub noted : IsPanelNoted machine.fixed history reserved values values_capacity
