-- Where controllers stand between their scans. This project's own.
use Rattle.std.specs.Prelude.{ℕ, Bool, length}
use Rattle.std.specs.List.{All, AllZip, list_all, sum_by}
use Rattle.controller_core.specs.Controller.{has_ended, left_of}
use Rattle.whole_scan.specs.Scans.{IsBetweenScans, KeepsStepsLeft}
use Rattle.serial_run.specs.declared.stations.ControllerStation.{ControllerStation}
use Rattle.serial_run.specs.declared.stations.Stations.{Stations}

-- Each controller stands between two scans.
abbrev pub AreBetweenScans : Stations → Type 0
AreBetweenScans run =
    All (λ (station : ControllerStation). IsBetweenScans station.controller) run.controllers.items

-- Each controller has as many steps left as before.
abbrev pub KeepScans : Stations → Stations → Type 0
KeepScans old new = AllZip
    (λ (a b : ControllerStation). KeepsStepsLeft a.controller b.controller)
    old.controllers.items new.controllers.items

-- How many steps are left to all controllers.
abbrev pub steps_left : Stations → ℕ
steps_left run = sum_by
    (λ (station : ControllerStation).
    length (left_of station.controller.fixed station.controller.history))
    run.controllers.items

-- All controllers have ended.
abbrev pub have_ended : Stations → Bool
have_ended run =
    list_all (λ (station : ControllerStation). has_ended station.controller) run.controllers.items
