-- The end of a scan worker. This project's own.
use Rattle.std.specs.Prelude.{⊤}
use Rattle.controller_core.specs.Controller.{ControllerIs, ControllerWentOn, step_entries}
use Rattle.controller_core.specs.declared.entry.Maker.TheVariants.{Scan}
use Rattle.controller_core.specs.declared.entry.StepEnd.{StepEnd}
use Rattle.controller_core.specs.declared.entry.StepEnd.TheVariants.{Did, Ended, Stopped}

-- Nothing was due any more.
abbrev pub IsScanOver : StepEnd → Type 0
IsScanOver (Did step) = ⊥
IsScanOver Ended = ⊤
IsScanOver (Stopped code) = ⊤

-- The scan went on by what it did, and nobody else added to the list.
abbrev pub ScanWentOn : ControllerIs → ControllerIs → StepEnd → Type 0
ScanWentOn old new end = ControllerWentOn Scan (step_entries old end) old new
