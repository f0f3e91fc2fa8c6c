-- A scan in which the field brings rows that are told. All of it is this project's own.
use Rattle.std.specs.Prelude.{ℕ, ◌==◌, if◌then◌else◌, List, [], ◌∷◌, Option, Some, None}
use Rattle.plant_types.specs.declared.drops.IoDrop.{IoDrop}
use Rattle.scan_order.specs.declared.due.ScanStep.{ScanStep}
use Rattle.scan_order.specs.declared.due.ScanStep.TheVariants as steps
use Rattle.scan_order.specs.Due.{full_scan, input_of, row_of}
use Rattle.traffic_cop.specs.Drops.{input_after}
use Rattle.controller_core.specs.declared.fixed.Fixed.{Fixed}
use Rattle.controller_core.specs.Event.{entry_of}
use Rattle.controller_core.specs.Replay.{ControllerState, apply}

-- An exchange brings a drop the row of this number of its script.
abbrev pub brought_to : List IoDrop → Option ℕ → ℕ → ControllerState → ControllerState
brought_to drops None row s = s
brought_to drops (Some drop) row s = record s {
  solving = record s.solving { map = input_after drops drop row s.solving.map };
}

-- A step of a scan: an input exchange brings the row of this number, and each other step does what
-- its event does.
abbrev pub stepped_with : Fixed → ℕ → ControllerState → ScanStep → ControllerState
stepped_with fixed brought s (steps.In row) =
    brought_to fixed.plan.drops (input_of (row_of fixed.plan row)) brought s
stepped_with fixed brought s step = apply fixed s (entry_of fixed s step)

-- The first of the rows that are told; the first row where none is.
abbrev pub told_first : List ℕ → ℕ
told_first [] = 1
told_first (row ∷ rows) = row

-- The rows that are told after a step: an input exchange takes one.
abbrev pub rest_of : List ℕ → List ℕ
rest_of [] = []
rest_of (row ∷ rows) = rows

abbrev pub told_behind : ScanStep → List ℕ → List ℕ
told_behind (steps.In row) rows = rest_of rows
told_behind step rows = rows

-- The state after steps, as long as the controller goes on.
unfoldable pub behind_steps : Fixed → List ℕ → ControllerState → List ScanStep → ControllerState
behind_steps fixed rows s [] = s
behind_steps fixed rows s (step ∷ due) =
    if s.stop == 0
    then behind_steps fixed (told_behind step rows) (stepped_with fixed (told_first rows) s step) due
    else s

-- The state after a whole scan, or a stop in it, in which the input exchanges bring these rows, one
-- after another.
abbrev pub scanned : Fixed → List ℕ → ControllerState → ControllerState
scanned fixed rows s = behind_steps fixed rows s (full_scan fixed.plan)
