-- The run of a controller that is alone.
use Rattle.std.specs.Prelude.{◌==◌, if◌then◌else◌, List, [], ◌∷◌, ◌++◌}
use Rattle.scan_order.specs.declared.due.ScanStep.{ScanStep}
use Rattle.controller_core.specs.declared.fixed.Fixed.{Fixed}
use Rattle.controller_core.specs.declared.entry.Entry.{Entry}
use Rattle.controller_core.specs.Replay.{ControllerState, apply, start}
use Rattle.controller_core.specs.Event.{entry_of}
use Rattle.controller_core.specs.Scans.{all_due}
use Rattle.controller_core.specs.Controller.{ControllerIs, left_of, state_of}

-- The entries of steps from a state on, each made in the state that those before it leave, until
-- the controller stops. This project's own.
unfoldable pub entries_from : Fixed → ControllerState → List ScanStep → List Entry
entries_from fixed s [] = []
entries_from fixed s (step ∷ steps) =
    let entry = entry_of fixed s step in
    if s.stop == 0 then entry ∷ entries_from fixed (apply fixed s entry) steps else []

-- The history of a controller that makes all its scans, or stops in one, with no event between
-- that is not of a scan. This project's own.
abbrev pub run_of : Fixed → List Entry
run_of fixed = entries_from fixed (start fixed.plan) (all_due fixed)

-- The history with which a controller ends that makes nothing but steps from now on. This
-- project's own.
abbrev pub ends_with : ControllerIs → List Entry
ends_with v =
    v.history ++ entries_from v.fixed (state_of v) (left_of v.fixed v.history)
