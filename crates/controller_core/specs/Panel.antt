-- The panel lines of one controller.
use Rattle.std.specs.Prelude.{ℕ, ◌+◌, ◌==◌, Bool, true, false, if◌then◌else◌, codes, List, [], ◌∷◌}
use Rattle.std.specs.Prelude.{◌++◌}
use Rattle.std.specs.Prelude.{Option, Some, None}
use Rattle.std.specs.Fmt.{decimal}
use Rattle.std.specs.List.{flat_map}
use Rattle.plant_types.specs.declared.reference.Ref.{Ref}
use Rattle.plant_types.specs.declared.plan.ControllerPlan.{ControllerPlan}
use Rattle.plant_types.specs.Reference.{reference_text}
use Rattle.plant_types.specs.Store.{Contents, value_at}
use Rattle.scan_order.specs.declared.due.ScanStep.{ScanStep}
use Rattle.scan_order.specs.declared.due.ScanStep.TheVariants as steps
use Rattle.controller_core.specs.declared.fixed.Fixed.{Fixed}
use Rattle.controller_core.specs.declared.entry.Entry.{Entry}
use Rattle.controller_core.specs.declared.entry.StepEnd.{StepEnd}
use Rattle.controller_core.specs.declared.entry.StepEnd.TheVariants as ends
use Rattle.controller_core.specs.Replay.{ControllerState, apply, start}
use Rattle.controller_core.specs.Event.{step_of}
use Rattle.controller_core.specs.Scans.{closes_scan}

-- What stands before a value: a blank, its reference and `=`. This project's own.
abbrev pub label_of : Ref → List ℕ
label_of at = codes " " ++ (reference_text at ++ codes "=")

-- A reference with its value. This project's own.
abbrev pub value_text : Contents → Ref → List ℕ
value_text store at = label_of at ++ decimal (value_at store at)

-- A line: the number of the scan, the node, and what is told of them. This project's own.
abbrev pub line_text : ℕ → ℕ → List ℕ → List ℕ
line_text scan node told =
    codes "S " ++ (decimal scan ++ (codes " N " ++ (decimal node ++ (told ++ codes "\n"))))

-- A step with which a scan ends without power. This project's own.
abbrev pub lacks_power : ScanStep → Bool
lacks_power steps.Fail = true
lacks_power steps.Dark = true
lacks_power _ = false

-- What is told of a scan that is over, by its last step and the state right after it: the code with
-- which the controller stopped, OFF where the scan ended without power, or else the values of the
-- panel's references in their order. This project's own.
abbrev pub values_told : ControllerPlan → ControllerState → List ℕ
values_told plan s = flat_map (value_text s.solving.map) plan.panel

abbrev pub told_of : ControllerPlan → ScanStep → ControllerState → List ℕ
told_of plan step s =
    if s.stop == 0
    then (if lacks_power step then codes " OFF" else values_told plan s)
    else codes " STOP " ++ decimal s.stop

-- The number of the scan that is over: it is gone, or the controller stopped in it, and it is the
-- one after those that are gone. This project's own.
abbrev pub scan_over : ControllerState → ℕ
scan_over s = if s.stop == 0 then s.gone else s.gone + 1

-- The panel line of a scan, by its last step and the state right after it. This project's own.
abbrev pub panel_line : ControllerPlan → ScanStep → ControllerState → List ℕ
panel_line plan step s = line_text (scan_over s) plan.node (told_of plan step s)

-- The line of an event, if it is the last of its scan, by the state right after it. This
-- project's own.
abbrev pub line_of_step : ControllerPlan → Option ScanStep → ControllerState → List (List ℕ)
line_of_step plan None s = []
line_of_step plan (Some step) s =
    if closes_scan step s.stop then panel_line plan step s ∷ [] else []

unfoldable pub lines_from : Fixed → ControllerState → List Entry → List (List ℕ)
lines_from fixed s [] = []
lines_from fixed s (entry ∷ entries) =
    let after = apply fixed s entry in
    line_of_step fixed.plan (step_of entry) after ++ lines_from fixed after entries

-- The panel lines of a history: one for each scan that is over, in their order. This project's
-- own.
abbrev pub panel_lines : Fixed → List Entry → List (List ℕ)
panel_lines fixed history = lines_from fixed (start fixed.plan) history

-- Whether what a step answered was the last event of its scan, by the state after it. This
-- project's own.
abbrev pub has_line : StepEnd → ControllerState → Bool
has_line (ends.Did step) s = closes_scan step s.stop
has_line _ s = false

-- The line that a step adds. This project's own.
abbrev pub line_of_end : ControllerPlan → StepEnd → ControllerState → List (List ℕ)
line_of_end plan (ends.Did step) s = line_of_step plan (Some step) s
line_of_end plan _ s = []
