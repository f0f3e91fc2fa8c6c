-- The text of two controllers that are told apart. All of it is this project's own.
use Rattle.std.specs.Prelude.{ℕ, ◌-◌, ◌==◌, if◌then◌else◌, List, ◌++◌, length, drop}
use Rattle.std.specs.List.{concat, enumerate_from, flat_map}
use Rattle.plant_types.specs.declared.plan.ControllerPlan.{ControllerPlan}
use Rattle.controller_core.specs.declared.fixed.Fixed.{Fixed}
use Rattle.controller_core.specs.Controller.{fixed_with}
use Rattle.controller_core.specs.NotedLines.{noted_texts}
use Rattle.controller_core.specs.Panel.{line_text, panel_lines}
use Rattle.controller_core.specs.Run.{run_of}
use Rattle.field_pair.specs.FieldMachine.{Exchange}
use Rattle.field_pair.specs.declared.searching.Apart.{Apart}
use Rattle.field_pair.specs.declared.searching.PanelEnd.{PanelEnd}
use Rattle.field_pair.specs.Same.{ApartRuns, listed}
use Rattle.never_text.specs.Texts.{exchange_line, fails_line}
use Rattle.panel_line.specs.Told.{stopped_told}

-- The lines of the input exchanges of a scan, in their order, and of several scans, counted from 1.
abbrev pub brought_in_scan : ℕ × List Exchange → List ℕ
brought_in_scan of = flat_map (exchange_line of.0) of.1

abbrev pub brought_lines : List (List Exchange) → List ℕ
brought_lines brought = flat_map brought_in_scan (enumerate_from 1 brought)

-- The run of a plan of so many scans.
abbrev pub run_of_scans : Fixed → ControllerPlan → ℕ → Fixed
run_of_scans fixed played scans = fixed_with played fixed.scan_time fixed.watchdog scans

-- The panel line of the last of so many scans of a run, by its whole history.
abbrev pub last_line : Fixed → ControllerPlan → ℕ → List ℕ
last_line fixed played scans =
    let run = run_of_scans fixed played scans in
    concat (drop (scans - 1) (panel_lines run (run_of run)))

-- The text where two runs are told apart: after how many scans, their input exchanges, and the
-- panel lines of the last of these scans, the old one's before the new one's.
abbrev pub apart_text : Fixed → Fixed → ApartRuns → List ℕ
apart_text old new runs =
    let scans = length runs.brought in
    fails_line scans
    ++ (brought_lines runs.brought ++ (last_line old runs.one scans ++ last_line new runs.other
    scans))

-- The panel line of a scan, by what the panel shows at its end: the code with which the controller
-- stopped, or the values.
abbrev pub end_line : ControllerPlan → PanelEnd → ℕ → List ℕ
end_line plan end scan =
    line_text scan plan.node
    (if end.stop == 0 then noted_texts plan.panel end.values.items else stopped_told end.stop)

-- The text by what a search found.
abbrev pub found_text : ControllerPlan → ControllerPlan → Apart → List ℕ
found_text old new apart =
    let scans = length apart.brought.items in
    fails_line scans
    ++ (brought_lines (listed apart.brought.items)
    ++ (end_line old apart.old scans ++ end_line new apart.new scans))
