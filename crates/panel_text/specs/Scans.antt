-- The lines of several controllers, scan by scan. All of it is this project's own.
use Rattle.std.specs.Prelude.{ℕ, ◌+◌, ◌==◌, List, [], fold, get_or, length, map, max}
use Rattle.std.specs.Prelude.{if◌then◌else◌}
use Rattle.std.specs.List.{flat_map, range_with_len, zip}
use Rattle.plant_types.specs.declared.plan.ControllerPlan.{ControllerPlan}
use Rattle.controller_core.specs.declared.notes.Notes.{Notes}
use Rattle.controller_core.specs.NotedLines.{noted_lines}

-- How many scans the longest run has.
abbrev pub longest : List (List (List ℕ)) → ℕ
longest runs = fold max 0 (map length runs)

-- The lines of a scan, counted from 0: that of each controller that came so far.
abbrev pub scan_lines : List (List (List ℕ)) → ℕ → List ℕ
scan_lines runs scan = flat_map (λ lines. get_or lines scan []) runs

-- Some runs scan by scan, each scan with the lines of all controllers in their order.
abbrev pub by_scan : List (List (List ℕ)) → List ℕ
by_scan runs = flat_map (scan_lines runs) (range_with_len 0 (longest runs))

-- How many lines a controller has by what it noted: one for each scan that is over.
abbrev pub lines_noted : Notes → ℕ
lines_noted notes = if notes.stop == 0 then notes.gone else notes.gone + 1

-- The lines of each controller by what it noted.
abbrev pub runs_noted : List ControllerPlan → List Notes → List (List (List ℕ))
runs_noted plans notes = map (λ of. noted_lines of.0 of.1) (zip plans notes)
