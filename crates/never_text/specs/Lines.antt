-- Panel lines by what a run shows. All of it is this project's own.
use Rattle.std.specs.Prelude.{◌≡◌, ◌<◌, ℕ, ◌+◌, ◌*◌, ◌==◌, ◌&&◌, not, if◌then◌else◌, List, drop}
use Rattle.std.specs.Prelude.{length}
use Rattle.plant_types.specs.declared.reference.Ref.{Ref}
use Rattle.controller_core.specs.declared.fixed.Fixed.{Fixed}
use Rattle.controller_core.specs.NotedLines.{noted_texts}
use Rattle.controller_core.specs.Panel.{line_text}
use Rattle.panel_line.specs.Told.{stopped_told}
use Rattle.field_runs.specs.Played.{with_scripts}
use Rattle.field_machine.specs.declared.shown.Shown.{Shown}
use Rattle.field_machine.specs.Never.{state_of_run}

-- The line of a scan, which is counted from 0, of so many, by what their run shows: the code with
-- which the controller stopped in the last one, or the values of the panel.
abbrev pub shown_line : ℕ → List Ref → Shown → ℕ → ℕ → List ℕ
shown_line node panel shown scans scan =
    if not (shown.stop == 0) && (scan + 1 == scans)
    then line_text scans node (stopped_told shown.stop)
    else line_text (scan + 1) node
    (noted_texts panel (drop (scan * length panel) shown.values.items))

-- The run with these rows as scripts, a list of them for each scan, goes on up to its last scan.
abbrev pub StopsNoSooner : Fixed → List (List ℕ) → Type 0
StopsNoSooner fixed told =
    (scans : ℕ) → scans < length told
    → (state_of_run fixed (with_scripts fixed.plan told) scans).stop ≡ 0
