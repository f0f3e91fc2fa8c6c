-- The texts of what is found of all runs of a field. All of it is this project's own.
use Rattle.std.specs.Prelude.{ℕ, codes, List, [], ◌++◌, length, Option, Some, None}
use Rattle.std.specs.Fmt.{decimal}
use Rattle.std.specs.List.{concat, enumerate_from, flat_map}
use Rattle.plant_types.specs.declared.plan.ControllerPlan.{ControllerPlan}
use Rattle.controller_core.specs.declared.fixed.Fixed.{Fixed}
use Rattle.controller_core.specs.Controller.{fixed_with}
use Rattle.controller_core.specs.Panel.{panel_lines}
use Rattle.controller_core.specs.Run.{run_of}
use Rattle.field_runs.specs.Played.{with_scripts}
use Rattle.field_machine.specs.declared.exchanges.Exchange.{Exchange}
use Rattle.field_machine.specs.Exchanges.{exchanges_of}

-- A depth, as the text tells it; nothing where all runs are meant.
abbrev pub depth_text : Option ℕ → List ℕ
depth_text None = []
depth_text (Some depth) = codes " to " ++ decimal depth

-- The text where it is never so: to how many states runs come, and the depth.
abbrev pub holds_text : Option ℕ → ℕ → List ℕ
holds_text depth states =
    codes "holds " ++ (decimal states ++ (depth_text depth ++ codes "\n"))

-- The line of an input exchange in a scan: its drop, and the row of the drop's script.
abbrev pub exchange_line : ℕ → Exchange → List ℕ
exchange_line scan exchange =
    codes "I " ++ (decimal scan ++ (codes " " ++ (decimal exchange.drop
    ++ (codes " " ++ (decimal exchange.row ++ codes "\n")))))

-- The lines of the input exchanges of a scan in which these rows are brought, in their order.
abbrev pub scan_exchanges : ControllerPlan → ℕ × List ℕ → List ℕ
scan_exchanges plan of = flat_map (exchange_line of.0) (exchanges_of plan of.1)

-- Those of several scans, counted from 1.
abbrev pub exchange_lines : ControllerPlan → List (List ℕ) → List ℕ
exchange_lines plan told = flat_map (scan_exchanges plan) (enumerate_from 1 told)

-- The run of a plan with these rows as scripts: as many scans as there are lists of rows.
abbrev pub run_fixed : Fixed → List (List ℕ) → Fixed
run_fixed fixed told =
    fixed_with (with_scripts fixed.plan told) fixed.scan_time fixed.watchdog (length told)

-- Its panel lines: those of its whole history.
abbrev pub run_panel : Fixed → List (List ℕ) → List ℕ
run_panel fixed told = concat (panel_lines (run_fixed fixed told) (run_of (run_fixed fixed told)))

-- The first line where it is so: after how many scans.
abbrev pub fails_line : ℕ → List ℕ
fails_line scans = codes "fails " ++ (decimal scans ++ codes "\n")

-- The text where it is so after scans in which the field brings these rows: how many scans, their
-- input exchanges, and the panel of their run.
abbrev pub fails_text : Fixed → List (List ℕ) → List ℕ
fails_text fixed told =
    fails_line (length told) ++ (exchange_lines fixed.plan told ++ run_panel fixed told)
