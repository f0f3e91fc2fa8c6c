-- The panel lines of a controller by what it noted. All of it is this project's own.
use Rattle.std.specs.Prelude.{◌≡◌, ℕ, zero, suc, ◌+◌, ◌==◌, if◌then◌else◌, codes, List, [], ◌∷◌}
use Rattle.std.specs.Prelude.{◌++◌}
use Rattle.std.specs.Prelude.{drop, length}
use Rattle.std.specs.Fmt.{decimal}
use Rattle.std.specs.List.{flat_map, zip}
use Rattle.plant_types.specs.declared.reference.Ref.{Ref}
use Rattle.plant_types.specs.declared.plan.ControllerPlan.{ControllerPlan}
use Rattle.scan_order.specs.Power.{ends_off, power_in}
use Rattle.controller_core.specs.declared.fixed.Fixed.{Fixed}
use Rattle.controller_core.specs.declared.entry.Entry.{Entry}
use Rattle.controller_core.specs.declared.notes.Notes.{Notes}
use Rattle.controller_core.specs.Controller.{IsLegal}
use Rattle.controller_core.specs.Notes.{notes_of}
use Rattle.controller_core.specs.Panel.{label_of, line_text, panel_lines}

-- A reference with the value that was noted of it.
abbrev pub noted_text : Ref × ℕ → List ℕ
noted_text of = label_of of.0 ++ decimal of.1

-- The references of a panel with the first of these values.
abbrev pub noted_texts : List Ref → List ℕ → List ℕ
noted_texts panel values = flat_map noted_text (zip panel values)

-- The line of a scan that is gone, by the values from its own on: OFF where it ended without power.
abbrev pub gone_line : ControllerPlan → ℕ → List ℕ → List ℕ
gone_line plan scan values =
    line_text scan plan.node
    (if ends_off (power_in plan scan) then codes " OFF" else noted_texts plan.panel values)

-- The lines of so many scans that are gone after others, by the values from theirs on.
unfoldable pub gone_lines : ControllerPlan → ℕ → ℕ → List ℕ → List (List ℕ)
gone_lines plan before zero values = []
gone_lines plan before (suc count) values =
    gone_line plan (before + 1) values
    ∷ gone_lines plan (before + 1) count (drop (length plan.panel) values)

-- The line of the scan in which a controller stopped, if it did, after those that are gone.
abbrev pub stopped_lines : ControllerPlan → ℕ → ℕ → List (List ℕ)
stopped_lines plan gone stop =
    if stop == 0
    then []
    else line_text (gone + 1) plan.node (codes " STOP " ++ decimal stop) ∷ []

-- The lines of a controller by what it noted.
abbrev pub noted_lines : ControllerPlan → Notes → List (List ℕ)
noted_lines plan notes =
    gone_lines plan 0 notes.gone notes.values ++ stopped_lines plan notes.gone notes.stop

-- What a legal history has noted tells its panel lines.
abbrev pub NotesTellTheLines : Type 0
NotesTellTheLines = (fixed : Fixed) (history : List Entry) → IsLegal fixed history
    → noted_lines fixed.plan (notes_of fixed history) ≡ panel_lines fixed history
