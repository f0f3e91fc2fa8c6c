-- The line of one scan.
use Rattle.std.proofs.Common.{◌≡◌, ℕ, zero, suc, ◌+◌, ◌*◌, ◌-◌, ◌<◌, List, [], ◌∷◌, ◌++◌}
use Rattle.std.proofs.Common.{length, get_or, drop, sym, ap, ◌∙◌, arith}
use Rattle.std.proofs.Common.{Bool, true, false, cond, Option, Some, None, ⊎_elim}
use Rattle.std.specs.Prelude.{if◌then◌else◌, ◌==◌, ◌||◌}
use Rattle.std.specs.List.{find, list_any}
use Rattle.std.proofs.lemmas.Bool.{cases_eq}
use Rattle.std.proofs.Common.{◌≢◌, length-append, refl, append-nil, ne_eqb, eq-eqb}
use Rattle.std.proofs.lemmas.List.{get_or-append_right}
use Rattle.plant_types.specs.declared.plan.ControllerPlan.{ControllerPlan}
use Rattle.plant_types.specs.declared.plan.PowerRow.{PowerRow}
use Rattle.scan_order.specs.Power.{ends_off, is_dark_by, is_failure_in, power_by, power_in}
use Rattle.controller_core.specs.declared.notes.Notes.{Notes}
use Rattle.controller_core.specs.declared.entry.Entry.{Entry}
use Rattle.controller_core.specs.declared.fixed.Fixed.{Fixed}
use Rattle.controller_core.specs.Controller.{IsLegal}
use Rattle.controller_core.specs.Notes.{noted_values}
use Rattle.controller_core.specs.Replay.{replay}
use Rattle.controller_core.specs.Panel.{line_text, panel_lines}
use Rattle.controller_core.specs.NotedLines.{gone_line, gone_lines, noted_lines, stopped_lines}
use Rattle.controller_core.specs.NotedLines.{NotesTellTheLines}
use Rattle.panel_line.specs.Told.{gone_told, stopped_told}
use Rattle.panel_line.proofs.LineLemmas.{gone_at, gone_by, gone_many}
use Rattle.panel_session.specs.Bench.{ends_off_by, is_shown_off, last_line, line_over, shown_of}

-- The last of some lines and one more is that one.
pub last_line-more : (lines : List (List ℕ)) (line : List ℕ) → last_line (lines ++ line ∷ []) ≡ line
last_line-more lines line =
    let count : length (lines ++ line ∷ []) - 1 ≡ length lines =
    omega (arith, length-append lines (line ∷ [])) in
    let none : length lines - length lines ≡ 0 = omega arith in
    ap (λ place. get_or (lines ++ line ∷ []) place []) count
    ∙ get_or-append_right lines (line ∷ []) (length lines) (length lines) [] refl (omega arith)
    ∙ ap (λ place. get_or (line ∷ []) place []) none

-- A controller that stopped has the line of that scan last.
pub last_stopped : (plan : ControllerPlan) (notes : Notes) → notes.stop ≢ 0
    → last_line (noted_lines plan notes)
    ≡ line_text (notes.gone + 1) plan.node (stopped_told notes.stop)
last_stopped plan notes stops =
    let gone = gone_lines plan 0 notes.gone notes.values in
    let line = line_text (notes.gone + 1) plan.node (stopped_told notes.stop) in
    let there : stopped_lines plan notes.gone notes.stop ≡ line ∷ [] =
    ap (λ runs. if runs then [] else line ∷ []) (ne_eqb notes.stop 0 stops) in
    ap (λ lines. last_line (gone ++ lines)) there ∙ last_line-more gone line

-- The line of the last scan that is gone.
last_gone-by : (plan : ControllerPlan) (gone : ℕ) (values : List ℕ) → 0 < gone
    → last_line (gone_lines plan 0 gone values)
    ≡ gone_line plan gone (drop ((gone - 1) * length plan.panel) values)
last_gone-by plan zero values some = absurd (omega arith)
last_gone-by plan (suc before) values some =
    let count : length (gone_lines plan 0 (suc before) values) - 1 ≡ before =
    omega (arith, gone_many plan 0 (suc before) values) in
    let number : 0 + before + 1 ≡ suc before = omega arith in
    let place : before ≡ suc before - 1 = omega arith in
    ap (λ place. get_or (gone_lines plan 0 (suc before) values) place []) count
    ∙ gone_at plan 0 (suc before) before values (omega arith)
    ∙ ap (λ number. gone_line plan number (drop (before * length plan.panel) values)) number
    ∙ ap (λ at. gone_line plan (suc before) (drop (at * length plan.panel) values)) place

-- Any other has the line of the scan that is gone last.
pub last_gone : (plan : ControllerPlan) (notes : Notes) → notes.stop ≡ 0 → 0 < notes.gone
    → last_line (noted_lines plan notes)
    ≡ gone_line plan notes.gone (drop ((notes.gone - 1) * length plan.panel) notes.values)
last_gone plan notes runs some =
    let gone = gone_lines plan 0 notes.gone notes.values in
    let line = line_text (notes.gone + 1) plan.node (stopped_told notes.stop) in
    let none : stopped_lines plan notes.gone notes.stop ≡ [] =
    ap (λ runs. if runs then [] else line ∷ []) (eq-eqb notes.stop 0 runs) in
    ap (λ lines. last_line (gone ++ lines)) none
    ∙ ap last_line (append-nil gone)
    ∙ last_gone-by plan notes.gone notes.values some

-- A list has lines where a scan is over.
pub has_lines : (plan : ControllerPlan) (notes : Notes) → 0 < length (noted_lines plan notes)
    → 0 < notes.gone + notes.stop
has_lines plan notes some =
    let count = length-append (gone_lines plan 0 notes.gone notes.values)
    (stopped_lines plan notes.gone notes.stop) in
    let gone = gone_many plan 0 notes.gone notes.values in
    stops notes.gone notes.stop
    (line_text (notes.gone + 1) plan.node (stopped_told notes.stop))
    (omega (arith, count, gone))
  where
    stops : (gone stop : ℕ) (line : List ℕ)
        → 0 < gone + length (if stop == 0 then [] else line ∷ []) → 0 < gone + stop
    stops gone zero line some = some
    stops gone (suc stop) line some = omega arith

-- What a controller has noted tells its lines.
pub noted_are_lines : (fixed : Fixed) (history : List Entry) (values : List ℕ) (gone stop : ℕ)
    → NotesTellTheLines → IsLegal fixed history
    → values ≡ noted_values fixed history
    → gone ≡ (replay fixed history).gone → stop ≡ (replay fixed history).stop
    → noted_lines fixed.plan (record { values = values; gone = gone; stop = stop })
    ≡ panel_lines fixed history
noted_are_lines fixed history values gone stop tell legal noted left code =
    let made : List ℕ → ℕ → ℕ → Notes =
    λ values gone stop. record { values = values; gone = gone; stop = stop } in
    let now = replay fixed history in
    ap (λ values. noted_lines fixed.plan (made values gone stop)) noted
    ∙ ap (λ gone. noted_lines fixed.plan (made (noted_values fixed history) gone stop)) left
    ∙ ap (λ stop. noted_lines fixed.plan (made (noted_values fixed history) now.gone stop)) code
    ∙ tell fixed history legal

-- ---- by what is shown

-- A row more: power fails in the scan, or it is dark, or neither.
row_more : (fails dark : Bool) (row : PowerRow) (off others : Bool) (found : Option PowerRow)
    → off ≡ ends_off (power_by found others)
    → (fails || dark) || off
    ≡ ends_off (power_by (cond fails (Some row) found) (dark || others))
row_more true dark row off others found e = refl
row_more false true row off others None e = refl
row_more false true row off others (Some other) e = refl
row_more false false row off others found e = e

-- A scan ends without power where one of the rows takes it.
rows_off : (orders scan : ℕ) (rows : List PowerRow)
    → list_any (ends_off_by orders scan) rows
    ≡ ends_off (power_by (find (is_failure_in orders scan) rows) (list_any (is_dark_by scan) rows))
rows_off orders scan [] = refl
rows_off orders scan (row ∷ rows) =
    row_more (is_failure_in orders scan row) (is_dark_by scan row) row
    (list_any (ends_off_by orders scan) rows) (list_any (is_dark_by scan) rows)
    (find (is_failure_in orders scan) rows) (rows_off orders scan rows)

-- A scan ends without power by what is shown where it does so by the plan.
shown_off : (plan : ControllerPlan) (scan : ℕ)
    → is_shown_off (shown_of plan) scan ≡ ends_off (power_in plan scan)
unfolding power_in
shown_off plan scan = rows_off (length plan.orders) scan plan.power

-- The line that was over last is the last of the noted ones.
pub noted_over : (plan : ControllerPlan) (notes : Notes) → 0 < notes.gone + notes.stop
    → line_over (shown_of plan) notes.gone notes.stop notes.values
    ≡ last_line (noted_lines plan notes)
noted_over plan notes some = ⊎_elim
    (λ (runs : notes.stop ≡ 0).
    let from = notes.gone in
    let gone : 0 < from = omega (arith, some, runs) in
    let rest = drop ((from - 1) * length plan.panel) notes.values in
    let off = is_shown_off (shown_of plan) from in
    ap (λ b. if b then line_text from plan.node (gone_told off plan.panel rest)
    else line_text (from + 1) plan.node (stopped_told notes.stop))
    (eq-eqb notes.stop 0 runs)
    ∙ gone_by plan from off plan.panel rest rest (shown_off plan from) refl refl
    ∙ sym (last_gone plan notes runs gone))
    (λ (stops : notes.stop ≢ 0).
    let from = notes.gone in
    let rest = drop ((from - 1) * length plan.panel) notes.values in
    let off = is_shown_off (shown_of plan) from in
    ap (λ b. if b then line_text from plan.node (gone_told off plan.panel rest)
    else line_text (from + 1) plan.node (stopped_told notes.stop))
    (ne_eqb notes.stop 0 stops)
    ∙ sym (last_stopped plan notes stops))
    (cases_eq notes.stop 0)
