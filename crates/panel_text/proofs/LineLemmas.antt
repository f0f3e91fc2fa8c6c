-- The lines of a controller, by what it noted.
use Rattle.std.proofs.Common.{◌≡◌, ◌<◌, ◌≤◌, ℕ, suc, ◌+◌, ◌*◌, ◌-◌, ◌==◌, Bool, true, false}
use Rattle.std.proofs.Common.{List, [], ◌∷◌, length, get_or, drop, refl, sym, ap, ◌∙◌}
use Rattle.std.proofs.Common.{add-one, arith, drop-cons, length-append}
use Rattle.std.specs.Prelude.{if◌then◌else◌, OnOk, Result, Ok, Err}
use Rattle.std.proofs.lemmas.List.{get_or-append_right}
use Rattle.std.proofs.lemmas.List.{get_or_append_left, get_or_past}
use Rattle.plant_types.specs.declared.plan.ControllerPlan.{ControllerPlan}
use Rattle.controller_core.specs.declared.notes.Notes.{Notes}
use Rattle.controller_core.specs.Panel.{line_text}
use Rattle.controller_core.specs.NotedLines.{gone_line, gone_lines, noted_lines, stopped_lines}
use Rattle.panel_line.specs.Told.{stopped_told}
use Rattle.panel_line.proofs.LineLemmas.{gone_at, gone_many}
use Rattle.panel_text.specs.Scans.{lines_noted}

-- a list from a place on is the item there and those behind it
pub cut_at : {A : Type 0} (xs : List A) (at : ℕ) (x : A) → at < length xs → x ≡ get_or xs at x
    → drop at xs ≡ x ∷ drop (at + 1) xs
cut_at xs at x within is =
    drop-cons xs at x within ∙ ap (λ first. first ∷ drop (suc at) xs) (sym is)
    ∙ ap (λ next. x ∷ drop next xs) (sym (add-one at))

-- how many lines a controller has
pub noted_many : (plan : ControllerPlan) (notes : Notes)
    → length (noted_lines plan notes) ≡ lines_noted notes
noted_many plan notes =
    length-append (gone_lines plan 0 notes.gone notes.values)
    (stopped_lines plan notes.gone notes.stop)
    ∙ ap (λ n. n + length (stopped_lines plan notes.gone notes.stop))
    (gone_many plan 0 notes.gone notes.values)
    ∙ at_stop (notes.stop == 0)
  where
    at_stop : (runs : Bool)
        → notes.gone + length (if runs then []
        else line_text (notes.gone + 1) plan.node (stopped_told notes.stop) ∷ [])
        ≡ (if runs then notes.gone else notes.gone + 1)
    at_stop true = omega arith
    at_stop false = refl

-- the line of a scan that is gone
pub line_gone : (plan : ControllerPlan) (notes : Notes) (scan : ℕ) → scan < notes.gone
    → get_or (noted_lines plan notes) scan []
    ≡ gone_line plan (scan + 1) (drop (scan * length plan.panel) notes.values)
line_gone plan notes scan within =
    let gone = gone_lines plan 0 notes.gone notes.values in
    let many = gone_many plan 0 notes.gone notes.values in
    get_or_append_left gone (stopped_lines plan notes.gone notes.stop) [] scan (omega arith)
    ∙ gone_at plan 0 notes.gone scan notes.values within
    ∙ ap (λ number. gone_line plan number (drop (scan * length plan.panel) notes.values))
    (omega arith)

stops_there : (runs : Bool) (gone scan : ℕ) → gone ≤ scan
    → scan < (if runs then gone else gone + 1) → (runs ≡ false) × (scan ≡ gone)
stops_there true gone scan past within = absurd (omega (arith, past, within))
stops_there false gone scan past within = (refl, omega (arith, past, within))

-- the line of the scan in which the controller stopped
pub line_stopped : (plan : ControllerPlan) (notes : Notes) (scan : ℕ) → notes.gone ≤ scan
    → scan < lines_noted notes
    → get_or (noted_lines plan notes) scan []
    ≡ line_text (scan + 1) plan.node (stopped_told notes.stop)
line_stopped plan notes scan past within =
    let gone = gone_lines plan 0 notes.gone notes.values in
    let stopped = stopped_lines plan notes.gone notes.stop in
    let many = gone_many plan 0 notes.gone notes.values in
    let line = λ (n : ℕ). line_text (n + 1) plan.node (stopped_told notes.stop) in
    let there = stops_there (notes.stop == 0) notes.gone scan past within in
    get_or-append_right gone stopped notes.gone scan [] many past
    ∙ ap (λ place. get_or stopped (place - notes.gone) []) there.1
    ∙ ap (λ place. get_or stopped place []) (omega arith)
    ∙ ap (λ runs. get_or (if runs then [] else line notes.gone ∷ []) 0 []) there.0
    ∙ ap line (sym there.1)

-- no line where the controller did not come so far
pub no_line : (plan : ControllerPlan) (notes : Notes) (scan : ℕ) → lines_noted notes ≤ scan
    → get_or (noted_lines plan notes) scan [] ≡ []
no_line plan notes scan past =
    let many = noted_many plan notes in
    get_or_past (noted_lines plan notes) scan [] (omega arith)

-- what follows where a call came to something
pub on_ok : {T E : Type 0} {P Q : Type 0} (made : Result T E) → (P → Q) → OnOk made P → OnOk made Q
on_ok (Ok x) f p = f p
on_ok (Err e) f p = p
