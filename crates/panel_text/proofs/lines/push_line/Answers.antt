use Rattle.std.proofs.Common.{◌≡◌, ◌+◌, ◌*◌, ◌++◌, ◌∙◌, ℕ, List, ap, append-nil, arith, drop}
use Rattle.std.proofs.Common.{length}
use Rattle.std.proofs.Common.{sym, string_bytes}
use Rattle.plant_types.specs.declared.reference.Ref.{Ref}
use Rattle.scan_order.specs.Power.{ends_off}
use Rattle.panel_line.proofs.LineLemmas.{gone_by}
use Rattle.panel_text.proofs.LineLemmas.{line_gone, line_stopped, no_line, on_ok}
use Rattle.panel_text.proofs.lines.push_line.Goals as goal

pub returns-then-scan-gone : goal.returns-then-scan-gone
returns-then-scan-gone c =
    let plan = c.args.plan.now in
    let notes = c.args.notes.now in
    let readings = c.args.readings.now in
    let scan = c.args.scan in
    let old = string_bytes c.args.text.now in
    let values : c.values_from-values.result.now ≡ drop (scan * length plan.panel) notes.values =
    c.values_from-values.ensures
    ∙ ap (λ (all : List ℕ). drop (scan * length readings) all) c.as_slice.ensures
    ∙ ap (λ (panel : List Ref). drop (scan * length panel) notes.values) c.requires in
    let power = c.ends_off-is_off.ensures ∙ ap ends_off c.power_in.ensures in
    let line = gone_by plan (scan + 1) c.ends_off-is_off.result readings
    c.values_from-values.result.now (drop (scan * length plan.panel) notes.values) power c.requires
    values in
    on_ok c.push_gone.result
    (λ added. added ∙ ap (λ line. old ++ line) (line ∙ sym (line_gone plan notes scan (omega arith))))
    c.push_gone.ensures

pub returns-then-scan-lines : goal.returns-then-scan-lines
returns-then-scan-lines c =
    let plan = c.args.plan.now in
    let notes = c.args.notes.now in
    let scan = c.args.scan in
    let old = string_bytes c.args.text.now in
    let here = line_stopped plan notes scan (omega arith)
    (omega (arith, c.lines_noted-lines.ensures)) in
    on_ok c.push_stopped.result (λ added. added ∙ ap (λ line. old ++ line) (sym here))
    c.push_stopped.ensures

pub returns : goal.returns
returns c =
    let old = string_bytes c.args.text.now in
    let none = no_line c.args.plan.now c.args.notes.now c.args.scan
    (omega (arith, c.lines_noted-lines.ensures)) in
    sym (append-nil old) ∙ ap (λ line. old ++ line) (sym none)
