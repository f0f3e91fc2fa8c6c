use Rattle.std.proofs.Common.{◌<◌, ◌∙◌, List, ℕ, length, ap, sym, subst}
use Rattle.panel_session.specs.Bench.{last_line, line_over, lines_of}
use Rattle.panel_session.specs.declared.line.Shown.{Shown}
use Rattle.panel_session.proofs.Lines.{has_lines, noted_are_lines, noted_over}
use Rattle.panel_session.proofs.bench.Bench.line.Goals as goal

pub last_line-requires : goal.last_line-requires
last_line-requires c =
    let v = c.self.inside.controller in
    let lines =
    noted_are_lines v.fixed v.history c.notes.result.now
    c.scans_gone-gone.result c.stop_code-stop.result c.notes_tell_the_lines.ensures
    c.history.ensures.legal c.notes.ensures c.scans_gone-gone.ensures
    c.stop_code-stop.ensures ∙ ap lines_of c.self.view_is in
    let P : List (List ℕ) → Type 0 = λ lines. 0 < length lines in
    has_lines v.fixed.plan _ (subst P (sym lines) c.requires)

pub returns : goal.returns
returns c =
    let v = c.self.inside.controller in
    let lines =
    noted_are_lines v.fixed v.history c.notes.result.now
    c.scans_gone-gone.result c.stop_code-stop.result c.notes_tell_the_lines.ensures
    c.history.ensures.legal c.notes.ensures c.scans_gone-gone.ensures
    c.stop_code-stop.ensures ∙ ap lines_of c.self.view_is in
    let told =
    ap (λ (s : Shown). line_over s c.scans_gone-gone.result c.stop_code-stop.result
    c.notes.result.now) c.self.invariant.shown_is
    ∙ noted_over v.fixed.plan (record {
      values = c.notes.result.now;
      gone = c.scans_gone-gone.result;
      stop = c.stop_code-stop.result;
    }) (let P : List (List ℕ) → Type 0 = λ lines. 0 < length lines in
    has_lines v.fixed.plan _ (subst P (sym lines) c.requires))
    ∙ ap last_line lines in
    rw told at c.last_line.ensures
