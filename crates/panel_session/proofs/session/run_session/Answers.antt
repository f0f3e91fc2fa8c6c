use Rattle.std.proofs.Common.{◌≡◌, ◌∙◌, ◌-◌, ◌++◌, ℕ, List, drop, map, take, ap, sym, arith, subst}
use Rattle.controller_core.specs.declared.fixed.Fixed.{Fixed}
use Rattle.controller_core.specs.Controller.{ControllerIs, IsLegal, fixed_with, state_of}
use Rattle.panel_session.specs.Asked.{frame_asked, next_frames}
use Rattle.panel_session.specs.Serving.{reply_texts, requests_taken, served_entries}
use Rattle.panel_session.specs.declared.asked.PortFrame.{PortFrame}
use Rattle.panel_session.proofs.ScanByScan.{each-once}
use Rattle.panel_session.proofs.Sessions.{IsInSession, done-goes, ended-history, ended-text}
use Rattle.panel_session.proofs.Sessions.{first-dropped, first-taken, over-ended, scan-count}
use Rattle.panel_session.proofs.Sessions.{session-begins, session-goes-on, session-shorter}
use Rattle.panel_session.proofs.session.run_session.Goals as goal

pub loop-text-init : goal.loop-text-init
loop-text-init c =
    session-begins _ c.args.stream.now c.in_ok-bench.bench c.as_slice-left.result.now
    c.new-text.result.items c.requires.some c.in_ok-bench.ensures
    (ap (λ (asked : List PortFrame). map frame_asked asked) c.as_slice-left.ensures.value
    ∙ c.in_ok-asked.ensures.frames)
    c.new-text.ensures.items

pub serve_all-requires-clause-few : goal.serve_all-requires-clause-few
serve_all-requires-clause-few c =
    let goes = done-goes c.loop-text.bench c.in_ok-scan.field-0 c.in_ok-scan.ensures.end
    c.in-Done.is in
    omega (
      arith,
      scan-count c.loop-text.bench c.scan.new.self goes c.in_ok-scan.ensures.ok,
      c.split_at.ensures.front_len,
      c.split_at.ensures.back_len,
      c.loop-text.invariant.few,
      c.requires.short,
    )

pub loop-text-smaller : goal.loop-text-smaller
loop-text-smaller c =
    let goes = done-goes c.loop-text.bench c.in_ok-scan.field-0 c.in_ok-scan.ensures.end
    c.in-Done.is in
    session-shorter c.loop-text.bench c.scan.new.self c.serve_all.new.bench
    (next_frames c.scan.new.self.history c.split_at.result.0.now) goes c.in_ok-scan.ensures.ok
    c.in_ok-serve_all.ensures.fixed c.in_ok-serve_all.ensures.history

pub loop-text-preserved : goal.loop-text-preserved
loop-text-preserved c =
    let goes = done-goes c.loop-text.bench c.in_ok-scan.field-0 c.in_ok-scan.ensures.end
    c.in-Done.is in
    let w = c.scan.new.self in
    let asked = c.loop-text.left.now in
    let front : c.split_at.result.0.now ≡ take 1 asked =
    c.split_at.ensures.front ∙ first-taken asked _ c.min.ensures in
    let back : c.split_at.result.1.now ≡ drop 1 asked =
    c.split_at.ensures.back ∙ first-dropped asked _ c.min.ensures in
    subst (λ (rest : List PortFrame). IsInSession
    (fixed_with c.args.plan.now c.args.scan_time c.args.watchdog c.args.scans)
    c.args.stream.now c.serve_all.new.bench rest c.serve_all.new.text.items) (sym back)
    (session-goes-on _ c.args.stream.now c.loop-text.bench asked c.loop-text.text.items
    c.loop-text.invariant goes w c.serve_all.new.bench c.deref.result.now
    c.serve_all.new.text.items c.in_ok-scan.ensures.ok
    (c.deref.ensures.value ∙ c.in_ok-line.ensures)
    c.in_ok-serve_all.ensures.fixed
    (c.in_ok-serve_all.ensures.history
    ∙ ap (λ (asked : List PortFrame). w.history
    ++ served_entries w.fixed (state_of w) (next_frames w.history asked)) front)
    (c.in_ok-serve_all.ensures.text
    ∙ ap (λ (asked : List PortFrame). c.extend_from_slice.new.self.items
    ++ reply_texts w.fixed (state_of w) (next_frames w.history asked)) front
    ∙ ap (λ (text : List ℕ). text
    ++ reply_texts w.fixed (state_of w) (next_frames w.history (take 1 asked)))
    c.in_ok-extend_from_slice.ensures.items))

pub returns : goal.returns
returns c =
    let fixed = fixed_with c.args.plan.now c.args.scan_time c.args.watchdog c.args.scans in
    let ended = over-ended c.loop-text.bench c.in_ok-scan.field-0 c.in_ok-scan.ensures.end
    c.in_default.not-Done in
    let same : c.serve_all-2.new.bench.fixed ≡ fixed =
    c.in_ok-serve_all-2.ensures.fixed
    ∙ ap (λ (v : ControllerIs). v.fixed) c.in_ok-scan.ensures.ok
    ∙ c.loop-text.invariant.fixed_is in
    let history = ended-history fixed c.args.stream.now c.loop-text.bench c.scan.new.self
    c.loop-text.left.now c.loop-text.text.items c.into_history-history.result
    c.loop-text.invariant ended c.in_ok-scan.ensures.ok
    (c.into_history-history.ensures.history ∙ c.in_ok-serve_all-2.ensures.history) in
    record {
      text = ended-text fixed c.args.stream.now c.loop-text.bench c.scan.new.self
          c.loop-text.left.now c.loop-text.text.items c.serve_all-2.new.text.items
          c.loop-text.invariant ended c.in_ok-scan.ensures.ok c.in_ok-serve_all-2.ensures.text;
      history = history;
      legal = subst (IsLegal fixed) (sym c.into_history-history.ensures.history)
          (subst (λ (fixed : Fixed). IsLegal fixed c.serve_all-2.new.bench.history) same
          c.into_history-history.ensures.legal);
      served = ap requests_taken history
          ∙ each-once fixed c.args.stream.now (c.args.scans - 1) (omega (arith, c.requires.some));
    }
