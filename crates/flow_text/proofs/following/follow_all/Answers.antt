use Rattle.std.proofs.Common.{◌≡◌, ◌+◌, ◌++◌, ◌∷◌, [], drop, refl, ap, sym, ◌∙◌, arith, List}
use Rattle.std.proofs.lemmas.List.{drop_all}
use Rattle.controller_core.specs.declared.entry.Entry.{Entry}
use Rattle.controller_core.specs.Controller.{state_of}
use Rattle.controller_core.specs.Replay.{replay}
use Rattle.panel_text.proofs.FollowLemmas.{entry_may_follow, one_more_entry}
use Rattle.panel_text.proofs.LineLemmas.{cut_at}
use Rattle.flow_text.specs.Lines.{scan_lines}
use Rattle.flow_text.specs.Solved.{networks_solved, solved_from}
use Rattle.flow_text.specs.Window.{texts_of, told}
use Rattle.flow_text.proofs.Telling.{log_step, told_end}
use Rattle.flow_text.proofs.following.follow_all.Goals as goal

pub loop-entry-init : goal.loop-entry-init
loop-entry-init c =
    let f = c.args.controller.now.fixed in
    let window = c.args.window.now in
    record {
      same = refl;
      history = c.requires.fresh;
      first = refl;
      texts = ap (λ (h : List Entry). told (scan_lines c.args.node
          (solved_from f (replay f h) c.args.entries.now)) window.first (texts_of window))
          c.requires.fresh;
    }

pub make_again-requires : goal.make_again-requires
make_again-requires c =
    let log = c.args.entries.now in
    let at = c.loop-entry.entry-index in
    let entry = c.entry-item.result in
    let more = one_more_entry log at entry (omega arith) c.entry-item.is in
    entry_may_follow c.fronts_are_legal.ensures c.loop-entry.controller c.args.controller.now.fixed
    log at entry more
    c.requires.legal c.loop-entry.invariant.same c.loop-entry.invariant.history

pub loop-entry-preserved : goal.loop-entry-preserved
loop-entry-preserved c =
    let log = c.args.entries.now in
    let at = c.loop-entry.entry-index in
    let entry = c.entry-item.result in
    let made = c.in_ok-make_again.ensures.made in
    let tells = c.in_ok-make_again.ensures.told in
    let f = c.args.controller.now.fixed in
    let v = c.loop-entry.controller in
    let w = c.make_again.new.controller in
    let window = c.loop-entry.window in
    let next = c.make_again.new.window in
    let node = c.args.node in
    let whole = told (scan_lines node (networks_solved f log)) c.args.window.now.first
    (texts_of c.args.window.now) in
    let more = one_more_entry log at entry (omega arith) c.entry-item.is in
    let cut = cut_at log at entry (omega arith) c.entry-item.is in
    let rest = drop (at + 1) log in
    record {
      same = made.fixed ∙ c.loop-entry.invariant.same;
      history = made.history ∙ ap (λ h. h ++ entry ∷ []) c.loop-entry.invariant.history ∙ sym more;
      first = tells.first ∙ c.loop-entry.invariant.first;
      texts = ap (λ n. told (scan_lines node (solved_from f (state_of w) rest)) n (texts_of next))
          tells.first
          ∙ log_step node f v w entry rest window.first (texts_of window) (texts_of next) whole
          c.loop-entry.invariant.same made.fixed made.history tells.texts
          (ap (λ (back : List Entry). told (scan_lines node (solved_from f (state_of v) back))
          window.first (texts_of window)) (sym cut) ∙ c.loop-entry.invariant.texts);
    }

pub returns : goal.returns
returns c =
    let log = c.args.entries.now in
    let s = state_of c.loop-entry.controller in
    let f = c.args.controller.now.fixed in
    let window = c.loop-entry.window in
    let node = c.args.node in
    let none : drop c.loop-entry.entry-index log ≡ [] =
    drop_all c.loop-entry.entry-index log (omega arith) in
    record {
      first = c.loop-entry.invariant.first;
      texts = sym (told_end node f s window.first (texts_of window))
          ∙ ap (λ (back : List Entry). told (scan_lines node (solved_from f s back)) window.first
          (texts_of window)) (sym none)
          ∙ c.loop-entry.invariant.texts;
    }
