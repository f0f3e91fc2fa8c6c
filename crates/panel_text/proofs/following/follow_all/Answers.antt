use Rattle.std.proofs.Common.{◌++◌, ◌∷◌, [], refl, ap, sym, ◌∙◌, arith}
use Rattle.panel_text.proofs.FollowLemmas.{entry_may_follow, one_more_entry}
use Rattle.panel_text.proofs.following.follow_all.Goals as goal

pub loop-entry-init : goal.loop-entry-init
loop-entry-init c = record { same = refl; history = c.requires.fresh }

pub make_again-requires : goal.make_again-requires
make_again-requires c =
    let log = c.args.entries.now in
    let at = c.loop-entry.entry-index in
    let entry = c.entry-item.result in
    let more = one_more_entry log at entry (omega arith) c.entry-item.is in
    entry_may_follow c.fronts_are_legal.ensures c.loop-entry.controller c.args.controller.now.fixed
    log at entry more
    c.requires.legal c.loop-entry.invariant.same c.loop-entry.invariant.history

pub loop-entry-preserved : goal.loop-entry-preserved
loop-entry-preserved c =
    let log = c.args.entries.now in
    let at = c.loop-entry.entry-index in
    let entry = c.entry-item.result in
    let grew = c.in_ok-make_again.ensures in
    let more = one_more_entry log at entry (omega arith) c.entry-item.is in
    record {
      same = grew.fixed ∙ c.loop-entry.invariant.same;
      history = grew.history ∙ ap (λ h. h ++ entry ∷ []) c.loop-entry.invariant.history ∙ sym more;
    }
