use Rattle.std.proofs.Common.{◌≡◌, false, true, sym, ◌∙◌, add-one}
use Rattle.hot_standby.proofs.Parts.{follows-more, follows-none, stops-at}
use Rattle.hot_standby.proofs.taking.follow_part.Goals as goal

pub loop-place-init : goal.loop-place-init
loop-place-init c = follows-none c.args.controller.now c.args.entries.now c.history.ensures.legal

pub loop-place-preserved : goal.loop-place-preserved
loop-place-preserved c =
    let may = c.in_ok-follow_at.ensures.may.0 c.if-not-branch.false in
    rw add-one
    (follows-more c.args.controller.now c.loop-place.controller c.follow_at.new.controller
    c.args.entries.now c.loop-place.place c.index-entries-place.result c.requires.between
    c.loop-place.invariant c.loop-place-test.true c.index-entries-place.is may.0 may.1
    (c.in_ok-follow_at.ensures.state c.if-not-branch.false) c.in_ok-follow_at.ensures.fixed
    (c.in_ok-follow_at.ensures.takes c.if-not-branch.false))

pub returns-then-not-branch-clause-part : goal.returns-then-not-branch-clause-part
returns-then-not-branch-clause-part c = (
  λ no'. absurd (let bad : false ≡ true = no' in cc),
  λ next. sym c.if-not-branch.true
      ∙ c.in_ok-follow_at.ensures.may.1
      (stops-at c.args.controller.now c.loop-place.controller c.args.entries.now
      c.loop-place.place c.index-entries-place.result c.loop-place.invariant
      c.loop-place-test.true c.index-entries-place.is next),
)
