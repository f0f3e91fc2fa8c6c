use Rattle.std.proofs.Common.{sym, ap, subst, ◌∙◌}
use Rattle.std.specs.Prelude.{vec_capacity}
use Rattle.traffic_cop.proofs.FeedingLemmas.{on-err, on-ok}
use Rattle.controller_core.specs.declared.machine.Machine.{Machine}
use Rattle.controller_core.specs.Controller.{ControllerIs, state_of}
use Rattle.controller_core.specs.Feeding.{CanFeed, CanFeedAfter}
use Rattle.controller_core.proofs.FeedingLemmas.{fed-view, state-either, whole-either}
use Rattle.controller_core.proofs.controller.Controller.feed_row.Goals as goal

pub feed_row-requires-clause-fits : goal.feed_row-requires-clause-fits
feed_row-requires-clause-fits c =
    let can : CanFeedAfter c.self.inside.machine.fixed c.self.inside.history.items c.args.drop
    c.args.row = subst (λ (v : ControllerIs). CanFeed v c.args.drop c.args.row) (sym c.self.view_is)
    c.requires in
    can.fits

pub invariant_of-self : goal.invariant_of-self
invariant_of-self c =
    let i = c.self.inside in
    let can : CanFeedAfter i.machine.fixed i.history.items c.args.drop c.args.row =
    subst (λ (v : ControllerIs). CanFeed v c.args.drop c.args.row) (sym c.self.view_is)
    c.requires in
    whole-either c.feed_row.result i.machine c.feed_row.new.self i.history.items i.at i.reserved
    (vec_capacity i.history) i.values.items (vec_capacity i.values) c.args.drop c.args.row can
    c.self.invariant c.feed_row.ensures.ok c.feed_row.ensures.err

pub returns-clause-ok : goal.returns-clause-ok
returns-clause-ok c =
    let i = c.self.inside in
    on-ok c.feed_row.result (λ fed. fed-view i.machine c.feed_row.new.self i.history.items
    i.reserved c.args.self.now c.args.drop c.args.row c.self.view_is fed) c.feed_row.ensures.ok

pub returns-clause-legal : goal.returns-clause-legal
returns-clause-legal c =
    let i = c.self.inside in
    let can : CanFeedAfter i.machine.fixed i.history.items c.args.drop c.args.row =
    subst (λ (v : ControllerIs). CanFeed v c.args.drop c.args.row) (sym c.self.view_is)
    c.requires in
    (whole-either c.feed_row.result i.machine c.feed_row.new.self i.history.items i.at i.reserved
    (vec_capacity i.history) i.values.items (vec_capacity i.values) c.args.drop c.args.row can
    c.self.invariant c.feed_row.ensures.ok c.feed_row.ensures.err).kept.legal

pub returns-clause-state : goal.returns-clause-state
returns-clause-state c =
    let i = c.self.inside in
    let can : CanFeedAfter i.machine.fixed i.history.items c.args.drop c.args.row =
    subst (λ (v : ControllerIs). CanFeed v c.args.drop c.args.row) (sym c.self.view_is)
    c.requires in
    state-either c.feed_row.result i.machine c.feed_row.new.self i.history.items c.args.drop
    c.args.row can c.feed_row.ensures.ok c.feed_row.ensures.err
    ∙ ap (λ (v : ControllerIs). state_of v) c.self.view_is

pub returns-clause-err : goal.returns-clause-err
returns-clause-err c =
    let i = c.self.inside in
    on-err c.feed_row.result (λ same. ap (λ (m : Machine). record {
      fixed = m.fixed;
      history = i.history.items;
      reserved = i.reserved;
    }) same ∙ c.self.view_is) c.feed_row.ensures.err
