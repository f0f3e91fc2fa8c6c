use Rattle.std.proofs.Common.{List, sym, subst}
use Rattle.plant_types.specs.declared.drops.IoDrop.{IoDrop}
use Rattle.traffic_cop.specs.Drops.{drop_named, IsNamed}
use Rattle.traffic_cop.proofs.FeedingLemmas.{on-err, on-ok}
use Rattle.controller_core.proofs.FeedingLemmas.{both-fed, both-stay, fits-named}
use Rattle.controller_core.proofs.machine.Machine.feed_row.Goals as goal

pub feed_with_plan-requires-clause-named : goal.feed_with_plan-requires-clause-named
feed_with_plan-requires-clause-named c =
    let machine = c.args.self.now in
    subst (λ (drops : List IoDrop). IsNamed drops c.args.drop) (sym c.requires.sound.drops)
    (fits-named (drop_named machine.fixed.plan.drops c.args.drop) c.args.row c.requires.fits)

pub returns-clause-ok : goal.returns-clause-ok
returns-clause-ok c =
    let call = c.feed_with_plan in
    on-ok call.result (λ fed. both-fed c.args.self.now call.new.drops call.new.self c.args.drop
    c.args.row c.requires.sound.drops fed call.ensures.same) call.ensures.ok

pub returns-clause-err : goal.returns-clause-err
returns-clause-err c =
    let call = c.feed_with_plan in
    on-err call.result (λ stays. both-stay c.args.self.now call.new.drops call.new.self
    c.requires.sound.drops stays call.ensures.same) call.ensures.err
