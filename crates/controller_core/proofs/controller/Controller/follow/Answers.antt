use Rattle.controller_core.proofs.NextEntry.{fixed_ok, takes_ok}
use Rattle.controller_core.proofs.controller.Controller.follow.Goals as goal

pub returns-clause-takes : goal.returns-clause-takes
returns-clause-takes c =
    let told = c.follow_entry.ensures in
    takes_ok c.args.self.now c.follow_entry.new.self c.args.entry.now c.follow_entry.result
    told.state told.legal

pub returns-clause-fixed : goal.returns-clause-fixed
returns-clause-fixed c =
    let told = c.follow_entry.ensures in
    fixed_ok c.args.self.now c.follow_entry.new.self c.args.entry.now c.follow_entry.result
    told.state told.err
