use Rattle.std.proofs.Common.{◌∙◌}
use Rattle.controller_core.proofs.Stepping.{ended_is}
use Rattle.controller_core.proofs.controller.Controller.has_ended.Goals as goal

pub returns : goal.returns
returns c =
    let i = c.self.inside in
    c.is_over.ensures ∙ ended_is i.machine.fixed i.machine i.history.items i.at i.reserved
    c.args.self.now c.self.view_is c.self.invariant.kept
