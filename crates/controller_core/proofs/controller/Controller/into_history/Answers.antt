use Rattle.std.proofs.Common.{subst}
use Rattle.controller_core.specs.Controller.{ControllerIs, IsLegal}
use Rattle.controller_core.proofs.controller.Controller.into_history.Goals as goal

pub returns-clause-legal : goal.returns-clause-legal
returns-clause-legal c = subst (λ (v : ControllerIs). IsLegal v.fixed v.history) c.self.view_is
    c.self.invariant.kept.legal
