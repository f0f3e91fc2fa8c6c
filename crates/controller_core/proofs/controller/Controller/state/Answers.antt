use Rattle.std.proofs.Common.{ap, ◌∙◌}
use Rattle.controller_core.specs.Controller.{state_of}
use Rattle.controller_core.proofs.controller.Controller.state.Goals as goal

pub returns : goal.returns
returns c =
    c.state.ensures ∙ c.self.invariant.kept.state ∙ ap state_of c.self.view_is
