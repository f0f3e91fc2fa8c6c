use Rattle.std.proofs.Common.{ap, ◌∙◌}
use Rattle.controller_core.specs.Controller.{ControllerIs}
use Rattle.controller_core.specs.Notes.{noted_values}
use Rattle.controller_core.proofs.controller.Controller.notes.Goals as goal

pub returns : goal.returns
returns c =
    c.as_slice.ensures.value ∙ c.self.invariant.noted.are
    ∙ ap (λ (v : ControllerIs). noted_values v.fixed v.history) c.self.view_is
