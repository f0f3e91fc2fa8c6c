use Rattle.std.proofs.Common.{ap, subst, ◌∙◌}
use Rattle.controller_core.specs.Controller.{ControllerIs, IsLegal}
use Rattle.controller_core.specs.Notes.{notes_of}
use Rattle.controller_core.proofs.controller.Controller.into_parts.Goals as goal

pub returns-clause-legal : goal.returns-clause-legal
returns-clause-legal c = subst (λ (v : ControllerIs). IsLegal v.fixed v.history) c.self.view_is
    c.self.invariant.kept.legal

pub returns-clause-notes : goal.returns-clause-notes
returns-clause-notes c =
    let noted = c.from_vec.ensures ∙ c.self.invariant.noted.are in
    let state = c.self.invariant.kept.state in
    (λ i. record { values = noted i; gone = (state i).gone; stop = (state i).stop })
    ∙ ap (λ (v : ControllerIs). notes_of v.fixed v.history) c.self.view_is
