use Rattle.std.proofs.Common.{◌≡◌, ◌∙◌, ◌==◌, ◌&&◌, ap, sym, length, true}
use Rattle.std.proofs.lemmas.Bool.{eq-eqb}
use Rattle.host_port.specs.Calls.{requests_in, unanswered_in}
use Rattle.host_port.specs.Host.{host_is_done}
use Rattle.host_port.proofs.Reading.{all_free}
use Rattle.host_port.proofs.host.Host.is_done.Goals as goal

pub returns-then-self-as_slice : goal.returns-then-self-as_slice
returns-then-self-as_slice c =
    let i = c.self.inside in
    let h = i.history.items in
    let free = all_free i.plan h i.paths c.self.invariant.kept.unanswered
    c.self.invariant.kept.state in
    let made : (length (requests_in h) == length i.plan.requests) ≡ true =
    eq-eqb _ _
    (sym c.self.invariant.kept.count ∙ c.if-self-as_slice.true ∙ ap length c.as_slice.ensures) in
    c.are_free.ensures ∙ free ∙ ap (λ b. b && (length (unanswered_in h) == 0)) (sym made)
    ∙ ap host_is_done c.self.view_is
