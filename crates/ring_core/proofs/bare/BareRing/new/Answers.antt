use Rattle.std.proofs.Common.{ap, sym, ◌∙◌, subst, List, ◌<◌, All, length}
use Rattle.global_data.specs.Book.{new_book}
use Rattle.ring_core.specs.Words.{NetPlan}
use Rattle.ring_core.specs.Machine.{NodeIs, addresses, least_from, opening_nodes}
use Rattle.ring_core.specs.Kept.{opening_stats}
use Rattle.ring_core.proofs.Keeping.{kept-opening}
use Rattle.ring_core.proofs.bare.BareRing.new.Goals as goal

pub returns-clause-behind : goal.returns-clause-behind
returns-clause-behind c =
    let plan = c.in_ok-plan.plan in
    let nodes = c.in_ok-nodes.nodes.items in
    let stats = c.in_ok-stats.stats.items in
    let members = subst (λ (p : NetPlan). All (λ m. m < addresses) p.members)
    (sym c.in_ok-plan.ensures) c.requires.members in
    let fates = subst (λ (p : NetPlan). 0 < length p.fates)
    (sym c.in_ok-plan.ensures) c.requires.fates in
    kept-opening plan c.least_from-holder.result nodes stats c.in_ok-book.book members fates
    (c.in_ok-nodes.ensures.nodes ∙ ap opening_nodes c.as_slice.ensures)
    (c.least_from-holder.ensures ∙ ap (λ (l : List NodeIs). least_from l 0) c.deref.ensures.value)
    (c.in_ok-stats.ensures ∙ ap opening_stats c.as_slice-2.ensures)
    (c.in_ok-book.ensures ∙ ap new_book c.as_slice-3.ensures)
