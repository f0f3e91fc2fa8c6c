use Rattle.std.proofs.Common.{◌∙◌, sym}
use Rattle.plant_types.specs.Standing.{cells_before, is_claimed}
use Rattle.plant_types.proofs.StandingLemmas.{claimed-append, or_true, or_false}
use Rattle.plant_types.proofs.standing.Earlier.has_claim.Goals as goal

pub returns-then-is_before : goal.returns-then-is_before
returns-then-is_before c =
    let claim = c.args.claim in
    let before = cells_before c.self.inside.segments.now c.self.inside.networks.now in
    let cells = c.self.inside.cells.now in
    rw (← c.self.view_is)
    (c.if-is_before.true ∙ or_true (is_claimed before claim) (is_claimed cells claim)
    (sym c.is_before.ensures ∙ c.if-is_before.true) ∙ sym (claimed-append claim before cells))

pub returns-else-is_before : goal.returns-else-is_before
returns-else-is_before c =
    let claim = c.args.claim in
    let before = cells_before c.self.inside.segments.now c.self.inside.networks.now in
    let cells = c.self.inside.cells.now in
    rw (← c.self.view_is)
    (c.is_in_cells.ensures ∙ or_false (is_claimed before claim) (is_claimed cells claim)
    (sym c.is_before.ensures ∙ c.if-is_before.false) ∙ sym (claimed-append claim before cells))
