use Rattle.std.proofs.Common.{◌∙◌, ◌+◌, length, ap}
use Rattle.plant_types.specs.Fault.{at_place}
use Rattle.plant_types.specs.PlanTests.{piece_place, site_cell_tests}
use Rattle.plant_types.proofs.PlanLemmas.{placed-first}
use Rattle.plant_types.proofs.plan_tests.Site.check_cell.Goals as goal

pub returns : goal.returns
returns c =
    let site = c.args.self.now in
    let earlier = c.args.earlier.now in
    let tests = site_cell_tests site earlier c.args.cell in
    c.locate.ensures ∙ ap (λ place. at_place place c.test_cell.result) c.piece-place.ensures
    ∙ ap (at_place (piece_place site (length earlier + 1))) c.test_cell.ensures
    ∙ placed-first (piece_place site (length earlier + 1)) tests
