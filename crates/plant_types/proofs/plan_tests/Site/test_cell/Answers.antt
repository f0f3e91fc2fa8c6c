use Rattle.std.proofs.Common.{◌∙◌, ◌++◌, sym, ap}
use Rattle.std.proofs.lemmas.Result.{err_from_is_err_and}
use Rattle.plant_types.specs.FirstFault.{cell_tests, first_failed}
use Rattle.plant_types.specs.Standing.{cells_before, standing_of, standing_tests}
use Rattle.plant_types.specs.PlanTests.{Site}
use Rattle.plant_types.proofs.FaultLemmas.{parts-failed, parts-held}
use Rattle.plant_types.proofs.plan_tests.Site.test_cell.Goals as goal

pub returns-in_err-check : goal.returns-in_err-check
returns-in_err-check c =
    let p = err_from_is_err_and c.from_residual.result c.from_residual.ensures.1 in
    let site : Site = record {
      sizes = c.self.inside.sizes;
      is_last = c.self.inside.is_last;
      segments = c.self.inside.segments.now;
      networks = c.self.inside.networks.now;
    } in
    let tests = cell_tests site.sizes c.args.earlier.now c.args.cell in
    let standing = standing_tests (standing_of site.is_last
    (cells_before site.segments site.networks ++ c.args.earlier.now) c.args.cell.element) in
    rw (p.1, p.2, ← c.self.view_is) (parts-failed tests standing c.in_err-check.field-0.0
    (sym c.in_err-check.was ∙ c.check.ensures))

pub returns : goal.returns
returns c =
    let site : Site = record {
      sizes = c.self.inside.sizes;
      is_last = c.self.inside.is_last;
      segments = c.self.inside.segments.now;
      networks = c.self.inside.networks.now;
    } in
    let tests = cell_tests site.sizes c.args.earlier.now c.args.cell in
    let standing = standing_of site.is_last
    (cells_before site.segments site.networks ++ c.args.earlier.now) c.args.cell.element in
    rw (← c.self.view_is)
    (c.check-2.ensures ∙ ap (λ s. first_failed (standing_tests s)) c.standing.ensures
    ∙ parts-held tests (standing_tests standing) (sym c.in_ok-check.was ∙ c.check.ensures))
