use Rattle.std.proofs.Common.{◌∙◌, sym, length, arith}
use Rattle.std.proofs.lemmas.Result.{err_from_is_err_and}
use Rattle.plant_types.specs.FirstFault.{tests_of_each}
use Rattle.plant_types.specs.PlanTests.{placed_cell_tests, placed_short_tests}
use Rattle.plant_types.proofs.FaultLemmas.{parts-failed, parts-held}
use Rattle.plant_types.proofs.PlanLemmas.{cells-few}
use Rattle.plant_types.proofs.plan_tests.Site.check.Goals as goal

pub returns-in_err-check_cells : goal.returns-in_err-check_cells
returns-in_err-check_cells c =
    let p = err_from_is_err_and c.from_residual.result c.from_residual.ensures.1 in
    let network = c.args.network.now in
    let cells = tests_of_each (placed_cell_tests c.args.self.now) network.cells in
    let shorts = tests_of_each (placed_short_tests c.args.self.now (length network.cells))
    network.shorts in
    rw (p.1, p.2) (parts-failed cells shorts c.in_err-check_cells.field-0.0
    (sym c.in_err-check_cells.was ∙ rw c.as_slice-cells.ensures at c.check_cells.ensures))

pub check_shorts-requires : goal.check_shorts-requires
check_shorts-requires c =
    let few = cells-few c.args.self.now c.as_slice-cells.result.now
    (sym c.check_cells.ensures ∙ c.in_ok-check_cells.was) in
    omega (arith, few)

pub returns : goal.returns
returns c =
    let network = c.args.network.now in
    let cells = tests_of_each (placed_cell_tests c.args.self.now) network.cells in
    let shorts = tests_of_each (placed_short_tests c.args.self.now (length network.cells))
    network.shorts in
    rw (c.as_slice-cells.ensures, c.as_slice.ensures) at c.check_shorts.ensures
    ∙ parts-held cells shorts
    (sym c.in_ok-check_cells.was ∙ rw c.as_slice-cells.ensures at c.check_cells.ensures)
