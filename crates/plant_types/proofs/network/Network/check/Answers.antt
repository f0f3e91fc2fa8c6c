use Rattle.std.proofs.Common.{◌∙◌, sym, ap}
use Rattle.std.proofs.lemmas.Result.{err_from_is_err_and}
use Rattle.plant_types.specs.Checks.{sizes_of}
use Rattle.plant_types.specs.FirstFault.{tests_of_each, cell_tests, short_tests, first_failed}
use Rattle.plant_types.proofs.FaultLemmas.{parts-failed, parts-held}
use Rattle.plant_types.proofs.network.Network.check.Goals as goal

pub returns-in_err-check_cells : goal.returns-in_err-check_cells
returns-in_err-check_cells c =
    let p = err_from_is_err_and c.from_residual.result c.from_residual.ensures.1 in
    let network = c.args.self.now in
    let cells = tests_of_each (cell_tests (sizes_of c.args.plan.now)) network.cells in
    rw (p.1, p.2)
    (parts-failed cells (tests_of_each short_tests network.shorts) c.in_err-check_cells.field-0.0
    (sym c.in_err-check_cells.was
    ∙ rw (c.sizes.ensures, c.as_slice.ensures) at c.check_cells.ensures))

pub returns : goal.returns
returns c =
    let network = c.args.self.now in
    let cells = tests_of_each (cell_tests (sizes_of c.args.plan.now)) network.cells in
    c.check_shorts.ensures
    ∙ ap (λ shorts. first_failed (tests_of_each short_tests shorts)) c.as_slice-2.ensures
    ∙ parts-held cells (tests_of_each short_tests network.shorts)
    (sym c.in_ok-check_cells.was
    ∙ rw (c.sizes.ensures, c.as_slice.ensures) at c.check_cells.ensures)
