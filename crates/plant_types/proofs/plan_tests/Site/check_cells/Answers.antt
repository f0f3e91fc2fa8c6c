use Rattle.std.proofs.Common.{◌∙◌, refl, sym, take, arith}
use Rattle.std.proofs.lemmas.Result.{err_from_is_err_and}
use Rattle.plant_types.specs.FirstFault.{tests_behind}
use Rattle.plant_types.specs.PlanTests.{placed_cell_tests}
use Rattle.plant_types.proofs.PlanLemmas.{cells-few}
use Rattle.plant_types.proofs.FaultLemmas.{items-held, items-failed, items-end}
use Rattle.plant_types.proofs.plan_tests.Site.check_cells.Goals as goal

pub loop-i-init : goal.loop-i-init
unfolding tests_behind
loop-i-init c = refl

pub returns-in_err-check_cell : goal.returns-in_err-check_cell
returns-in_err-check_cell c =
    let p = err_from_is_err_and c.from_residual.result c.from_residual.ensures.1 in
    rw (p.1, p.2) (items-failed (placed_cell_tests c.args.self.now) c.args.cells.now c.loop-i.i _
    c.in_err-check_cell.field-0.0
    (omega arith) c.loop-i.invariant (sym c.in_err-check_cell.was ∙ c.check_cell.ensures))

pub loop-i-preserved : goal.loop-i-preserved
loop-i-preserved c = items-held (placed_cell_tests c.args.self.now) c.args.cells.now c.loop-i.i _
    (omega arith) c.loop-i.invariant
    (sym c.in_ok-check_cell.was ∙ c.check_cell.ensures)

pub returns : goal.returns
returns c = items-end (placed_cell_tests c.args.self.now) c.args.cells.now c.loop-i.i
    (omega arith) c.loop-i.invariant

pub check_cell-requires : goal.check_cell-requires
check_cell-requires c =
    let few = cells-few c.args.self.now (take c.loop-i.i c.args.cells.now) c.loop-i.invariant in
    omega (arith, few)
