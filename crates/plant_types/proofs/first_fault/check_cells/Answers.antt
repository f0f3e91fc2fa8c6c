use Rattle.std.proofs.Common.{◌∙◌, refl, sym, arith}
use Rattle.std.proofs.lemmas.Result.{err_from_is_err_and}
use Rattle.plant_types.specs.FirstFault.{tests_behind, cell_tests}
use Rattle.plant_types.proofs.FaultLemmas.{items-held, items-failed, items-end}
use Rattle.plant_types.proofs.first_fault.check_cells.Goals as goal

pub loop-i-init : goal.loop-i-init
unfolding tests_behind
loop-i-init c = refl

pub returns-in_err-check : goal.returns-in_err-check
returns-in_err-check c =
    let p = err_from_is_err_and c.from_residual.result c.from_residual.ensures.1 in
    rw (p.1, p.2) (items-failed (cell_tests c.args.sizes) c.args.cells.now c.loop-i.i _
    c.in_err-check.field-0.0 (omega arith) c.loop-i.invariant
    (sym c.in_err-check.was ∙ c.check.ensures))

pub loop-i-preserved : goal.loop-i-preserved
loop-i-preserved c = items-held (cell_tests c.args.sizes) c.args.cells.now c.loop-i.i _
    (omega arith) c.loop-i.invariant
    (sym c.in_ok-check.was ∙ c.check.ensures)

pub returns : goal.returns
returns c =
    items-end (cell_tests c.args.sizes) c.args.cells.now c.loop-i.i (omega arith) c.loop-i.invariant
