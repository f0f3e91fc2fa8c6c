use Rattle.std.proofs.Common.{◌∙◌, refl, sym, arith}
use Rattle.std.proofs.lemmas.Result.{err_from_is_err_and}
use Rattle.plant_types.specs.FirstFault.{tests_behind}
use Rattle.plant_types.proofs.FaultLemmas.{item-held, item-failed, items-end}
use Rattle.traffic_cop.specs.DropTests.{placed_row_tests}
use Rattle.traffic_cop.proofs.checking.check_rows.Goals as goal

pub loop-i-init : goal.loop-i-init
unfolding tests_behind
loop-i-init c = refl

pub returns-in_err-check_row : goal.returns-in_err-check_row
returns-in_err-check_row c =
    let p = err_from_is_err_and c.from_residual.result c.from_residual.ensures.1 in
    rw (p.1, p.2) (item-failed
    (placed_row_tests c.args.modules.now c.args.drop) c.args.rows.now c.loop-i.i
    c.index-rows-i.result c.in_err-check_row.field-0.0 c.index-rows-i.is
    (omega arith) c.loop-i.invariant (sym c.in_err-check_row.was ∙ c.check_row.ensures))

pub loop-i-preserved : goal.loop-i-preserved
loop-i-preserved c = item-held (placed_row_tests c.args.modules.now c.args.drop) c.args.rows.now
    c.loop-i.i c.index-rows-i.result c.index-rows-i.is
    (omega arith) c.loop-i.invariant (sym c.in_ok-check_row.was ∙ c.check_row.ensures)

pub returns : goal.returns
returns c = items-end (placed_row_tests c.args.modules.now c.args.drop) c.args.rows.now c.loop-i.i
    (omega arith) c.loop-i.invariant
