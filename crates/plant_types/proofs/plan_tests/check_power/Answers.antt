use Rattle.std.proofs.Common.{◌∙◌, refl, sym, arith}
use Rattle.std.proofs.lemmas.Result.{err_from_is_err_and}
use Rattle.plant_types.specs.FirstFault.{tests_behind}
use Rattle.plant_types.specs.PlanTests.{power_tests}
use Rattle.plant_types.proofs.FaultLemmas.{items-held, items-failed, items-end}
use Rattle.plant_types.proofs.plan_tests.check_power.Goals as goal

pub loop-i-init : goal.loop-i-init
unfolding tests_behind
loop-i-init c = refl

pub returns-in_err-check_power_row : goal.returns-in_err-check_power_row
returns-in_err-check_power_row c =
    let p = err_from_is_err_and c.from_residual.result c.from_residual.ensures.1 in
    rw (p.1, p.2) (items-failed (power_tests c.args.plan.now) c.args.power.now c.loop-i.i _
    c.in_err-check_power_row.field-0.0
    (omega arith) c.loop-i.invariant (sym c.in_err-check_power_row.was ∙ c.check_power_row.ensures))

pub loop-i-preserved : goal.loop-i-preserved
loop-i-preserved c = items-held (power_tests c.args.plan.now) c.args.power.now c.loop-i.i _
    (omega arith) c.loop-i.invariant
    (sym c.in_ok-check_power_row.was ∙ c.check_power_row.ensures)

pub returns : goal.returns
returns c = items-end (power_tests c.args.plan.now) c.args.power.now c.loop-i.i
    (omega arith) c.loop-i.invariant
