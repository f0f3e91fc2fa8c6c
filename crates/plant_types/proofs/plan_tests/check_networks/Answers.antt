use Rattle.std.proofs.Common.{◌∙◌, refl, sym, arith}
use Rattle.std.proofs.lemmas.Result.{err_from_is_err_and}
use Rattle.plant_types.specs.FirstFault.{tests_behind}
use Rattle.plant_types.specs.PlanTests.{site_tests_in}
use Rattle.plant_types.proofs.FaultLemmas.{item-held, item-failed, items-end}
use Rattle.plant_types.proofs.plan_tests.check_networks.Goals as goal

pub loop-i-init : goal.loop-i-init
unfolding tests_behind
loop-i-init c = refl

pub returns-in_err-check : goal.returns-in_err-check
returns-in_err-check c =
    let p = err_from_is_err_and c.from_residual.result c.from_residual.ensures.1 in
    rw (p.1, p.2) (item-failed
    (site_tests_in c.args.plan.now c.args.earlier.now) c.args.networks.now c.loop-i.i
    c.index-networks-i.result
    c.in_err-check.field-0.0 c.index-networks-i.is (omega arith) c.loop-i.invariant
    (sym c.in_err-check.was ∙ rw
    (c.sizes.ensures, c.as_slice.ensures) at c.check.ensures))

pub loop-i-preserved : goal.loop-i-preserved
loop-i-preserved c = item-held
    (site_tests_in c.args.plan.now c.args.earlier.now) c.args.networks.now c.loop-i.i
    c.index-networks-i.result c.index-networks-i.is
    (omega arith) c.loop-i.invariant
    (sym c.in_ok-check.was ∙ rw (c.sizes.ensures, c.as_slice.ensures) at c.check.ensures)

pub returns : goal.returns
returns c = items-end (site_tests_in c.args.plan.now c.args.earlier.now) c.args.networks.now
    c.loop-i.i (omega arith) c.loop-i.invariant
