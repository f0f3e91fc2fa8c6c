use Rattle.std.proofs.Common.{◌∙◌, refl, sym, arith}
use Rattle.std.proofs.lemmas.Result.{err_from_is_err_and}
use Rattle.plant_types.specs.FirstFault.{tests_behind}
use Rattle.plant_types.proofs.FaultLemmas.{items-held, items-failed, items-end}
use Rattle.traffic_cop.specs.DropTests.{placed_module_tests}
use Rattle.traffic_cop.proofs.checking.check_modules.Goals as goal

pub loop-i-init : goal.loop-i-init
unfolding tests_behind
loop-i-init c = refl

pub returns-in_err-check_module : goal.returns-in_err-check_module
returns-in_err-check_module c =
    let p = err_from_is_err_and c.from_residual.result c.from_residual.ensures.1 in
    rw (p.1, p.2) (items-failed (placed_module_tests c.args.sizes c.args.drop) c.args.modules.now
    c.loop-i.i _ c.in_err-check_module.field-0.0
    (omega arith) c.loop-i.invariant (sym c.in_err-check_module.was ∙ c.check_module.ensures))

pub loop-i-preserved : goal.loop-i-preserved
loop-i-preserved c = items-held (placed_module_tests c.args.sizes c.args.drop) c.args.modules.now
    c.loop-i.i _ (omega arith) c.loop-i.invariant
    (sym c.in_ok-check_module.was ∙ c.check_module.ensures)

pub returns : goal.returns
returns c = items-end (placed_module_tests c.args.sizes c.args.drop) c.args.modules.now c.loop-i.i
    (omega arith) c.loop-i.invariant
