use Rattle.std.proofs.Common.{◌∙◌, refl, sym, take, arith}
use Rattle.std.proofs.lemmas.Result.{err_from_is_err_and}
use Rattle.plant_types.specs.FirstFault.{tests_behind}
use Rattle.plant_types.proofs.FaultLemmas.{item-held, item-failed, items-end}
use Rattle.traffic_cop.specs.DropTests.{drop_tests}
use Rattle.traffic_cop.proofs.CheckLemmas.{drops-few}
use Rattle.traffic_cop.proofs.checking.check_drops.Goals as goal

pub loop-i-init : goal.loop-i-init
unfolding tests_behind
loop-i-init c = refl

pub returns-in_err-check_drop : goal.returns-in_err-check_drop
returns-in_err-check_drop c =
    let p = err_from_is_err_and c.from_residual.result c.from_residual.ensures.1 in
    rw (p.1, p.2) (item-failed (drop_tests c.args.sizes) c.args.drops.now c.loop-i.i
    c.index-drops-i.result c.in_err-check_drop.field-0.0 c.index-drops-i.is
    (omega arith) c.loop-i.invariant (sym c.in_err-check_drop.was ∙ c.check_drop.ensures))

pub loop-i-preserved : goal.loop-i-preserved
loop-i-preserved c = item-held (drop_tests c.args.sizes) c.args.drops.now c.loop-i.i
    c.index-drops-i.result c.index-drops-i.is
    (omega arith) c.loop-i.invariant (sym c.in_ok-check_drop.was ∙ c.check_drop.ensures)

pub returns : goal.returns
returns c =
    items-end (drop_tests c.args.sizes) c.args.drops.now c.loop-i.i (omega arith) c.loop-i.invariant

pub check_drop-requires : goal.check_drop-requires
check_drop-requires c =
    let few = drops-few c.args.sizes (take c.loop-i.i c.args.drops.now) c.loop-i.invariant in
    omega (arith, few)
