use Rattle.std.proofs.Common.{◌∙◌, refl, sym, arith}
use Rattle.std.proofs.lemmas.Result.{err_from_is_err_and}
use Rattle.plant_types.specs.FirstFault.{tests_behind}
use Rattle.plant_types.specs.PlanTests.{segment_tests}
use Rattle.plant_types.proofs.FaultLemmas.{item-held, item-failed, items-end}
use Rattle.plant_types.proofs.plan_tests.check_segments.Goals as goal

pub loop-i-init : goal.loop-i-init
unfolding tests_behind
loop-i-init c = refl

pub returns-in_err-check_segment : goal.returns-in_err-check_segment
returns-in_err-check_segment c =
    let p = err_from_is_err_and c.from_residual.result c.from_residual.ensures.1 in
    rw (p.1, p.2) (item-failed
    (segment_tests c.args.plan.now) c.args.segments.now c.loop-i.i c.index-segments-i.result
    c.in_err-check_segment.field-0.0
    c.index-segments-i.is (omega arith) c.loop-i.invariant
    (sym c.in_err-check_segment.was ∙ c.check_segment.ensures))

pub loop-i-preserved : goal.loop-i-preserved
loop-i-preserved c = item-held (segment_tests c.args.plan.now) c.args.segments.now c.loop-i.i
    c.index-segments-i.result c.index-segments-i.is
    (omega arith) c.loop-i.invariant (sym c.in_ok-check_segment.was ∙ c.check_segment.ensures)

pub returns : goal.returns
returns c = items-end (segment_tests c.args.plan.now) c.args.segments.now c.loop-i.i
    (omega arith) c.loop-i.invariant
