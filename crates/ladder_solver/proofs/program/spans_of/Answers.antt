use Rattle.std.proofs.Common.{◌≡◌, ◌-◌, ◌<◌, suc, length, ◌∙◌, sym, arith}
use Rattle.ladder_solver.proofs.Subroutines.{spans_none, end_none, behind_label, behind_none}
use Rattle.ladder_solver.proofs.program.spans_of.Goals as goal

pub loop-first-init : goal.loop-first-init
loop-first-init c = record {
  laid = c.new-spans.ensures.items ∙ spans_none c.args.grids.now;
  next = end_none c.args.grids.now;
}

pub loop-first-preserved-in-Some : goal.loop-first-preserved-in-Some
loop-first-preserved-in-Some c =
    let next : c.loop-first.first ≡ suc (c.loop-first.first - 1) =
    omega (arith, c.loop-first-test.true) in
    let within : c.loop-first.first - 1 < length c.args.grids.now =
    omega (arith, c.loop-first-test.true, c.loop-first.auto.first) in
    rw c.in_ok-put_span.ensures
    (behind_label c.args.grids.now (c.loop-first.first - 1) c.loop-first.first c.in-Some.number
    c.loop-first.end c.index-grids-first.result
    c.loop-first.spans.items next within c.index-grids-first.is
    (sym c.label_in.ensures ∙ c.in-Some.is) c.loop-first.invariant)

pub loop-first-preserved : goal.loop-first-preserved
loop-first-preserved c =
    let next : c.loop-first.first ≡ suc (c.loop-first.first - 1) =
    omega (arith, c.loop-first-test.true) in
    let within : c.loop-first.first - 1 < length c.args.grids.now =
    omega (arith, c.loop-first-test.true, c.loop-first.auto.first) in
    behind_none c.args.grids.now (c.loop-first.first - 1) c.loop-first.first c.loop-first.end
    c.index-grids-first.result
    c.loop-first.spans.items next within c.index-grids-first.is
    (sym c.label_in.ensures ∙ c.in_default.is) c.loop-first.invariant
