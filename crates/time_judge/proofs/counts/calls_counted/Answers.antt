use Rattle.std.proofs.Common.{◌∙◌}
use Rattle.time_judge.proofs.Calls.{calls-step, calls-end}
use Rattle.time_judge.proofs.counts.calls_counted.Goals as goal

pub loop-call-preserved : goal.loop-call-preserved
loop-call-preserved c answers =
    calls-step c.args.calls.now c.loop-call.call-index c.call-item.result c.loop-call-test.true
    c.call-item.is c.loop-call.next c.in_ok-next.next c.in_ok-next.ensures answers
    ∙ c.loop-call.invariant answers

pub returns : goal.returns
returns c =
    calls-end c.args.calls.now c.loop-call.call-index c.loop-call-test.false c.args.counts
    c.loop-call.next c.loop-call.invariant
