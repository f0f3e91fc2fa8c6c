use Rattle.std.proofs.Common.{sym, ◌∙◌}
use Rattle.time_judge.proofs.Walking.{walk-on, walk-end}
use Rattle.time_judge.proofs.answering.walk_on.Goals as goal

pub walk-preserved : goal.walk-preserved
walk-preserved c =
    (walk-on c.walk.walk c.in-Some.next c.args.requests.now c.args.answers.now c.args.told
    c.walk.invariant (sym c.step.ensures ∙ c.in-Some.is)).walk

pub returns-in-None : goal.returns-in-None
returns-in-None c =
    walk-end c.walk.walk c.args.requests.now c.args.answers.now c.args.told c.walk.invariant
    (sym c.step.ensures ∙ c.in-None.is)
