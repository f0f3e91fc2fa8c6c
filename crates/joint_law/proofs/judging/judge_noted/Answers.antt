use Rattle.std.proofs.lemmas.Result.{IfOk-weaker}
use Rattle.joint_law.specs.Judgements.{IsJudgement, verdict_of}
use Rattle.joint_law.proofs.Verdicts.{legal-exactly}
use Rattle.joint_law.proofs.judging.judge_noted.Goals as goal

pub returns-clause-verdict : goal.returns-clause-verdict
returns-clause-verdict c =
    IfOk-weaker c.judge_lists.result
    (IsJudgement c.args.plant.now c.args.scans c.args.joint.now) _
    (λ made is. is.verdict) c.judge_lists.ensures

pub returns-clause-exact : goal.returns-clause-exact
returns-clause-exact c =
    IfOk-weaker c.judge_lists.result
    (IsJudgement c.args.plant.now c.args.scans c.args.joint.now) _
    (λ made is. legal-exactly c.fronts_are_legal.ensures c.args.plant.now c.args.scans
    c.args.joint.now (verdict_of made) is.verdict) c.judge_lists.ensures

pub returns-clause-effects : goal.returns-clause-effects
returns-clause-effects c =
    IfOk-weaker c.judge_lists.result
    (IsJudgement c.args.plant.now c.args.scans c.args.joint.now) _
    (λ made is legal.
    let whole = (legal-exactly c.fronts_are_legal.ensures c.args.plant.now c.args.scans
    c.args.joint.now (verdict_of made) is.verdict).0 legal in
    c.effects_are_right.ensures c.args.plant.now c.args.scans c.args.joint.now
    c.requires.sound whole.legal whole.tied) c.judge_lists.ensures

pub returns-clause-notes : goal.returns-clause-notes
returns-clause-notes c =
    IfOk-weaker c.judge_lists.result
    (IsJudgement c.args.plant.now c.args.scans c.args.joint.now) _
    (λ made is. is.notes) c.judge_lists.ensures
