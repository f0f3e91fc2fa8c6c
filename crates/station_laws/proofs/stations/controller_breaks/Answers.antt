use Rattle.std.proofs.Common.{[], sym, ◌∙◌}
use Rattle.std.proofs.lemmas.Result.{IfOk-weaker}
use Rattle.joint_history.specs.Reading.{items_of}
use Rattle.station_laws.specs.Picked.{picked}
use Rattle.station_laws.proofs.Founded.{downs-end, fails-of}
use Rattle.station_laws.proofs.LawSteps.{answers-end}
use Rattle.station_laws.proofs.stations.controller_breaks.Goals as goal

pub returns-in_ok-answered-in-Answers : goal.returns-in_ok-answered-in-Answers
returns-in_ok-answered-in-Answers c =
    IfOk-weaker c.compare_answers.result _ _
    (λ end h. answers-end c.args.law _ (items_of c.args.entries.now) []
    (picked c.args.ring.now c.args.places.now) _ end c.in-Answers.is
    c.in_ok-answered-in-Answers.ensures h)
    c.compare_answers.ensures

pub returns-in-Downs : goal.returns-in-Downs
returns-in-Downs c =
    IfOk-weaker c.judge_downs.result _ _
    (λ end h. downs-end c.args.law _ (items_of c.args.entries.now) []
    (picked c.args.ring.now c.args.places.now) _ end c.in-Downs.is
    (fails-of c.args.entries.now ∙ sym c.count_fails.ensures) h)
    c.judge_downs.ensures
