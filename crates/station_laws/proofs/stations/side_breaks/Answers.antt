use Rattle.std.proofs.lemmas.Result.{IfOk-weaker}
use Rattle.joint_history.specs.Bridges.{backs_of, side_items}
use Rattle.station_laws.specs.Picked.{picked}
use Rattle.station_laws.proofs.Founded.{downs-end, side-fails}
use Rattle.station_laws.proofs.LawSteps.{answers-end, backs-end}
use Rattle.station_laws.proofs.stations.side_breaks.Goals as goal

pub returns-in_ok-accepted-in-Answers : goal.returns-in_ok-accepted-in-Answers
returns-in_ok-accepted-in-Answers c =
    IfOk-weaker c.compare_answers.result _ _
    (λ end h. answers-end c.args.law _ (side_items c.args.side c.args.entries.now)
    (backs_of c.args.side c.args.entries.now) (picked c.args.ring.now c.args.places.now) _ end
    c.in-Answers.is c.in_ok-accepted-in-Answers.ensures h)
    c.compare_answers.ensures

pub returns-in-Replies : goal.returns-in-Replies
returns-in-Replies c =
    IfOk-weaker c.compare_backs.result _ _
    (λ end h. backs-end c.args.law (side_items c.args.side c.args.entries.now)
    (backs_of c.args.side c.args.entries.now) (picked c.args.ring.now c.args.places.now) end
    c.in-Replies.is h)
    c.compare_backs.ensures

pub returns-in-Downs : goal.returns-in-Downs
returns-in-Downs c =
    IfOk-weaker c.judge_downs.result _ _
    (λ end h. downs-end c.args.law _ (side_items c.args.side c.args.entries.now)
    (backs_of c.args.side c.args.entries.now) (picked c.args.ring.now c.args.places.now) 0 end
    c.in-Downs.is (side-fails c.args.side c.args.entries.now) h)
    c.judge_downs.ensures
