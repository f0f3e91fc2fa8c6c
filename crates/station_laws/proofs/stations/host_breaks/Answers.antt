use Rattle.std.proofs.Common.{[]}
use Rattle.tied_lists.specs.Items.{no_items}
use Rattle.std.proofs.lemmas.Result.{IfOk-weaker}
use Rattle.joint_history.specs.Reading.{host_items_of}
use Rattle.station_laws.specs.Picked.{picked}
use Rattle.station_laws.proofs.Founded.{downs-end, host-fails}
use Rattle.station_laws.proofs.LawSteps.{answers-end}
use Rattle.station_laws.proofs.stations.host_breaks.Goals as goal

pub returns-in_ok-host_answered-in-Answers : goal.returns-in_ok-host_answered-in-Answers
returns-in_ok-host_answered-in-Answers c =
    IfOk-weaker c.compare_answers.result _ _
    (λ end h. answers-end c.args.law _ (host_items_of c.args.entries.now) []
    (picked c.args.ring.now c.args.places.now) _ end c.in-Answers.is
    c.in_ok-host_answered-in-Answers.ensures h)
    c.compare_answers.ensures

pub returns-in-Downs : goal.returns-in-Downs
returns-in-Downs c =
    IfOk-weaker c.judge_downs.result _ _
    (λ end h. downs-end c.args.law _ (host_items_of c.args.entries.now) []
    (picked c.args.ring.now c.args.places.now) _ end c.in-Downs.is
    (host-fails no_items c.args.entries.now) h)
    c.judge_downs.ensures
