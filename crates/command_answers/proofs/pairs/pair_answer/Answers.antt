use Rattle.std.proofs.Common.{◌≡◌, ◌∙◌, List, ap, refl, subst}
use Rattle.plant_types.specs.declared.net.Fate.{Fate}
use Rattle.plant_types.specs.Plans.{net_of}
use Rattle.controller_core.specs.Controller.{IsLegal}
use Rattle.joint_history.specs.JointLaws.{fixed_of}
use Rattle.standby_pair.specs.Pair.{RepliesComeOnceOrTwice, SwitchesInTime, pair_text}
use Rattle.command_answers.proofs.pairs.pair_answer.Goals as goal

pub returns : goal.returns
returns c =
    let plant = c.args.plant.now in
    let plan = c.args.plan.now in
    let fixed = fixed_of plant c.args.scans plan in
    let port = c.args.port.now in
    let fail = c.args.fail in
    let fates_are : c.as_slice-fates.result.now ≡ (net_of plant plan.node).fates =
    c.as_slice-fates.ensures ∙ ap (λ net. net.fates) c.own_net.ensures in
    let InTime : List Fate → Type 0 = λ fates. SwitchesInTime fixed fates port fail in
    let Replies : List Fate → Type 0 = λ fates. RepliesComeOnceOrTwice fixed fates port fail in
    let end = c.in_ok-end.ensures in
    record {
      legal = subst (IsLegal fixed) end.history end.legal;
      in_time = subst InTime fates_are end.in_time;
      replies = subst Replies fates_are end.replies;
      status = refl;
      text = c.into_vec.ensures ∙ c.into_text.ensures ∙ end.text
          ∙ ap (λ fates. pair_text fixed fates port fail) fates_are;
    }
