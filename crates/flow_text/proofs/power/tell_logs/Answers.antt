use Rattle.std.proofs.Common.{◌≡◌, ◌∷◌, ◌+◌, List, [], drop, get_or, ap, ap₂, subst, sym, ◌∙◌}
use Rattle.std.proofs.Common.{arith}
use Rattle.std.specs.List.{AllByRecursion, flat_map, zip}
use Rattle.std.proofs.lemmas.List.{drop_all}
use Rattle.plant_types.specs.declared.plan.ControllerPlan.{ControllerPlan}
use Rattle.joint_history.specs.declared.joint.ControllerLog.{ControllerLog}
use Rattle.panel_text.specs.Panel.{CanShow}
use Rattle.panel_text.proofs.LineLemmas.{cut_at}
use Rattle.flow_text.specs.Power.{log_lines}
use Rattle.flow_text.specs.Window.{texts_of, told}
use Rattle.flow_text.proofs.Telling.{logs_end, logs_step}
use Rattle.flow_text.proofs.power.tell_logs.Goals as goal

pub loop-at-preserved : goal.loop-at-preserved
loop-at-preserved c =
    let plant = c.args.plant.now in
    let plans = plant.controllers in
    let logs = c.args.logs.now in
    let at = c.loop-at.at in
    let plan = c.index-plans-at.result in
    let log = c.index-logs-at.result in
    let window = c.loop-at.window in
    let next = c.tell_log.new.window in
    let tells = c.in_ok-tell_log.ensures in
    let count = c.requires.count in
    let plan_is : plan ≡ get_or plans at plan =
    c.index-plans-at.is ∙ ap (λ (all : List ControllerPlan). get_or all at plan)
    c.as_slice-plans.ensures in
    let cut_plans = cut_at plans at plan (omega (arith, count)) plan_is in
    let cut_logs = cut_at logs at log (omega arith) c.index-logs-at.is in
    let rest = zip (drop (at + 1) plans) (drop (at + 1) logs) in
    let pairs : zip (drop at plans) (drop at logs) ≡ (plan, log) ∷ rest =
    ap₂ (λ (ps : List ControllerPlan) (ls : List ControllerLog). zip ps ls) cut_plans cut_logs in
    let whole = told (λ scan. flat_map (log_lines plant scan) (zip plans logs))
    c.args.window.now.first (texts_of c.args.window.now) in
    record {
      first = tells.first ∙ c.loop-at.invariant.first;
      texts = ap (λ n. told (λ scan. flat_map (log_lines plant scan) rest) n (texts_of next))
          tells.first
          ∙ logs_step (log_lines plant) (plan, log) rest window.first (texts_of window)
          (texts_of next) whole tells.texts
          (ap (λ (of : List (ControllerPlan × ControllerLog)).
          told (λ scan. flat_map (log_lines plant scan) of) window.first (texts_of window))
          (sym pairs) ∙ c.loop-at.invariant.texts);
      left = (subst (AllByRecursion (CanShow plant)) pairs c.loop-at.invariant.left).1;
    }

pub returns : goal.returns
returns c =
    let plant = c.args.plant.now in
    let plans = plant.controllers in
    let logs = c.args.logs.now in
    let at = c.loop-at.at in
    let window = c.loop-at.window in
    let count = c.requires.count in
    let none : zip (drop at plans) (drop at logs) ≡ [] =
    ap₂ (λ (ps : List ControllerPlan) (ls : List ControllerLog). zip ps ls)
    (drop_all at plans (omega (arith, count))) (drop_all at logs (omega arith)) in
    record {
      first = c.loop-at.invariant.first;
      texts = sym (logs_end (log_lines plant) window.first (texts_of window))
          ∙ ap (λ (of : List (ControllerPlan × ControllerLog)).
          told (λ scan. flat_map (log_lines plant scan) of) window.first (texts_of window))
          (sym none)
          ∙ c.loop-at.invariant.texts;
    }
