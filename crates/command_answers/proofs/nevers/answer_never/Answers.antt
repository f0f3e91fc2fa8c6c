use Rattle.std.proofs.Common.{◌≡◌, ◌∙◌, Bor, Option, Some, ap, arith, subst}
use Rattle.std.specs.Prelude.{option_map}
use Rattle.plant_types.specs.declared.plan.ControllerPlan.{ControllerPlan}
use Rattle.command_answers.specs.Due.{plan_at}
use Rattle.command_answers.proofs.PlanAt.{found-runs}
use Rattle.command_answers.proofs.nevers.answer_never.Goals as goal

pub search_answer-requires : goal.search_answer-requires
search_answer-requires c =
    let plant = c.args.plant.now in
    let P : Option (Bor ControllerPlan) → Type 0 =
    λ found. option_map (λ plan. plan.now) found ≡ plan_at c.args.node c.as_slice.result.now in
    let found : Some c.in-Some.plan.now ≡ plan_at c.args.node plant.controllers =
    subst P c.in-Some.is c.plan_at.ensures ∙ ap (plan_at c.args.node) c.as_slice.ensures in
    record {
      runs = found-runs plant c.args.node 1 c.in-Some.plan.now c.requires.plant
          (record { from = omega arith; to = omega arith }) found;
    }
