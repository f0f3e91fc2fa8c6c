use Rattle.std.proofs.Common.{◌≡◌, ◌∙◌, Bor, Option, Some, ap, arith, subst}
use Rattle.std.specs.Prelude.{option_map}
use Rattle.plant_types.specs.declared.plan.ControllerPlan.{ControllerPlan}
use Rattle.command_answers.specs.Due.{plan_at}
use Rattle.command_answers.proofs.PlanAt.{found-runs}
use Rattle.command_answers.proofs.sames.same_at.Goals as goal

pub beside_answer-requires : goal.beside_answer-requires
beside_answer-requires c =
    let node = c.args.node in
    let plant = c.args.plant.now in
    let new_plant = c.args.new_plant.now in
    let old = c.in-Some.old.now in
    let new = c.in-Some-plan_at.new.now in
    let P : Option (Bor ControllerPlan) → Type 0 =
    λ found. option_map (λ plan. plan.now) found ≡ plan_at node c.as_slice.result.now in
    let Q : Option (Bor ControllerPlan) → Type 0 =
    λ found. option_map (λ plan. plan.now) found ≡ plan_at node c.as_slice-in-Some.result.now in
    let old_found : Some old ≡ plan_at node plant.controllers =
    subst P c.in-Some.is c.plan_at.ensures ∙ ap (plan_at node) c.as_slice.ensures in
    let new_found : Some new ≡ plan_at node new_plant.controllers =
    subst Q c.in-Some-plan_at.is c.plan_at-in-Some.ensures
    ∙ ap (plan_at node) c.as_slice-in-Some.ensures in
    record {
      old_runs = found-runs plant node 1 old c.requires.old
          (record { from = omega arith; to = omega arith }) old_found;
      new_runs = found-runs new_plant node 1 new c.requires.new
          (record { from = omega arith; to = omega arith }) new_found;
    }
