use Rattle.std.proofs.Common.{◌≡◌, ◌∙◌, Bor, Option, Some, ap, subst, sym}
use Rattle.std.specs.Prelude.{Contains, option_map}
use Rattle.plant_types.specs.declared.net.NetPlan.{NetPlan}
use Rattle.plant_types.specs.declared.plan.ControllerPlan.{ControllerPlan}
use Rattle.plant_types.specs.Plans.{IsNetPlan}
use Rattle.net_laws.proofs.On.{controller-on}
use Rattle.command_answers.specs.Due.{plan_at}
use Rattle.command_answers.proofs.PlanAt.{found-runs, found-there}
use Rattle.command_answers.proofs.pairs.answer_standby.Goals as goal

pub pair_answer-requires-clause-runs : goal.pair_answer-requires-clause-runs
pair_answer-requires-clause-runs c =
    let plant = c.args.plant.now in
    let P : Option (Bor ControllerPlan) → Type 0 =
    λ found. option_map (λ plan. plan.now) found ≡ plan_at c.args.node c.as_slice.result.now in
    let found : Some c.in-Some.plan.now ≡ plan_at c.args.node plant.controllers =
    subst P c.in-Some.is c.plan_at.ensures ∙ ap (plan_at c.args.node) c.as_slice.ensures in
    found-runs plant c.args.node c.args.scans c.in-Some.plan.now c.requires.plant
    c.requires.command.2 found

pub pair_answer-requires-clause-net : goal.pair_answer-requires-clause-net
pair_answer-requires-clause-net c =
    let plant = c.args.plant.now in
    let P : Option (Bor ControllerPlan) → Type 0 =
    λ found. option_map (λ plan. plan.now) found ≡ plan_at c.args.node c.as_slice.result.now in
    let found : Some c.in-Some.plan.now ≡ plan_at c.args.node plant.controllers =
    subst P c.in-Some.is c.plan_at.ensures ∙ ap (plan_at c.args.node) c.as_slice.ensures in
    let on = controller-on plant c.in-Some.plan.now c.requires.plant.sound
    (found-there c.args.node plant.controllers c.in-Some.plan.now found) in
    subst IsNetPlan (sym on.is) on.sound

pub pair_answer-requires-clause-member : goal.pair_answer-requires-clause-member
pair_answer-requires-clause-member c =
    let plant = c.args.plant.now in
    let P : Option (Bor ControllerPlan) → Type 0 =
    λ found. option_map (λ plan. plan.now) found ≡ plan_at c.args.node c.as_slice.result.now in
    let found : Some c.in-Some.plan.now ≡ plan_at c.args.node plant.controllers =
    subst P c.in-Some.is c.plan_at.ensures ∙ ap (plan_at c.args.node) c.as_slice.ensures in
    let on = controller-on plant c.in-Some.plan.now c.requires.plant.sound
    (found-there c.args.node plant.controllers c.in-Some.plan.now found) in
    let Q : NetPlan → Type 0 = λ net. Contains net.members c.in-Some.plan.now.node in
    subst Q (sym on.is) on.member
