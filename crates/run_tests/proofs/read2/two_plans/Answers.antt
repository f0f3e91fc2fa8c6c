use Rattle.std.proofs.Common.{◌≡◌, IfSome, sym, subst}
use Rattle.std.specs.List.{All}
use Rattle.std.proofs.lemmas.List.Elements.{All-push}
use Rattle.traffic_cop.specs.Rows.{IsRunnablePlan}
use Rattle.plant_types.specs.Plans.{PassesTests}
use Rattle.plant_types.specs.declared.plan.ControllerPlan.{ControllerPlan}
use Rattle.run_tests.proofs.read2.two_plans.Goals as goal

pub returns-clause-runs : goal.returns-clause-runs
returns-clause-runs c = subst (All IsRunnablePlan) (sym c.in_ok-push-in-Some.ensures.ok)
    (All-push IsRunnablePlan c.args.plans c.in-Some.plan c.requires.all_run
    (subst (λ p. IfSome p IsRunnablePlan) c.in-Some.is c.requires.runs))

pub returns-clause-passes : goal.returns-clause-passes
returns-clause-passes c = subst (All PassesTests) (sym c.in_ok-push-in-Some.ensures.ok)
    (All-push PassesTests c.args.plans c.in-Some.plan c.requires.all_pass
    (subst (λ p. IfSome p PassesTests) c.in-Some.is c.requires.passes))

abbrev IsOnNet0 : ControllerPlan → Type 0
IsOnNet0 plan = plan.network ≡ 0

pub returns-clause-there : goal.returns-clause-there
returns-clause-there c = subst (All IsOnNet0) (sym c.in_ok-push-in-Some.ensures.ok)
    (All-push IsOnNet0 c.args.plans c.in-Some.plan c.requires.all_there
    (subst (λ p. IfSome p IsOnNet0) c.in-Some.is c.requires.network))
