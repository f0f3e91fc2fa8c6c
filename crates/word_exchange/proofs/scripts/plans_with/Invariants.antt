use Rattle.std.proofs.Common.{◌≡◌, ◌++◌, drop, map}
use Rattle.word_exchange.specs.Scripts.{plan_by}
use Rattle.word_exchange.specs.Starting.{rule_of}
use Rattle.word_exchange.proofs.scripts.plans_with.Given as goal

abbrev pub invariant-loop-plan : goal.invariant-loop-plan
invariant-loop-plan l =
    l.made ++ map (plan_by (rule_of l.wired)) (drop l.plan-index l.plans)
    ≡ map (plan_by (rule_of l.wired)) l.plans
