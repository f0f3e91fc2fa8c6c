use Rattle.std.proofs.Common.{◌≡◌, map, take}
use Rattle.joint_law.proofs.sections.are_of_lefts.Given as goal

abbrev pub invariant-loop-at : goal.invariant-loop-at
invariant-loop-at l =
    map (λ log. log.left) (take l.at l.logs) ≡ map (λ plan. plan.left) (take l.at l.plans)
