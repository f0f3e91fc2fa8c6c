use Rattle.std.proofs.Common.{◌≡◌, map, take}
use Rattle.joint_law.proofs.sections.are_of_nets.Given as goal

abbrev pub invariant-loop-at : goal.invariant-loop-at
invariant-loop-at l =
    map (λ log. log.network) (take l.at l.logs) ≡ map (λ plan. plan.number) (take l.at l.plans)
