use Rattle.std.proofs.Common.{◌≡◌, take, Ok}
use Rattle.plant_types.specs.FirstFault.{first_failed, tests_of_each}
use Rattle.plant_types.specs.PlanTests.{segment_tests}
use Rattle.plant_types.proofs.plan_tests.check_segments.Given as goal

-- the segments so far pass
abbrev pub invariant-loop-i : goal.invariant-loop-i
invariant-loop-i l =
    first_failed (tests_of_each (segment_tests l.plan) (take l.i l.segments)) ≡ Ok tt
