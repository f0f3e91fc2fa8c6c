use Rattle.std.proofs.Common.{◌≡◌, take, Ok}
use Rattle.plant_types.specs.FirstFault.{first_failed, tests_of_each}
use Rattle.plant_types.specs.PlanTests.{power_tests}
use Rattle.plant_types.proofs.plan_tests.check_power.Given as goal

-- the power rows so far pass
abbrev pub invariant-loop-i : goal.invariant-loop-i
invariant-loop-i l = first_failed (tests_of_each (power_tests l.plan) (take l.i l.power)) ≡ Ok tt
