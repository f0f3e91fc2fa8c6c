use Rattle.std.proofs.Common.{◌≡◌, take, Ok}
use Rattle.plant_types.specs.FirstFault.{first_failed, tests_of_each}
use Rattle.plant_types.specs.PlanTests.{site_tests_in}
use Rattle.plant_types.proofs.plan_tests.check_networks.Given as goal

-- the networks so far pass
abbrev pub invariant-loop-i : goal.invariant-loop-i
invariant-loop-i l =
    first_failed (tests_of_each (site_tests_in l.plan l.earlier) (take l.i l.networks)) ≡ Ok tt
