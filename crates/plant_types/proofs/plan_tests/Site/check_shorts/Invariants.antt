use Rattle.std.proofs.Common.{◌≡◌, take, Ok}
use Rattle.plant_types.specs.FirstFault.{first_failed, tests_of_each}
use Rattle.plant_types.specs.PlanTests.{placed_short_tests}
use Rattle.plant_types.proofs.plan_tests.Site.check_shorts.Given as goal

-- the shorts so far pass
abbrev pub invariant-loop-i : goal.invariant-loop-i
invariant-loop-i l =
    first_failed (tests_of_each (placed_short_tests l.self l.cells) (take l.i l.shorts)) ≡ Ok tt
