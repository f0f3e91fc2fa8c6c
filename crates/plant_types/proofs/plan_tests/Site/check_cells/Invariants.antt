use Rattle.std.proofs.Common.{◌≡◌, take, Ok}
use Rattle.plant_types.specs.FirstFault.{first_failed, tests_of_each}
use Rattle.plant_types.specs.PlanTests.{placed_cell_tests}
use Rattle.plant_types.proofs.plan_tests.Site.check_cells.Given as goal

-- the cells so far pass
abbrev pub invariant-loop-i : goal.invariant-loop-i
invariant-loop-i l =
    first_failed (tests_of_each (placed_cell_tests l.self) (take l.i l.cells)) ≡ Ok tt
