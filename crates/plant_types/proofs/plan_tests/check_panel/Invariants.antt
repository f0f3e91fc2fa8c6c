use Rattle.std.proofs.Common.{◌≡◌, take, Ok}
use Rattle.plant_types.specs.FirstFault.{first_failed, tests_of_each}
use Rattle.plant_types.specs.PlanTests.{panel_tests}
use Rattle.plant_types.proofs.plan_tests.check_panel.Given as goal

-- the panel so far pass
abbrev pub invariant-loop-i : goal.invariant-loop-i
invariant-loop-i l = first_failed (tests_of_each (panel_tests l.sizes) (take l.i l.panel)) ≡ Ok tt
