use Rattle.std.proofs.Common.{◌≡◌, take, Ok}
use Rattle.plant_types.specs.FirstFault.{first_failed, tests_of_each}
use Rattle.traffic_cop.specs.DropTests.{placed_module_tests}
use Rattle.traffic_cop.proofs.checking.check_modules.Given as goal

-- the modules so far pass
abbrev pub invariant-loop-i : goal.invariant-loop-i
invariant-loop-i l =
    first_failed (tests_of_each (placed_module_tests l.sizes l.drop) (take l.i l.modules)) ≡ Ok tt
