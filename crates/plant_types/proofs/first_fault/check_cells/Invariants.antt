use Rattle.std.proofs.Common.{◌≡◌, take, Ok}
use Rattle.plant_types.specs.FirstFault.{first_failed, tests_of_each, cell_tests}
use Rattle.plant_types.proofs.first_fault.check_cells.Given as goal

-- the cells so far pass
abbrev pub invariant-loop-i : goal.invariant-loop-i
invariant-loop-i l = first_failed (tests_of_each (cell_tests l.sizes) (take l.i l.cells)) ≡ Ok tt
