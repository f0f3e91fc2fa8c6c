use Rattle.std.proofs.Common.{◌≡◌, take, Ok}
use Rattle.plant_types.specs.FirstFault.{first_failed, tests_of_each}
use Rattle.traffic_cop.specs.DropTests.{placed_row_tests}
use Rattle.traffic_cop.proofs.checking.check_rows.Given as goal

-- the rows so far pass
abbrev pub invariant-loop-i : goal.invariant-loop-i
invariant-loop-i l =
    first_failed (tests_of_each (placed_row_tests l.modules l.drop) (take l.i l.rows)) ≡ Ok tt
