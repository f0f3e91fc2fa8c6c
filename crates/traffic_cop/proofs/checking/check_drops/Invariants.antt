use Rattle.std.proofs.Common.{◌≡◌, take, Ok}
use Rattle.plant_types.specs.FirstFault.{first_failed, tests_of_each}
use Rattle.traffic_cop.specs.DropTests.{drop_tests}
use Rattle.traffic_cop.proofs.checking.check_drops.Given as goal

-- the drops so far pass
abbrev pub invariant-loop-i : goal.invariant-loop-i
invariant-loop-i l = first_failed (tests_of_each (drop_tests l.sizes) (take l.i l.drops)) ≡ Ok tt
