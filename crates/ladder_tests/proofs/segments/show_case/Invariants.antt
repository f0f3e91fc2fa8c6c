use Rattle.ladder_solver.specs.Ready.{IsReady}
use Rattle.ladder_tests.proofs.segments.show_case.Given as goal

abbrev pub invariant-loop-scan : goal.invariant-loop-scan
invariant-loop-scan g l = IsReady l.plant.plan l.plant.ladder l.plant.ram l.plant.past l.plant.bank
