use Rattle.plant_types.specs.Store.{Keeps}
use Rattle.ladder_tests.proofs.segments.set_numbers.Given as goal

abbrev pub invariant-loop-number : goal.invariant-loop-number
invariant-loop-number g l = Keeps l.fn.ram l.ram

abbrev pub invariant-loop-number-2 : goal.invariant-loop-number-2
invariant-loop-number-2 g l = Keeps l.fn.ram l.ram

abbrev pub invariant-loop-number-3 : goal.invariant-loop-number-3
invariant-loop-number-3 g l = Keeps l.fn.ram l.ram
