use Rattle.port_tests.specs.PowerTests.{CanTurn}
use Rattle.port_tests.proofs.power.follow.Given as goal

abbrev pub invariant-loop-letter : goal.invariant-loop-letter
invariant-loop-letter l = record {
  two : CanTurn 2 l.two.controller l.two.worker l.two.away l.ring.net l.ring.history;
  five : CanTurn 5 l.five.controller l.five.worker l.five.away l.ring.net l.ring.history;
}
