use Rattle.std.proofs.Common.{◌≡◌, [], filter}
use Rattle.joint_history.specs.Reading.{is_ours}
use Rattle.port_tests.proofs.turns.scan.Given as goal

abbrev pub invariant-loop : goal.invariant-loop
invariant-loop l = record {
  node : l.controller.fixed ≡ l.initial.controller.fixed;
  events : filter is_ours l.controller.history ≡ [];
}
