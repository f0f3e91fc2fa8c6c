use Rattle.comm_port.specs.HostStands.{HostIsReady}
use Rattle.port_tests.proofs.host_turns.hold_all.Given as goal

abbrev pub invariant-loop : goal.invariant-loop
invariant-loop l = record {
  one : HostIsReady 1 l.one.host l.one.worker l.one.left l.ring.net l.ring.history;
  two : HostIsReady 2 l.two.host l.two.worker l.two.left l.ring.net l.ring.history;
}
