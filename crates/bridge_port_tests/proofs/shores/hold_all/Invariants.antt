use Rattle.comm_port.specs.HostStands.{HostIsReady}
use Rattle.bridge_port.specs.Stands.{EndIsReady}
use Rattle.bridge_port_tests.proofs.shores.hold_all.Given as goal

abbrev pub invariant-loop : goal.invariant-loop
invariant-loop l = record {
  one_host : HostIsReady 2 l.one.host l.one.host_worker l.one.host_left l.one.ring.net
      l.one.ring.history;
  one_end : EndIsReady 9 l.one.end_worker l.one.end_left l.bridge l.one.ring.net
      l.one.ring.history;
  two_host : HostIsReady 5 l.two.host l.two.host_worker l.two.host_left l.two.ring.net
      l.two.ring.history;
  two_end : EndIsReady 12 l.two.end_worker l.two.end_left l.bridge l.two.ring.net
      l.two.ring.history;
}
