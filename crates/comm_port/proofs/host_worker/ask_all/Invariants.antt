use Rattle.tied_lists.specs.Waits.{Holds}
use Rattle.comm_port.specs.HostSteps.{HostStep}
use Rattle.comm_port.specs.HostTurns.{HostTurning, asks_left}
use Rattle.comm_port.proofs.HostAsked.{AskedSoFar}
use Rattle.comm_port.proofs.host_worker.ask_all.Given as goal

abbrev pub invariant-loop-path : goal.invariant-loop-path
invariant-loop-path g l = record {
  turning : HostTurning l.node l.host (g.R.RingSide.side l.ring) (g.R.RingSide.known l.ring);
  holds : Holds (g.R.RingSide.side l.ring).net (g.R.RingSide.known l.ring) l.node;
  asked : AskedSoFar g.R.RingSide.alone (g.R.RingSide.side l.ring).net l.node l.initial.host.plan
      l.hold l.initial.host.history
      l.host.history (g.R.RingSide.known l.initial.ring) (g.R.RingSide.known l.ring) l.fresh;
  step : HostStep g.R.RingSide l.node l.initial.host l.host l.initial.ring l.ring;
}

abbrev pub decreases-loop-path : goal.decreases-loop-path
decreases-loop-path g l = asks_left l.host
