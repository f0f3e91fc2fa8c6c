use Rattle.std.proofs.Common.{length}
use Rattle.ring_core.specs.Machine.{ring_node, ring_after}
use Rattle.tied_lists.specs.Waits.{Holds}
use Rattle.comm_port.specs.HostSteps.{HostStep}
use Rattle.comm_port.specs.HostTurns.{HostTurning}
use Rattle.comm_port.proofs.HostServes.{ServedSoFar}
use Rattle.comm_port.proofs.host_worker.serve_inbox.Given as goal

abbrev pub invariant-loop-frame : goal.invariant-loop-frame
invariant-loop-frame g l = record {
  turning : HostTurning l.node l.host (g.R.RingSide.side l.ring) (g.R.RingSide.known l.ring);
  holds : Holds (g.R.RingSide.side l.ring).net (g.R.RingSide.known l.ring) l.node;
  served : ServedSoFar g.R.RingSide.alone (g.R.RingSide.side l.ring).net l.node
      l.initial.host.history l.host.history
      (g.R.RingSide.known l.initial.ring) (g.R.RingSide.known l.ring);
  step : HostStep g.R.RingSide l.node l.initial.host l.host l.initial.ring l.ring;
}

abbrev pub decreases-loop-frame : goal.decreases-loop-frame
decreases-loop-frame g l = length
    (ring_node (ring_after (g.R.RingSide.side l.ring).net (g.R.RingSide.known l.ring)) l.node).inbox
