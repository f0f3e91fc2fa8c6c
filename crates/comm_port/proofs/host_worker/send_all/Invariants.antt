use Rattle.std.proofs.Common.{◌<◌}
use Rattle.ring_core.specs.Machine.{ring_after, ring_node}
use Rattle.tied_lists.specs.Waits.{Holds}
use Rattle.comm_port.specs.Giving.{is_chosen}
use Rattle.comm_port.specs.HostSteps.{HostStep}
use Rattle.comm_port.specs.HostTurns.{AreRecent, HostTurning, Sends}
use Rattle.comm_port.specs.Sending.{sends_left}
use Rattle.comm_port.proofs.host_worker.send_all.Given as goal

abbrev pub invariant-loop : goal.invariant-loop
invariant-loop g l = record {
  turning : HostTurning l.node l.host (g.R.RingSide.side l.ring) (g.R.RingSide.known l.ring);
  holds : Holds (g.R.RingSide.side l.ring).net (g.R.RingSide.known l.ring) l.node;
  wait : 0 < (g.R.RingSide.side l.ring).net.answer;
  new_calls : AreRecent (is_chosen l.fresh)
      (ring_node (ring_after (g.R.RingSide.side l.ring).net (g.R.RingSide.known l.ring)) l.node);
  sends : Sends g.R.RingSide.alone (g.R.RingSide.side l.ring).net l.node (is_chosen l.fresh)
      l.initial.host.history l.host.history
      (g.R.RingSide.known l.initial.ring) (g.R.RingSide.known l.ring);
  step : HostStep g.R.RingSide l.node l.initial.host l.host l.initial.ring l.ring;
}

abbrev pub decreases-loop : goal.decreases-loop
decreases-loop g l = sends_left (g.R.RingSide.side l.ring).net (g.R.RingSide.known l.ring) l.node
