use Rattle.std.proofs.Common.{◌≡◌, ◌≤◌}
use Rattle.mstr_block.specs.Table.{network_paths}
use Rattle.tied_lists.specs.Waits.{HasLeft}
use Rattle.comm_port.specs.HostSteps.{HostStep}
use Rattle.comm_port.specs.HostTurns.{HostTurning}
use Rattle.comm_port.specs.Turns.{KeepsInbox}
use Rattle.comm_port.specs.Sending.{sends_left}
use Rattle.comm_port.specs.HostTurns.{GivesUpDue}
use Rattle.comm_port.proofs.HostGives.{paths_to}
use Rattle.comm_port.proofs.host_worker.give_up_where.Given as goal

abbrev pub invariant-loop-path : goal.invariant-loop-path
invariant-loop-path g l = record {
  paths : l.path-items ≡ network_paths;
  turning : HostTurning l.node l.host (g.R.RingSide.side l.initial.ring)
      (g.R.RingSide.known l.ring);
  kept : KeepsInbox (g.R.RingSide.side l.initial.ring).net l.node
      (g.R.RingSide.known l.initial.ring) (g.R.RingSide.known l.ring);
  less : sends_left (g.R.RingSide.side l.initial.ring).net (g.R.RingSide.known l.ring) l.node
      ≤ sends_left (g.R.RingSide.side l.initial.ring).net (g.R.RingSide.known l.initial.ring)
      l.node;
  left : HasLeft (g.R.RingSide.side l.initial.ring).net (g.R.RingSide.known l.initial.ring) l.node
      → HasLeft (g.R.RingSide.side l.initial.ring).net (g.R.RingSide.known l.ring) l.node;
  gives_up : GivesUpDue g.R.RingSide.alone (g.R.RingSide.side l.initial.ring).net l.node
      (paths_to l.which l.path-index) l.initial.host.history
      l.host.history (g.R.RingSide.known l.initial.ring) (g.R.RingSide.known l.ring);
  step : HostStep g.R.RingSide l.node l.initial.host l.host l.initial.ring l.ring;
}
