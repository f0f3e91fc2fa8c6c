use Rattle.std.proofs.Common.{length}
use Rattle.ring_core.specs.Machine.{ring_after, ring_node}
use Rattle.bridge_relay.specs.Laws.{is_by}
use Rattle.tied_lists.specs.Own.{Adds, is_of}
use Rattle.tied_lists.specs.Waits.{Holds}
use Rattle.comm_port.specs.Giving.{inbox_of}
use Rattle.comm_port.specs.Order.{IsServing}
use Rattle.comm_port.specs.Parts.{PartOf}
use Rattle.bridge_port.specs.EndSteps.{EndStep}
use Rattle.bridge_port.specs.EndTurns.{EndTurning}
use Rattle.bridge_port.proofs.Served.{ServesOn}
use Rattle.bridge_port.proofs.serving.serve_inbox.Given as goal

abbrev pub invariant-loop-frame : goal.invariant-loop-frame
invariant-loop-frame g l = record {
  turning : EndTurning l.side (g.B.BridgeSide.bridge l.bridge) (g.B.BridgeSide.known l.bridge)
      (g.R.RingSide.side l.ring) (g.R.RingSide.known l.ring);
  holds : Holds (g.R.RingSide.side l.ring).net (g.R.RingSide.known l.ring) l.side;
  ring_adds : Adds g.R.RingSide.alone (is_of l.side) (IsServing l.side)
      (g.R.RingSide.known l.initial.ring) (g.R.RingSide.known l.ring);
  served : PartOf g.B.BridgeSide.alone g.R.RingSide.alone (is_by l.side) l.side
      (ServesOn l.side (inbox_of (g.R.RingSide.side l.initial.ring).net l.side
      (g.R.RingSide.known l.initial.ring))
      (inbox_of (g.R.RingSide.side l.initial.ring).net l.side (g.R.RingSide.known l.ring)))
      (g.B.BridgeSide.known l.initial.bridge) (g.B.BridgeSide.known l.bridge)
      (g.R.RingSide.known l.initial.ring) (g.R.RingSide.known l.ring);
  step : EndStep g.B.BridgeSide g.R.RingSide l.side l.initial.bridge l.bridge l.initial.ring
      l.ring;
}

abbrev pub decreases-loop-frame : goal.decreases-loop-frame
decreases-loop-frame g l = length
    (ring_node (ring_after (g.R.RingSide.side l.ring).net (g.R.RingSide.known l.ring)) l.side).inbox
