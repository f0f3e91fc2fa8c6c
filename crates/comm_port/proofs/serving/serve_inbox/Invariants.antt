use Rattle.tied_lists.specs.Own.{is_of, Adds}
use Rattle.joint_history.specs.Reading.{is_ours}
use Rattle.comm_port.specs.Order.{IsServing}
use Rattle.std.proofs.Common.{length, []}
use Rattle.ring_core.specs.Machine.{ring_node, ring_after}
use Rattle.tied_lists.specs.Waits.{Holds}
use Rattle.comm_port.specs.Turns.{Turning}
use Rattle.comm_port.specs.HoldTurn.{inbox_of}
use Rattle.comm_port.specs.Parts.{PartOf}
use Rattle.comm_port.specs.Serving.{ServesOn}
use Rattle.comm_port.specs.BothSteps.{BothStep}
use Rattle.comm_port.proofs.serving.serve_inbox.Given as goal

abbrev pub invariant-loop-frame : goal.invariant-loop-frame
invariant-loop-frame g l = record {
  turning : Turning l.node [] (g.M.RamSide.side l.ram) (g.M.RamSide.known l.ram)
      (g.R.RingSide.side l.ring) (g.R.RingSide.known l.ring) l.waiting;
  holds : Holds (g.R.RingSide.side l.ring).net (g.R.RingSide.known l.ring) l.node;
  ring_adds : Adds g.R.RingSide.alone (is_of l.node) (IsServing l.node)
      (g.R.RingSide.known l.initial.ring) (g.R.RingSide.known l.ring);
  served : PartOf g.M.RamSide.alone g.R.RingSide.alone is_ours l.node
      (ServesOn l.node (inbox_of (g.R.RingSide.side l.initial.ring).net l.node
      (g.R.RingSide.known l.initial.ring))
      (inbox_of (g.R.RingSide.side l.initial.ring).net l.node (g.R.RingSide.known l.ring)))
      (g.M.RamSide.known l.initial.ram) (g.M.RamSide.known l.ram)
      (g.R.RingSide.known l.initial.ring) (g.R.RingSide.known l.ring);
  step : BothStep g.M.RamSide g.R.RingSide l.node l.initial.ram l.ram l.initial.ring l.ring;
}

abbrev pub decreases-loop-frame : goal.decreases-loop-frame
decreases-loop-frame g l = length
    (ring_node (ring_after (g.R.RingSide.side l.ring).net (g.R.RingSide.known l.ring)) l.node).inbox
