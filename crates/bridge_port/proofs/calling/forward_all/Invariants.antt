use Rattle.std.proofs.Common.{◌<◌}
use Rattle.comm_port.specs.Turns.{KeepsInbox}
use Rattle.bridge_port.specs.EndParts.{paths_left}
use Rattle.bridge_port.specs.EndSteps.{EndStep}
use Rattle.bridge_port.specs.EndTurns.{EndTurning}
use Rattle.bridge_port.proofs.ForwardsAll.{ForwardsSoFar}
use Rattle.bridge_port.proofs.calling.forward_all.Given as goal

abbrev pub invariant-loop-path : goal.invariant-loop-path
invariant-loop-path g l = record {
  turning : EndTurning l.side (g.B.BridgeSide.bridge l.bridge) (g.B.BridgeSide.known l.bridge)
      (g.R.RingSide.side l.ring) (g.R.RingSide.known l.ring);
  kept : KeepsInbox (g.R.RingSide.side l.initial.ring).net l.side
      (g.R.RingSide.known l.initial.ring) (g.R.RingSide.known l.ring);
  wait : 0 < (g.R.RingSide.side l.initial.ring).net.answer;
  forwarded : ForwardsSoFar g.B.BridgeSide.alone g.R.RingSide.alone
      (g.R.RingSide.side l.initial.ring).net l.side
      (g.B.BridgeSide.known l.initial.bridge) (g.B.BridgeSide.known l.bridge)
      (g.R.RingSide.known l.initial.ring) (g.R.RingSide.known l.ring) l.fresh;
  step : EndStep g.B.BridgeSide g.R.RingSide l.side l.initial.bridge l.bridge l.initial.ring
      l.ring;
}

abbrev pub decreases-loop-path : goal.decreases-loop-path
decreases-loop-path g l =
    paths_left (g.B.BridgeSide.bridge l.bridge).plan l.side (g.B.BridgeSide.known l.bridge)
