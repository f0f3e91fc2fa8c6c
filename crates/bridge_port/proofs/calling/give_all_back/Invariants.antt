use Rattle.bridge_relay.specs.Laws.{is_by}
use Rattle.comm_port.specs.Parts.{PartOf}
use Rattle.comm_port.specs.Turns.{KeepsInbox}
use Rattle.bridge_port.specs.EndParts.{ArePosted, IsBackEntry, backs_left}
use Rattle.bridge_port.specs.EndSteps.{EndStep}
use Rattle.bridge_port.specs.EndTurns.{EndTurning}
use Rattle.bridge_port.proofs.calling.give_all_back.Given as goal

abbrev pub invariant-loop : goal.invariant-loop
invariant-loop g l = record {
  turning : EndTurning l.side (g.B.BridgeSide.bridge l.bridge) (g.B.BridgeSide.known l.bridge)
      (g.R.RingSide.side l.ring) (g.R.RingSide.known l.ring);
  kept : KeepsInbox (g.R.RingSide.side l.initial.ring).net l.side
      (g.R.RingSide.known l.initial.ring) (g.R.RingSide.known l.ring);
  part : PartOf g.B.BridgeSide.alone g.R.RingSide.alone (is_by l.side) l.side
      (ArePosted IsBackEntry l.side)
      (g.B.BridgeSide.known l.initial.bridge) (g.B.BridgeSide.known l.bridge)
      (g.R.RingSide.known l.initial.ring) (g.R.RingSide.known l.ring);
  step : EndStep g.B.BridgeSide g.R.RingSide l.side l.initial.bridge l.bridge l.initial.ring
      l.ring;
}

abbrev pub decreases-loop : goal.decreases-loop
decreases-loop g l = backs_left l.side (g.B.BridgeSide.known l.bridge)
