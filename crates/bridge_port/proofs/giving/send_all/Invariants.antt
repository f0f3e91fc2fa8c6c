use Rattle.std.proofs.Common.{◌<◌}
use Rattle.bridge_relay.specs.Laws.{is_by}
use Rattle.tied_lists.specs.Waits.{Holds}
use Rattle.comm_port.specs.Giving.{MaySend, each_path, part_at}
use Rattle.comm_port.specs.Parts.{EachNext, PartOf}
use Rattle.comm_port.specs.Sending.{sends_left}
use Rattle.comm_port.specs.SendsAll.{IsNextSending}
use Rattle.comm_port.specs.Turns.{KeepsInbox}
use Rattle.bridge_port.specs.EndSteps.{EndStep}
use Rattle.bridge_port.specs.EndTurns.{EndTurning}
use Rattle.bridge_port.proofs.SendsOut.{Finished}
use Rattle.bridge_port.proofs.giving.send_all.Given as goal

abbrev pub invariant-loop-heard : goal.invariant-loop-heard
invariant-loop-heard g l = record {
  turning : EndTurning l.side (g.B.BridgeSide.bridge l.bridge) (g.B.BridgeSide.known l.bridge)
      (g.R.RingSide.side l.ring) (g.R.RingSide.known l.ring);
  holds : Holds (g.R.RingSide.side l.ring).net (g.R.RingSide.known l.ring) l.side;
  kept : KeepsInbox (g.R.RingSide.side l.initial.ring).net l.side
      (g.R.RingSide.known l.initial.ring) (g.R.RingSide.known l.ring);
  wait : 0 < (g.R.RingSide.side l.initial.ring).net.answer;
  may : MaySend (g.R.RingSide.side l.initial.ring).net l.side l.posted
      (part_at (g.R.RingSide.side l.initial.ring).net l.side (g.R.RingSide.known l.ring));
  finished : PartOf g.B.BridgeSide.alone g.R.RingSide.alone (is_by l.side) l.side
      (Finished l.side) (g.B.BridgeSide.known l.initial.bridge) (g.B.BridgeSide.known l.bridge)
      (g.R.RingSide.known l.initial.ring) (g.R.RingSide.known l.ring);
  each : EachNext l.side (IsNextSending (g.R.RingSide.side l.initial.ring).net l.side each_path)
      (g.R.RingSide.known l.initial.ring) (g.R.RingSide.known l.ring);
  step : EndStep g.B.BridgeSide g.R.RingSide l.side l.initial.bridge l.bridge l.initial.ring l.ring;
}

abbrev pub decreases-loop-heard : goal.decreases-loop-heard
decreases-loop-heard g l = sends_left (g.R.RingSide.side l.ring).net (g.R.RingSide.known l.ring)
    l.side
