use Rattle.std.proofs.Common.{◌≡◌, ◌≤◌, ◌+◌}
use Rattle.mstr_block.specs.Table.{network_paths}
use Rattle.bridge_relay.specs.Laws.{is_by}
use Rattle.tied_lists.specs.Waits.{HasLeft}
use Rattle.comm_port.specs.Giving.{GivesWhere, chosen_below, due_calls}
use Rattle.comm_port.specs.Parts.{InOrder, PartOf}
use Rattle.comm_port.specs.Sending.{sends_left}
use Rattle.comm_port.specs.Turns.{KeepsInbox}
use Rattle.bridge_port.specs.EndParts.{EndGivesUp}
use Rattle.bridge_port.specs.EndSteps.{EndStep}
use Rattle.bridge_port.specs.EndTurns.{EndTurning}
use Rattle.bridge_port.proofs.giving.give_up_where.Given as goal

abbrev pub invariant-loop-path : goal.invariant-loop-path
invariant-loop-path g l = record {
  paths : l.path-items ≡ network_paths;
  turning : EndTurning l.side (g.B.BridgeSide.bridge l.bridge) (g.B.BridgeSide.known l.bridge)
      (g.R.RingSide.side l.ring) (g.R.RingSide.known l.ring);
  kept : KeepsInbox (g.R.RingSide.side l.initial.ring).net l.side
      (g.R.RingSide.known l.initial.ring) (g.R.RingSide.known l.ring);
  less : sends_left (g.R.RingSide.side l.initial.ring).net (g.R.RingSide.known l.ring) l.side ≤
      sends_left (g.R.RingSide.side
      l.initial.ring).net (g.R.RingSide.known l.initial.ring) l.side;
  left : HasLeft (g.R.RingSide.side l.initial.ring).net (g.R.RingSide.known l.initial.ring) l.side
      → HasLeft (g.R.RingSide.side l.initial.ring).net (g.R.RingSide.known l.ring) l.side;
  given : PartOf g.B.BridgeSide.alone g.R.RingSide.alone (is_by l.side) l.side
      (InOrder (EndGivesUp l.side) (due_calls (g.R.RingSide.side
      l.initial.ring).net l.side (g.R.RingSide.known l.initial.ring)
      (chosen_below l.chosen (l.path-index + 1)))) (g.B.BridgeSide.known
      l.initial.bridge) (g.B.BridgeSide.known l.bridge) (g.R.RingSide.known l.initial.ring)
      (g.R.RingSide.known l.ring);
  part : GivesWhere (g.R.RingSide.side l.initial.ring).net l.side l.chosen
      (l.path-index + 1)
      (g.R.RingSide.known l.initial.ring) (g.R.RingSide.known l.ring);
  step : EndStep g.B.BridgeSide g.R.RingSide l.side l.initial.bridge l.bridge l.initial.ring l.ring;
}
