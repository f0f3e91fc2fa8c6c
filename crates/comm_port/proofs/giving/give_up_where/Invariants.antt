use Rattle.comm_port.specs.Giving.{due_calls, chosen_below, GivesWhere}
use Rattle.comm_port.specs.HoldTurn.{IsGivenUp}
use Rattle.comm_port.specs.Parts.{InOrder, PartOf}
use Rattle.tied_lists.specs.Own.{is_of, Adds}
use Rattle.joint_history.specs.Reading.{is_ours}
use Rattle.comm_port.specs.Order.{IsGivingUp}
use Rattle.std.proofs.Common.{◌≡◌, ◌≤◌, ◌+◌, []}
use Rattle.mstr_block.specs.Table.{network_paths}
use Rattle.comm_port.specs.Turns.{KeepsInbox, Turning}
use Rattle.comm_port.specs.Sending.{sends_left}
use Rattle.comm_port.specs.BothSteps.{BothStep}
use Rattle.comm_port.proofs.giving.give_up_where.Given as goal

abbrev pub invariant-loop-path : goal.invariant-loop-path
invariant-loop-path g l = record {
  paths : l.path-items ≡ network_paths;
  turning : Turning l.node [] (g.M.RamSide.side l.ram) (g.M.RamSide.known l.ram)
      (g.R.RingSide.side l.ring) (g.R.RingSide.known l.ring) l.waiting;
  kept : KeepsInbox (g.R.RingSide.side l.initial.ring).net l.node
      (g.R.RingSide.known l.initial.ring) (g.R.RingSide.known l.ring);
  less : sends_left (g.R.RingSide.side l.initial.ring).net (g.R.RingSide.known l.ring) l.node ≤
      sends_left (g.R.RingSide.side
      l.initial.ring).net (g.R.RingSide.known l.initial.ring) l.node;
  ring_adds : Adds g.R.RingSide.alone (is_of l.node) IsGivingUp (g.R.RingSide.known l.initial.ring)
      (g.R.RingSide.known l.ring);
  given : PartOf g.M.RamSide.alone g.R.RingSide.alone is_ours l.node
      (InOrder IsGivenUp (due_calls (g.R.RingSide.side
      l.initial.ring).net l.node (g.R.RingSide.known l.initial.ring)
      (chosen_below l.chosen (l.path-index + 1)))) (g.M.RamSide.known
      l.initial.ram) (g.M.RamSide.known l.ram) (g.R.RingSide.known l.initial.ring)
      (g.R.RingSide.known l.ring);
  part : GivesWhere (g.R.RingSide.side l.initial.ring).net l.node l.chosen
      (l.path-index + 1)
      (g.R.RingSide.known l.initial.ring) (g.R.RingSide.known l.ring);
  step : BothStep g.M.RamSide g.R.RingSide l.node l.initial.ram l.ram l.initial.ring l.ring;
}
