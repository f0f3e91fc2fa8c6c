use Rattle.std.proofs.Common.{take}
use Rattle.comm_port.specs.HoldTurn.{IsMade}
use Rattle.comm_port.specs.Parts.{InOrder, PartOf}
use Rattle.tied_lists.specs.Own.{is_of, Adds}
use Rattle.joint_history.specs.Reading.{is_ours}
use Rattle.comm_port.specs.Order.{IsCalling}
use Rattle.comm_port.specs.Turns.{KeepsInbox}
use Rattle.comm_port.specs.Making.{Owing, calls_from}
use Rattle.comm_port.specs.BothSteps.{BothStep}
use Rattle.comm_port.proofs.calling.make_calls.Given as goal

abbrev pub invariant-loop-at : goal.invariant-loop-at
invariant-loop-at g l = record {
  owing : Owing l.node (calls_from l.calls l.at) (g.M.RamSide.side l.ram) (g.M.RamSide.known l.ram)
      (g.R.RingSide.side l.ring)
      (g.R.RingSide.known l.ring) l.waiting;
  kept : KeepsInbox (g.R.RingSide.side l.initial.ring).net l.node
      (g.R.RingSide.known l.initial.ring) (g.R.RingSide.known l.ring);
  ring_adds : Adds g.R.RingSide.alone (is_of l.node) (IsCalling l.node)
      (g.R.RingSide.known l.initial.ring) (g.R.RingSide.known l.ring);
  made : PartOf g.M.RamSide.alone g.R.RingSide.alone is_ours l.node
      (InOrder (IsMade l.node) (take l.at l.calls))
      (g.M.RamSide.known l.initial.ram) (g.M.RamSide.known l.ram)
      (g.R.RingSide.known l.initial.ring) (g.R.RingSide.known l.ring);
  step : BothStep g.M.RamSide g.R.RingSide l.node l.initial.ram l.ram l.initial.ring l.ring;
}
