use Rattle.std.proofs.Common.{◌≡◌, take}
use Rattle.tied_lists.specs.Waits.{HasLeft}
use Rattle.comm_port.specs.Giving.{IsAtRest}
use Rattle.comm_port.specs.HoldTurn.{IsEnded}
use Rattle.comm_port.specs.Making.{Owing, calls_from}
use Rattle.comm_port.specs.Parts.{InOrder, PartOf, calls_waiting}
use Rattle.joint_history.specs.Reading.{is_ours}
use Rattle.comm_port.specs.BothSteps.{BothStep}
use Rattle.comm_port.proofs.visiting.visit.Given as goal

abbrev pub invariant-loop-at : goal.invariant-loop-at
invariant-loop-at g l = record {
  owing : Owing l.node (calls_from l.calls l.at) (g.M.RamSide.side l.ram) (g.M.RamSide.known l.ram)
      (g.R.RingSide.side l.ring)
      (g.R.RingSide.known l.ring) l.waiting;
  gone : HasLeft (g.R.RingSide.side l.initial.ring).net (g.R.RingSide.known l.ring) l.node;
  rest : IsAtRest (g.R.RingSide.side l.initial.ring).net l.node (g.R.RingSide.known l.ring);
  ended : PartOf g.M.RamSide.alone g.R.RingSide.alone is_ours l.node
      (InOrder (IsEnded l.node) (take l.at l.calls))
      (g.M.RamSide.known l.initial.ram) (g.M.RamSide.known l.ram)
      (g.R.RingSide.known l.initial.ring) (g.R.RingSide.known l.ring);
  as_before : calls_waiting l.node (g.R.RingSide.known l.ring) ≡ calls_waiting l.node
      (g.R.RingSide.known l.initial.ring);
  step : BothStep g.M.RamSide g.R.RingSide l.node l.initial.ram l.ram l.initial.ring l.ring;
}
