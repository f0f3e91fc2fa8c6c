use Rattle.std.proofs.Common.{◌<◌}
use Rattle.comm_port.specs.Giving.{part_at, MaySend, each_path}
use Rattle.comm_port.specs.SendsAll.{IsNextSending}
use Rattle.comm_port.specs.Parts.{PartOf, EachNext}
use Rattle.comm_port.proofs.SendsAll.{Finished}
use Rattle.joint_history.specs.Reading.{is_ours}
use Rattle.std.proofs.Common.{[]}
use Rattle.tied_lists.specs.Waits.{Holds}
use Rattle.comm_port.specs.Turns.{KeepsInbox, Turning}
use Rattle.comm_port.specs.Sending.{sends_left}
use Rattle.comm_port.specs.BothSteps.{BothStep}
use Rattle.comm_port.proofs.giving.send_all.Given as goal

abbrev pub invariant-loop-heard : goal.invariant-loop-heard
invariant-loop-heard g l = record {
  turning : Turning l.node [] (g.M.RamSide.side l.ram) (g.M.RamSide.known l.ram)
      (g.R.RingSide.side l.ring) (g.R.RingSide.known l.ring) l.waiting;
  holds : Holds (g.R.RingSide.side l.ring).net (g.R.RingSide.known l.ring) l.node;
  kept : KeepsInbox (g.R.RingSide.side l.initial.ring).net l.node
      (g.R.RingSide.known l.initial.ring) (g.R.RingSide.known l.ring);
  wait : 0 < (g.R.RingSide.side l.initial.ring).net.answer;
  may : MaySend (g.R.RingSide.side l.initial.ring).net l.node l.posted
      (part_at (g.R.RingSide.side l.initial.ring).net l.node (g.R.RingSide.known l.ring));
  finished : PartOf g.M.RamSide.alone g.R.RingSide.alone is_ours l.node Finished
      (g.M.RamSide.known l.initial.ram) (g.M.RamSide.known l.ram)
      (g.R.RingSide.known l.initial.ring) (g.R.RingSide.known l.ring);
  each : EachNext l.node (IsNextSending (g.R.RingSide.side l.initial.ring).net l.node each_path)
      (g.R.RingSide.known l.initial.ring) (g.R.RingSide.known l.ring);
  step : BothStep g.M.RamSide g.R.RingSide l.node l.initial.ram l.ram l.initial.ring l.ring;
}

abbrev pub decreases-loop-heard : goal.decreases-loop-heard
decreases-loop-heard g l = sends_left (g.R.RingSide.side l.ring).net (g.R.RingSide.known l.ring)
    l.node
