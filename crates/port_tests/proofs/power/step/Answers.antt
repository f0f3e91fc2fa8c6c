use Rattle.port_tests.proofs.Ready.{ready-scans}
use Rattle.port_tests.proofs.power.step.Goals as goal

pub returns : goal.returns
returns c = record {
  mine = ready-scans c.args.node _ _ c.args.station.now.worker c.args.station.now.away
      c.args.ring.now.net c.args.ring.now.history _ c.step.ensures.went_on
      (ready-scans c.args.node _ _ c.args.station.now.worker c.args.station.now.away
      c.args.ring.now.net c.args.ring.now.history _ c.in_ok-reserve_scan.ensures.went_on
      c.requires);
}
