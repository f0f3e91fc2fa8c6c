use Rattle.std.proofs.Common.{arith}
use Rattle.serial_run.specs.declared.order.Turn.TheVariants.{Away}
use Rattle.serial_run.specs.Held.{IsOffAway}
use Rattle.serial_run.proofs.Gained.{everyone-has}
use Rattle.serial_run.proofs.Rounds.{all-turns, no-turns, one-more-of-all, turns-long}
use Rattle.serial_run.proofs.stations.Stations.come_back_all.Goals as goal

pub loop-at-init : goal.loop-at-init
loop-at-init c = no-turns Away IsOffAway c.args.self.now

pub away-requires : goal.away-requires
away-requires c =
    let r = c.requires in
    record {
      plant = r.plant;
      scans = r.scans;
      all = c.loop-at.invariant.did.stand r.plant r.scans
          r.all;
    }

pub loop-at-preserved : goal.loop-at-preserved
loop-at-preserved c =
    let o = c.in_ok-away.ensures in
    let some = c.loop-at.invariant in
    let low = c.loop-at-test.true in
    let end = c.len-at-end.ensures in
    let size = c.args.self.now.controllers.ok.0 in
    let long = turns-long Away IsOffAway c.loop-at.at c.args.self.now c.loop-at.self some in
    one-more-of-all Away IsOffAway c.loop-at.at c.args.self.now c.loop-at.self c.away.new.self
    c.index.result.now
    some (omega (arith, low, end, size, long))
    c.index.ensures o.did o.scans o.gain

pub returns-clause-came : goal.returns-clause-came
returns-clause-came c =
    let low = c.loop-at-test.false in
    let high = c.loop-at.auto.at-end in
    let end = c.len-at-end.ensures in
    let size = c.args.self.now.controllers.ok.0 in
    all-turns Away IsOffAway c.loop-at.at c.args.self.now c.loop-at.self
    (omega (arith, low, high, end, size))
    c.loop-at.invariant

pub returns-clause-off : goal.returns-clause-off
returns-clause-off c =
    let low = c.loop-at-test.false in
    let high = c.loop-at.auto.at-end in
    let end = c.len-at-end.ensures in
    let size = c.args.self.now.controllers.ok.0 in
    let long = turns-long Away IsOffAway c.loop-at.at c.args.self.now c.loop-at.self
    c.loop-at.invariant in
    everyone-has IsOffAway c.loop-at.at c.loop-at.self
    (omega (arith, low, high, end, size, long)) c.loop-at.invariant.have

pub returns-clause-scans : goal.returns-clause-scans
returns-clause-scans c = c.loop-at.invariant.scans
