use Rattle.std.proofs.Common.{arith, refl, ◌∙◌}
use Rattle.serial_run.specs.declared.order.Turn.TheVariants.{Visit}
use Rattle.serial_run.specs.Held.{IsOffAway, IsVisited}
use Rattle.serial_run.proofs.Gained.{everyone-has, stays-both, stays-same}
use Rattle.serial_run.proofs.Rounds.{all-turns, no-turns, one-more-of-all, turns-long}
use Rattle.serial_run.proofs.stations.Stations.visit_all.Goals as goal

pub loop-at-init : goal.loop-at-init
loop-at-init c = record {
  turns = no-turns Visit IsVisited c.args.self.now;
  off = stays-same IsOffAway c.args.self.now.rings.items c.args.self.now.controllers.items;
  here = refl;
}

pub visit-requires : goal.visit-requires
visit-requires c =
    let r = c.requires in
    record {
      plant = r.plant;
      scans = r.scans;
      all = c.loop-at.invariant.turns.did.stand r.plant r.scans
          r.all;
    }

pub loop-at-preserved : goal.loop-at-preserved
loop-at-preserved c =
    let o = c.in_ok-visit.ensures in
    let some = c.loop-at.invariant.turns in
    let low = c.loop-at-test.true in
    let end = c.len-at-end.ensures in
    let size = c.args.self.now.controllers.ok.0 in
    let long = turns-long Visit IsVisited c.loop-at.at c.args.self.now c.loop-at.self some in
    record {
      turns = one-more-of-all Visit IsVisited c.loop-at.at c.args.self.now c.loop-at.self
          c.visit.new.self c.index.result.now
          some (omega (arith, low, end, size, long))
          c.index.ensures o.visited o.scans o.gain;
      off = stays-both IsOffAway c.args.self.now c.loop-at.self c.visit.new.self
          c.loop-at.invariant.off o.off;
      here = o.here ∙ c.loop-at.invariant.here;
    }

pub returns-clause-visits : goal.returns-clause-visits
returns-clause-visits c =
    let low = c.loop-at-test.false in
    let high = c.loop-at.auto.at-end in
    let end = c.len-at-end.ensures in
    let size = c.args.self.now.controllers.ok.0 in
    all-turns Visit IsVisited c.loop-at.at c.args.self.now c.loop-at.self
    (omega (arith, low, high, end, size))
    c.loop-at.invariant.turns

pub returns-clause-visited : goal.returns-clause-visited
returns-clause-visited c =
    let low = c.loop-at-test.false in
    let high = c.loop-at.auto.at-end in
    let end = c.len-at-end.ensures in
    let size = c.args.self.now.controllers.ok.0 in
    let long = turns-long Visit IsVisited c.loop-at.at c.args.self.now c.loop-at.self
    c.loop-at.invariant.turns in
    everyone-has IsVisited c.loop-at.at c.loop-at.self
    (omega (arith, low, high, end, size, long)) c.loop-at.invariant.turns.have

pub returns-clause-scans : goal.returns-clause-scans
returns-clause-scans c = c.loop-at.invariant.turns.scans

pub returns-clause-off : goal.returns-clause-off
returns-clause-off c = c.loop-at.invariant.off

pub returns-clause-here : goal.returns-clause-here
returns-clause-here c = c.loop-at.invariant.here
