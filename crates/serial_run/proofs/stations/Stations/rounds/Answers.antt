use Rattle.std.proofs.Common.{◌≡◌, refl, subst, arith}
use Rattle.serial_run.specs.Serial.{MakesRounds}
use Rattle.serial_run.specs.Stations.{Did}
use Rattle.serial_run.specs.Held.{IsOffAway}
use Rattle.serial_run.proofs.Gained.{stays-both, stays-same}
use Rattle.serial_run.proofs.Measures.{scans-same}
use Rattle.serial_run.proofs.Rounds.{no-rounds, one-more-round, scans-both}
use Rattle.serial_run.proofs.stations.Stations.rounds.Goals as goal

pub loop-init : goal.loop-init
loop-init c = record {
  did = no-rounds c.args.self.now;
  scans = scans-same c.args.self.now c.args.self.now refl;
  off = stays-same IsOffAway c.args.self.now.rings.items c.args.self.now.controllers.items;
}

pub round-requires : goal.round-requires
round-requires c =
    let r = c.requires in
    record {
      plant = r.plant;
      scans = r.scans;
      all = c.loop.invariant.did.stand r.plant r.scans
          r.all;
    }

pub loop-preserved : goal.loop-preserved
loop-preserved c =
    let o = c.in_ok-round.ensures in
    record {
      did = one-more-round c.loop.counter c.args.self.now c.loop.self c.round.new.self
          c.loop.invariant.did o.round;
      scans = scans-both c.args.self.now c.loop.self c.round.new.self c.loop.invariant.scans
          o.scans;
      off = stays-both IsOffAway c.args.self.now c.loop.self c.round.new.self
          c.loop.invariant.off o.off;
    }

pub returns-clause-rounds : goal.returns-clause-rounds
returns-clause-rounds c =
    let low = c.loop-test.false in
    let high = c.loop.auto.counter-end in
    let is : c.loop.counter ≡ c.args.count = omega (arith, low, high) in
    subst (λ n. Did (λ plant scans. MakesRounds plant scans n) c.args.self.now c.loop.self) is
    c.loop.invariant.did

pub returns-clause-off : goal.returns-clause-off
returns-clause-off c = c.loop.invariant.off

pub returns-clause-scans : goal.returns-clause-scans
returns-clause-scans c = c.loop.invariant.scans
