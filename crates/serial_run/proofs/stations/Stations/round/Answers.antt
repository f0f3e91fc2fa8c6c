use Rattle.std.proofs.Common.{refl, arith}
use Rattle.serial_run.specs.Stations.{StandsRing}
use Rattle.serial_run.proofs.Rounds.{nets-lessen, nets-round, no-nets, one-more-net-round}
use Rattle.serial_run.proofs.Rounds.{zip-length}
use Rattle.serial_run.proofs.stations.Stations.round.Goals as goal

pub loop-place-init : goal.loop-place-init
loop-place-init c = record { long = refl; nets = no-nets c.args.self.now }

pub round_on-requires : goal.round_on-requires
round_on-requires c =
    let r = c.requires in
    record {
      plant = r.plant;
      scans = r.scans;
      all = c.loop-place.invariant.nets.did.stand r.plant r.scans r.all;
    }

pub loop-place-preserved : goal.loop-place-preserved
loop-place-preserved c =
    let r = c.requires in
    let first = c.args.self.now in
    let now = c.loop-place.self in
    let new = c.round_on.new.self in
    let place = c.loop-place.place in
    let some = c.loop-place.invariant.nets in
    let round = c.in_ok-round_on.ensures in
    let stood = some.did.stand r.plant r.scans r.all in
    let stands = round.did.stand r.plant r.scans stood in
    let a = zip-length StandsRing r.plant.nets now.rings.items stood.rings in
    let b = zip-length StandsRing r.plant.nets new.rings.items stands.rings in
    let low = c.loop-place-test.true in
    let end = c.len-place-end.ensures in
    let size = first.rings.ok.0 in
    let long = c.loop-place.invariant.long in
    record {
      long = omega (arith, a, b, long);
      nets = one-more-net-round place first now new c.index.result.now some
          (omega (arith, low, end, size, long)) c.index.ensures round;
    }

pub returns-clause-round : goal.returns-clause-round
returns-clause-round c =
    let low = c.loop-place-test.false in
    let high = c.loop-place.auto.place-end in
    let end = c.len-place-end.ensures in
    let size = c.args.self.now.rings.ok.0 in
    let long = c.loop-place.invariant.long in
    nets-round c.args.self.now c.loop-place.self c.loop-place.place
    (omega (arith, low, high, end, size, long)) c.loop-place.invariant.nets

pub returns-clause-less : goal.returns-clause-less
returns-clause-less c =
    let r = c.requires in
    let low = c.loop-place-test.false in
    let high = c.loop-place.auto.place-end in
    let end = c.len-place-end.ensures in
    let size = c.args.self.now.rings.ok.0 in
    let long = c.loop-place.invariant.long in
    nets-lessen c.somebody_holds.ensures r.plant r.scans c.args.self.now c.loop-place.self
    c.loop-place.place r.all (omega (arith, low, high, end, size, long))
    c.loop-place.invariant.nets

pub returns-clause-scans : goal.returns-clause-scans
returns-clause-scans c = c.loop-place.invariant.nets.scans

pub returns-clause-off : goal.returns-clause-off
returns-clause-off c = c.loop-place.invariant.nets.off
