use Rattle.std.proofs.Common.{◌≡◌, ◌∙◌, arith}
use Rattle.serial_run.proofs.Rounds.{holds-round, no-holds, one-more-hold}
use Rattle.serial_run.proofs.stations.Stations.round_on.Goals as goal

pub loop-init : goal.loop-init
loop-init c = no-holds c.args.network c.args.self.now

pub hold-requires : goal.hold-requires
hold-requires c =
    let r = c.requires in
    record {
      plant = r.plant;
      scans = r.scans;
      all = c.loop.invariant.did.stand r.plant r.scans
          r.all;
    }

pub loop-preserved : goal.loop-preserved
loop-preserved c =
    one-more-hold c.args.network c.loop.counter c.args.self.now c.loop.self c.hold.new.self
    c.loop.invariant c.in_ok-hold.ensures

pub returns : goal.returns
returns c =
    let low = c.loop-test.false in
    let high = c.loop.auto.counter-end in
    let is : c.loop.counter ≡ c.members-end.result = omega (arith, low, high) in
    let r = c.requires in
    holds-round c.somebody_holds.ensures r.plant r.scans c.args.network c.args.self.now c.loop.self
    c.loop.counter r.all (is ∙ c.members-end.ensures) c.loop.invariant
