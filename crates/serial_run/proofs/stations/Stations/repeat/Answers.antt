use Rattle.std.proofs.Common.{◌∙◌, sym}
use Rattle.serial_run.proofs.Repeats.{all-repeated, no-repetitions, one-more-repetition}
use Rattle.serial_run.proofs.stations.Stations.repeat.Goals as goal

pub loop-self-init : goal.loop-self-init
loop-self-init c = no-repetitions c.args.rotations c.args.self.now c.requires.between
    c.requires.off

pub repetition-requires-clause-stand : goal.repetition-requires-clause-stand
repetition-requires-clause-stand c =
    let r = c.requires.stand in
    record {
      plant = r.plant;
      scans = r.scans;
      all = c.loop-self.invariant.did.stand r.plant r.scans
          r.all;
    }

pub repetition-requires-clause-between : goal.repetition-requires-clause-between
repetition-requires-clause-between c = c.loop-self.invariant.between

pub loop-self-preserved : goal.loop-self-preserved
loop-self-preserved c =
    let o = c.in_ok-repetition.ensures in
    one-more-repetition c.args.rotations c.args.self.now c.loop-self.self c.repetition.new.self
    c.loop-self.invariant o.did o.between o.off

pub loop-self-smaller : goal.loop-self-smaller
loop-self-smaller c = c.in_ok-repetition.ensures.less

pub returns-clause-did : goal.returns-clause-did
returns-clause-did c = all-repeated c.args.rotations c.args.self.now c.loop-self.self
    c.loop-self.invariant (sym c.have_ended.ensures ∙ c.loop-self-test.false)

pub returns-clause-ended : goal.returns-clause-ended
returns-clause-ended c = sym c.have_ended.ensures ∙ c.loop-self-test.false

pub returns-clause-off : goal.returns-clause-off
returns-clause-off c = c.loop-self.invariant.off
