use Rattle.std.proofs.Common.{◌∙◌, sym}
use Rattle.serial_run.proofs.Repeats.{all-emptied, no-late, one-more-late}
use Rattle.serial_run.proofs.stations.Stations.empty_rings.Goals as goal

pub loop-self-init : goal.loop-self-init
loop-self-init c = no-late c.args.self.now c.requires.off

pub round-requires : goal.round-requires
round-requires c =
    let r = c.requires.stand in
    record {
      plant = r.plant;
      scans = r.scans;
      all = c.loop-self.invariant.did.stand r.plant r.scans
          r.all;
    }

pub loop-self-preserved : goal.loop-self-preserved
loop-self-preserved c =
    one-more-late c.args.self.now c.loop-self.self c.round.new.self c.loop-self.invariant
    (λ none. c.loop-self-test.true (c.here.ensures ∙ none)) c.in_ok-round.ensures.round
    c.in_ok-round.ensures.scans c.in_ok-round.ensures.off

pub loop-self-smaller : goal.loop-self-smaller
loop-self-smaller c = c.in_ok-round.ensures.less.less
    (λ none. c.loop-self-test.true (c.here.ensures ∙ none))

pub returns-clause-did : goal.returns-clause-did
returns-clause-did c = all-emptied c.args.self.now c.loop-self.self c.loop-self.invariant
    (sym c.here.ensures ∙ c.loop-self-test.false)

pub returns-clause-scans : goal.returns-clause-scans
returns-clause-scans c = c.loop-self.invariant.scans

pub returns-clause-off : goal.returns-clause-off
returns-clause-off c = c.loop-self.invariant.off

pub returns-clause-left : goal.returns-clause-left
returns-clause-left c = sym c.here.ensures ∙ c.loop-self-test.false
