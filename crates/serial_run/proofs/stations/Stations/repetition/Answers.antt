use Rattle.std.proofs.Common.{arith}
use Rattle.serial_run.specs.Held.{IsOffAway}
use Rattle.serial_run.proofs.Gained.{all-stay, stays-both}
use Rattle.serial_run.proofs.Repeats.{repetition-did, scans-between, steps-kept}
use Rattle.serial_run.proofs.Rounds.{scans-both}
use Rattle.serial_run.proofs.TurnsMade.{on-ok}
use Rattle.serial_run.proofs.stations.Stations.repetition.Goals as goal

pub come_back_all-requires : goal.come_back_all-requires
come_back_all-requires c =
    let r = c.requires.stand in
    record {
      plant = r.plant;
      scans = r.scans;
      all = c.in_ok-scan_all.ensures.scans.stand r.plant r.scans r.all;
    }

pub visit_all-requires : goal.visit_all-requires
visit_all-requires c =
    let r = c.requires.stand in
    record {
      plant = r.plant;
      scans = r.scans;
      all = c.in_ok-come_back_all.ensures.came.stand r.plant r.scans
          (c.in_ok-scan_all.ensures.scans.stand r.plant r.scans r.all);
    }

pub rounds-requires : goal.rounds-requires
rounds-requires c =
    let r = c.requires.stand in
    record {
      plant = r.plant;
      scans = r.scans;
      all = c.in_ok-visit_all.ensures.visits.stand r.plant r.scans
          (c.in_ok-come_back_all.ensures.came.stand r.plant r.scans
          (c.in_ok-scan_all.ensures.scans.stand r.plant r.scans r.all));
    }

pub returns-clause-did : goal.returns-clause-did
returns-clause-did c =
    on-ok c.rounds.result
    (λ rounds. repetition-did c.args.rotations c.args.self.now c.scan_all.new.self
    c.come_back_all.new.self c.visit_all.new.self c.rounds.new.self c.requires.goes_on
    c.in_ok-scan_all.ensures.scans c.in_ok-come_back_all.ensures.came
    c.in_ok-visit_all.ensures.visits rounds)
    c.rounds.ensures.rounds

pub returns-clause-between : goal.returns-clause-between
returns-clause-between c =
    on-ok c.rounds.result
    (λ scans. scans-between c.scan_all.new.self c.rounds.new.self
    (scans-both c.scan_all.new.self c.come_back_all.new.self c.rounds.new.self
    c.in_ok-come_back_all.ensures.scans
    (scans-both c.come_back_all.new.self c.visit_all.new.self c.rounds.new.self
    c.in_ok-visit_all.ensures.scans scans)) c.in_ok-scan_all.ensures.between)
    c.rounds.ensures.scans

pub returns-clause-less : goal.returns-clause-less
returns-clause-less c =
    on-ok c.rounds.result
    (λ scans.
    let same = steps-kept c.scan_all.new.self c.rounds.new.self
    (scans-both c.scan_all.new.self c.come_back_all.new.self c.rounds.new.self
    c.in_ok-come_back_all.ensures.scans
    (scans-both c.come_back_all.new.self c.visit_all.new.self c.rounds.new.self
    c.in_ok-visit_all.ensures.scans scans)) in
    let less = c.in_ok-scan_all.ensures.less c.requires.goes_on in
    omega (arith, same, less))
    c.rounds.ensures.scans

pub returns-clause-off : goal.returns-clause-off
returns-clause-off c =
    on-ok c.rounds.result
    (λ stay. all-stay IsOffAway c.come_back_all.new.self c.rounds.new.self
    (stays-both IsOffAway c.come_back_all.new.self c.visit_all.new.self c.rounds.new.self
    c.in_ok-visit_all.ensures.off stay) c.in_ok-come_back_all.ensures.off)
    c.rounds.ensures.off
