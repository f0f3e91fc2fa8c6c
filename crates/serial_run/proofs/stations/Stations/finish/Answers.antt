use Rattle.std.proofs.Common.{◌∙◌}
use Rattle.serial_run.specs.Held.{IsOffAway}
use Rattle.serial_run.proofs.Gained.{all-stay}
use Rattle.serial_run.proofs.Repeats.{all-finished}
use Rattle.serial_run.proofs.Rounds.{scans-both}
use Rattle.serial_run.proofs.TurnsMade.{on-ok}
use Rattle.serial_run.proofs.stations.Stations.finish.Goals as goal

pub visit_all-requires : goal.visit_all-requires
visit_all-requires c =
    let r = c.requires.stand in
    record {
      plant = r.plant;
      scans = r.scans;
      all = c.in_ok-empty_rings.ensures.did.stand r.plant r.scans r.all;
    }

pub returns-clause-did : goal.returns-clause-did
returns-clause-did c =
    on-ok c.visit_all.result
    (λ visits. all-finished c.args.self.now c.empty_rings.new.self c.visit_all.new.self
    c.in_ok-empty_rings.ensures.did visits)
    c.visit_all.ensures.visits

pub returns-clause-scans : goal.returns-clause-scans
returns-clause-scans c =
    on-ok c.visit_all.result
    (λ scans. scans-both c.args.self.now c.empty_rings.new.self c.visit_all.new.self
    c.in_ok-empty_rings.ensures.scans scans)
    c.visit_all.ensures.scans

pub returns-clause-off : goal.returns-clause-off
returns-clause-off c =
    on-ok c.visit_all.result
    (λ stay. all-stay IsOffAway c.empty_rings.new.self c.visit_all.new.self stay
    c.in_ok-empty_rings.ensures.off)
    c.visit_all.ensures.off

pub returns-clause-left : goal.returns-clause-left
returns-clause-left c =
    on-ok c.visit_all.result (λ here. here ∙ c.in_ok-empty_rings.ensures.left)
    c.visit_all.ensures.here
