use Rattle.std.proofs.Common.{◌≡◌, sym, subst, arith}
use Rattle.plant_types.specs.declared.plan.Plant.{Plant}
use Rattle.judge_tests.specs.Example.{example_plant}
use Rattle.joint_law.specs.Spots.{CanBeJudged}
use Rattle.judge_tests.proofs.Example.{example-judged}
use Rattle.judge_tests.proofs.histories.plant.Goals as goal

pub returns : goal.returns
returns c =
    let same : (◌≡◌) {A = Plant} (record {
      scan_time = 10;
      watchdog = 500;
      nets = c.in_ok-nets.field-0;
      controllers = c.in_ok-controllers.field-0;
      hosts = c.in_ok-hosts.field-0;
      bridges = c.new.result;
    }) example_plant =
    λ i. record {
      scan_time = 10;
      watchdog = 500;
      nets = c.in_ok-nets.ensures i;
      controllers = c.in_ok-controllers.ensures i;
      hosts = c.in_ok-hosts.ensures i;
      bridges = c.new.ensures i;
    } in
    λ scans from to.
    subst (λ (p : Plant). CanBeJudged p scans) (sym same) (example-judged scans from to)
