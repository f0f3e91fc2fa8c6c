use Rattle.std.proofs.Common.{◌≡◌, sym, subst}
use Rattle.plant_types.specs.declared.plan.Plant.{Plant}
use Rattle.judge_tests.specs.Bridged.{bridged_plant}
use Rattle.joint_law.specs.Spots.{CanBeJudged}
use Rattle.judge_tests.proofs.BridgedPlants.{bridged-judged}
use Rattle.judge_tests.proofs.bridged.plant.Goals as goal

pub returns : goal.returns
returns c =
    let same : (◌≡◌) {A = Plant} (record {
      scan_time = 10;
      watchdog = 500;
      nets = c.in_ok-nets.field-0;
      controllers = c.in_ok-controllers.field-0;
      hosts = c.in_ok-hosts.field-0;
      bridges = c.in_ok-bridges.field-0;
    }) bridged_plant =
    λ i. record {
      scan_time = 10;
      watchdog = 500;
      nets = c.in_ok-nets.ensures i;
      controllers = c.in_ok-controllers.ensures i;
      hosts = c.in_ok-hosts.ensures i;
      bridges = c.in_ok-bridges.ensures i;
    } in
    subst (λ (p : Plant). CanBeJudged p 1) (sym same) bridged-judged
