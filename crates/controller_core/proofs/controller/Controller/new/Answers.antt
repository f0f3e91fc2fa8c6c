use Rattle.std.proofs.Common.{rules, refl, sym, ap, subst, ◌∙◌}
use Rattle.plant_types.specs.declared.plan.ControllerPlan.{ControllerPlan}
use Rattle.controller_core.specs.declared.fixed.Fixed.{Fixed}
use Rattle.controller_core.specs.Replay.{start}
use Rattle.controller_core.specs.Machine.{IsRunnable}
use Rattle.controller_core.proofs.Keeping.{kept_new}
use Rattle.controller_core.proofs.NoteLemmas.{noted_start}
use Rattle.controller_core.proofs.controller.Controller.new.Goals as goal

pub new-requires : goal.new-requires
new-requires c =
    subst (λ (p : ControllerPlan). IsRunnable (record {
      plan = p;
      scan_time = c.args.scan_time;
      watchdog = c.args.watchdog;
      scans = c.args.scans;
    }))
    (sym c.in_ok-plan.ensures) c.requires

pub invariant_of-result : goal.invariant_of-result
invariant_of-result c =
    let machine = c.in_ok-machine.machine in
    let told = c.in_ok-machine.ensures in
    record {
      kept = kept_new machine.fixed machine _ refl (told.state
          ∙ ap (λ (f : Fixed). start f.plan) (sym told.plan)) (search rules) told.timely told.sound;
      room = λ no. cc;
      noted = noted_start machine.fixed _ _ _ (search rules) (search rules);
    }
