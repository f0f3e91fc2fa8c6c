use Rattle.std.proofs.Common.{◌≡◌, subst, ◌∙◌}
use Rattle.std.specs.Prelude.{IfOk}
use Rattle.controller_core.specs.declared.fixed.Fixed.{Fixed}
use Rattle.controller_core.specs.Controller.{fixed_with}
use Rattle.field_machine.specs.Shown.{IsShownBy}
use Rattle.field_machine.proofs.shown.show_run.Goals as goal

pub returns : goal.returns
returns c =
    let field = c.in_ok-field.field in
    let fixed : field.fixed ≡ fixed_with c.args.plan.now c.args.scan_time c.args.watchdog 1 =
    c.in_ok-field.ensures.fixed ∙ (λ i. record {
      plan = c.in_ok-copied.ensures i;
      scan_time = c.args.scan_time;
      watchdog = c.args.watchdog;
      scans = 1;
    }) in
    subst (λ (f : Fixed). IfOk c.show.result (IsShownBy f c.args.ways.now)) fixed c.show.ensures
