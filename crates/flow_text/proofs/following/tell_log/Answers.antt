use Rattle.std.proofs.Common.{◌≡◌, List, OnOk, ap, subst}
use Rattle.controller_core.specs.declared.entry.Entry.{Entry}
use Rattle.controller_core.specs.declared.fixed.Fixed.{Fixed}
use Rattle.controller_core.specs.Controller.{ControllerIs}
use Rattle.joint_history.specs.JointLaws.{fixed_of, most_scans}
use Rattle.flow_text.specs.Lines.{scan_lines}
use Rattle.flow_text.specs.Solved.{networks_solved}
use Rattle.flow_text.specs.Window.{AddsLines}
use Rattle.flow_text.proofs.following.tell_log.Goals as goal

pub returns : goal.returns
returns c =
    let plan = c.args.plan.now in
    let log = c.args.log.now.entries in
    let v = c.in_ok-controller.controller in
    let P : Fixed → List Entry → Type 0 = λ f h. OnOk c.follow_all.result
    (AddsLines (scan_lines plan.node (networks_solved f h)) c.args.window.now
    c.follow_all.new.window) in
    let fixed : v.fixed ≡ fixed_of c.args.plant.now most_scans plan =
    ap (λ (u : ControllerIs). u.fixed) c.in_ok-controller.ensures in
    subst (λ (f : Fixed). P f log) fixed
    (subst (P v.fixed) c.as_slice.ensures c.follow_all.ensures)
