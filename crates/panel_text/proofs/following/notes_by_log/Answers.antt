use Rattle.std.proofs.Common.{List, ap, ◌∙◌}
use Rattle.controller_core.specs.declared.entry.Entry.{Entry}
use Rattle.controller_core.specs.declared.fixed.Fixed.{Fixed}
use Rattle.controller_core.specs.Controller.{ControllerIs}
use Rattle.controller_core.specs.Notes.{notes_of}
use Rattle.joint_history.specs.JointLaws.{fixed_of, most_scans}
use Rattle.panel_text.proofs.following.notes_by_log.Goals as goal

pub returns : goal.returns
returns c =
    let plan = c.args.plan.now in
    let v = c.follow_all.new.controller in
    let all = fixed_of c.args.plant.now most_scans plan in
    let fixed = c.in_ok-follow_all.ensures.fixed
    ∙ ap (λ (u : ControllerIs). u.fixed) c.in_ok-controller.ensures in
    let history = c.in_ok-follow_all.ensures.history ∙ c.as_slice.ensures in
    c.into_parts-notes.ensures.notes ∙ ap (λ (f : Fixed). notes_of f v.history) fixed
    ∙ ap (λ (h : List Entry). notes_of all h) history
