use Rattle.std.proofs.Common.{◌≡◌, ◌+◌, ◌<◌, List, Bool, false, length, get_or, sym, ap, subst}
use Rattle.std.proofs.Common.{◌∙◌}
use Rattle.std.proofs.Common.{arith}
use Rattle.std.specs.Prelude.{◌↔◌, IsTrue}
use Rattle.std.proofs.lemmas.List.{get_or_default}
use Rattle.plant_types.specs.declared.plan.ControllerPlan.{ControllerPlan}
use Rattle.joint_history.specs.declared.joint.ControllerLog.{ControllerLog}
use Rattle.controller_core.specs.declared.entry.Entry.{Entry}
use Rattle.controller_core.specs.Controller.{IsLegal}
use Rattle.joint_history.specs.Complete.{ControllerIsComplete}
use Rattle.joint_history.specs.JointLaws.{fixed_of}
use Rattle.list_courses.specs.Courses.{IsControllerCourse, IsWholeCourse}
use Rattle.station_laws.specs.Differing.{BreaksAt}
use Rattle.joint_law.proofs.CourseEnds.{controllers-end, done-next, each-next, controller-spot}
use Rattle.joint_law.proofs.CourseEnds.{notes-next, size-next}
use Rattle.joint_law.proofs.CourseSteps.{same-size}
use Rattle.joint_law.proofs.courses.controllers_course.Goals as goal

pub returns-in-Breaks : goal.returns-in-Breaks
returns-in-Breaks c =
    let sizes = same-size (λ (p : ControllerPlan). p.node) (λ (g : ControllerLog). g.node)
    c.args.plant.now.controllers c.args.joint.now.controllers
    c.requires.sections.controllers in
    let plans-size = ap (λ (l : List ControllerPlan). length l) c.as_slice-plans.ensures in
    let logs-size = ap (λ (l : List ControllerLog). length l) c.as_slice-logs.ensures in
    let low : c.loop-at.at < length c.as_slice-plans.result.now = omega arith in
    let low-g : c.loop-at.at < length c.as_slice-logs.result.now = omega
    (arith, sizes, plans-size, logs-size) in
    let entries : c.as_slice-entries.result.now ≡ c.index-logs-at.result.entries = cc in
    let course = subst (IsControllerCourse c.args.plant.now c.args.scans c.index-plans-at.result
    c.as_slice-entries.result.now) c.in-Breaks.is c.in_ok-place.ensures in
    let breaks = subst (λ (l : List Entry). BreaksAt
    (IsLegal (fixed_of c.args.plant.now c.args.scans c.index-plans-at.result)) l
    (c.in-Breaks.place + 1)) entries course in
    controller-spot c.args.plant.now c.args.scans c.args.joint.now c.as_slice-plans.result.now
    c.as_slice-logs.result.now c.loop-at.at (c.in-Breaks.place + 1) _ c.index-plans-at.result
    c.index-logs-at.result c.as_slice-plans.ensures c.as_slice-logs.ensures
    c.requires.judged.sound c.requires.sections low c.index-plans-at.is c.index-logs-at.is
    (ap (λ (g : ControllerLog). g.node)
    (get_or_default c.as_slice-logs.result.now c.loop-at.at c.index-logs-at-in-Breaks.result
    c.index-logs-at.result low-g ∙ sym c.index-logs-at.is))
    c.loop-at.invariant.legal breaks

pub loop-at-preserved : goal.loop-at-preserved
loop-at-preserved c =
    let sizes = same-size (λ (p : ControllerPlan). p.node) (λ (g : ControllerLog). g.node)
    c.args.plant.now.controllers c.args.joint.now.controllers
    c.requires.sections.controllers in
    let plans-size = ap (λ (l : List ControllerPlan). length l) c.as_slice-plans.ensures in
    let logs-size = ap (λ (l : List ControllerLog). length l) c.as_slice-logs.ensures in
    let low : c.loop-at.at < length c.as_slice-plans.result.now = omega arith in
    let low-g : c.loop-at.at < length c.as_slice-logs.result.now = omega
    (arith, sizes, plans-size, logs-size) in
    let entries : c.as_slice-entries.result.now ≡ c.index-logs-at.result.entries = cc in
    let course = subst (IsControllerCourse c.args.plant.now c.args.scans c.index-plans-at.result
    c.as_slice-entries.result.now) c.in-Whole.is c.in_ok-place.ensures in
    let whole = subst (λ (l : List Entry). IsWholeCourse c.args.plant.now c.args.scans
    c.index-plans-at.result l c.in-Whole.is_done c.in-Whole.noted) entries course in
    let each = done-next (λ p g. ControllerIsComplete (fixed_of c.args.plant.now c.args.scans p)
    g.entries) c.as_slice-plans.result.now c.as_slice-logs.result.now c.loop-at.done
    c.in-Whole.is_done c.loop-at.at c.index-plans-at.result c.index-logs-at.result
    c.loop-at.invariant.size c.loop-at.invariant.each low low-g c.index-plans-at.is
    c.index-logs-at.is whole.done in
    record {
      size =
          ap (λ (l : List Bool). length l) c.in_ok-push-in-Whole.ensures.ok
          ∙ size-next c.loop-at.done c.in-Whole.is_done c.loop-at.at c.loop-at.invariant.size;
      legal =
          each-next (λ p g. IsLegal (fixed_of c.args.plant.now c.args.scans p) g.entries)
          c.as_slice-plans.result.now c.as_slice-logs.result.now c.loop-at.at
          c.index-plans-at.result c.index-logs-at.result
          c.loop-at.invariant.legal low low-g c.index-plans-at.is c.index-logs-at.is whole.legal;
      each = λ j p g below.
          subst (λ (l : List Bool). IsTrue (get_or l j false)
          ↔ ControllerIsComplete (fixed_of c.args.plant.now c.args.scans
          (get_or c.as_slice-plans.result.now j p))
          (get_or c.as_slice-logs.result.now j g).entries)
          (sym c.in_ok-push-in-Whole.ensures.ok) (each j p g below);
      noted = notes-next c.args.plant.now c.as_slice-plans.result.now c.as_slice-logs.result.now
          c.loop-at.notes _ c.in-Whole.noted c.loop-at.at c.index-plans-at.result
          c.index-logs-at.result
          c.loop-at.invariant.noted low low-g c.index-plans-at.is c.index-logs-at.is
          whole.notes_are
          c.in_ok-push-in-Whole-2.ensures.ok;
    }

pub returns : goal.returns
returns c =
    controllers-end c.args.plant.now c.args.scans c.args.joint.now c.as_slice-plans.result.now
    c.as_slice-logs.result.now c.loop-at.done c.loop-at.notes c.loop-at.at
    c.as_slice-plans.ensures c.as_slice-logs.ensures c.requires.sections (omega arith)
    c.loop-at.invariant.size c.loop-at.invariant.legal c.loop-at.invariant.each
    c.loop-at.invariant.noted
