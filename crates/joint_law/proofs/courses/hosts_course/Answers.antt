use Rattle.std.proofs.Common.{◌≡◌, ◌+◌, ◌<◌, List, Bool, false, length, get_or, sym, ap, subst}
use Rattle.std.proofs.Common.{◌∙◌}
use Rattle.std.proofs.Common.{arith}
use Rattle.std.specs.Prelude.{◌↔◌, Contains, IsTrue}
use Rattle.std.proofs.lemmas.List.{get_or_default}
use Rattle.plant_types.specs.declared.net.HostPlan.{HostPlan}
use Rattle.joint_history.specs.declared.joint.HostLog.{HostLog}
use Rattle.host_port.specs.declared.entry.HostEntry.{HostEntry}
use Rattle.host_port.specs.Legal.{IsHostHistory}
use Rattle.joint_history.specs.Complete.{EndsEachCall}
use Rattle.joint_history.specs.Reading.{host_items_of}
use Rattle.list_courses.specs.Courses.{IsCourse}
use Rattle.station_laws.specs.Differing.{BreaksAt}
use Rattle.joint_law.proofs.CourseEnds.{hosts-end, done-next, each-next, host-spot, size-next}
use Rattle.joint_law.proofs.AtNodes.{host-member}
use Rattle.joint_law.proofs.CourseSteps.{same-size}
use Rattle.joint_law.proofs.courses.hosts_course.Goals as goal

pub own_net-requires : goal.own_net-requires
own_net-requires c =
    let low : c.loop-at.at < length c.as_slice-plans.result.now = omega arith in
    record {
      member = host-member c.args.plant.now c.index-plans-at.result c.requires.judged.sound
          (subst (λ (l : List HostPlan). Contains l c.index-plans-at.result)
          c.as_slice-plans.ensures (c.loop-at.at, low, sym c.index-plans-at.is));
    }

pub returns-in-Breaks : goal.returns-in-Breaks
returns-in-Breaks c =
    let sizes = same-size (λ (p : HostPlan). p.node) (λ (g : HostLog). g.node)
    c.args.plant.now.hosts c.args.joint.now.hosts c.requires.sections.hosts in
    let plans-size = ap (λ (l : List HostPlan). length l) c.as_slice-plans.ensures in
    let logs-size = ap (λ (l : List HostLog). length l) c.as_slice-logs.ensures in
    let low : c.loop-at.at < length c.as_slice-plans.result.now = omega arith in
    let low-g : c.loop-at.at < length c.as_slice-logs.result.now = omega
    (arith, sizes, plans-size, logs-size) in
    let entries : c.as_slice-entries.result.now ≡ c.index-logs-at.result.entries = cc in
    let course = subst (IsCourse (IsHostHistory c.index-plans-at.result)
    (EndsEachCall (host_items_of c.as_slice-entries.result.now)) c.as_slice-entries.result.now)
    c.in-Breaks.is c.in_ok-place.ensures in
    let breaks = subst (λ (l : List HostEntry). BreaksAt (IsHostHistory c.index-plans-at.result) l
    (c.in-Breaks.place + 1)) entries course in
    host-spot c.args.plant.now c.args.scans c.args.joint.now c.as_slice-plans.result.now
    c.as_slice-logs.result.now c.loop-at.at (c.in-Breaks.place + 1) _ c.index-plans-at.result
    c.index-logs-at.result c.as_slice-plans.ensures c.as_slice-logs.ensures
    c.requires.judged.sound c.requires.sections c.requires.controllers low c.index-plans-at.is
    c.index-logs-at.is
    (ap (λ (g : HostLog). g.node)
    (get_or_default c.as_slice-logs.result.now c.loop-at.at c.index-logs-at-in-Breaks.result
    c.index-logs-at.result low-g ∙ sym c.index-logs-at.is))
    c.loop-at.invariant.legal breaks

pub loop-at-preserved : goal.loop-at-preserved
loop-at-preserved c =
    let sizes = same-size (λ (p : HostPlan). p.node) (λ (g : HostLog). g.node)
    c.args.plant.now.hosts c.args.joint.now.hosts c.requires.sections.hosts in
    let plans-size = ap (λ (l : List HostPlan). length l) c.as_slice-plans.ensures in
    let logs-size = ap (λ (l : List HostLog). length l) c.as_slice-logs.ensures in
    let low : c.loop-at.at < length c.as_slice-plans.result.now = omega arith in
    let low-g : c.loop-at.at < length c.as_slice-logs.result.now = omega
    (arith, sizes, plans-size, logs-size) in
    let entries : c.as_slice-entries.result.now ≡ c.index-logs-at.result.entries = cc in
    let course = subst (IsCourse (IsHostHistory c.index-plans-at.result)
    (EndsEachCall (host_items_of c.as_slice-entries.result.now)) c.as_slice-entries.result.now)
    c.in-Whole.is c.in_ok-place.ensures in
    let here = subst (λ (l : List HostEntry). (IsHostHistory c.index-plans-at.result) l) entries
    course.0 in
    let was = subst (λ (l : List HostEntry). IsTrue c.in-Whole.is_done
    ↔ EndsEachCall (host_items_of l)) entries course.1 in
    let each = done-next (λ p g. EndsEachCall (host_items_of g.entries))
    c.as_slice-plans.result.now c.as_slice-logs.result.now c.loop-at.done c.in-Whole.is_done
    c.loop-at.at c.index-plans-at.result c.index-logs-at.result
    c.loop-at.invariant.size c.loop-at.invariant.each low low-g c.index-plans-at.is
    c.index-logs-at.is was in
    record {
      size =
          ap (λ (l : List Bool). length l) c.in_ok-push-in-Whole.ensures.ok
          ∙ size-next c.loop-at.done c.in-Whole.is_done c.loop-at.at c.loop-at.invariant.size;
      legal =
          each-next (λ p g. IsHostHistory p g.entries) c.as_slice-plans.result.now
          c.as_slice-logs.result.now c.loop-at.at c.index-plans-at.result c.index-logs-at.result
          c.loop-at.invariant.legal low low-g c.index-plans-at.is c.index-logs-at.is here;
      each = λ j p g below.
          subst (λ (l : List Bool). IsTrue (get_or l j false)
          ↔ EndsEachCall (host_items_of (get_or c.as_slice-logs.result.now j g).entries))
          (sym c.in_ok-push-in-Whole.ensures.ok) (each j p g below);
    }

pub returns : goal.returns
returns c =
    hosts-end c.args.plant.now c.args.joint.now c.as_slice-plans.result.now
    c.as_slice-logs.result.now c.loop-at.done c.loop-at.at c.as_slice-plans.ensures
    c.as_slice-logs.ensures c.requires.sections (omega arith) c.loop-at.invariant.size
    c.loop-at.invariant.legal c.loop-at.invariant.each
