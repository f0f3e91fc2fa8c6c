use Rattle.std.proofs.Common.{◌≡◌, ◌+◌, ◌<◌, List, length, sym, ap, subst, ◌∙◌, arith}
use Rattle.std.proofs.lemmas.List.{get_or_default}
use Rattle.plant_types.specs.declared.net.NetPlan.{NetPlan}
use Rattle.ring_core.specs.declared.entry.RingEntry.{RingEntry}
use Rattle.ring_core.specs.Legal.{IsLegalRing}
use Rattle.joint_history.specs.declared.joint.RingLog.{RingLog}
use Rattle.list_courses.specs.Courses.{FollowedTo}
use Rattle.station_laws.specs.Differing.{BreaksAt}
use Rattle.joint_law.proofs.CourseEnds.{each-next, ring-spot, rings-end}
use Rattle.joint_law.proofs.CourseSteps.{same-size}
use Rattle.joint_law.proofs.courses.rings_course.Goals as goal

pub returns-in-Some : goal.returns-in-Some
returns-in-Some c =
    let sizes = same-size (λ (p : NetPlan). p.number) (λ (g : RingLog). g.network)
    c.args.plant.now.nets c.args.joint.now.rings c.requires.sections.rings in
    let plans-size = ap (λ (l : List NetPlan). length l) c.as_slice-plans.ensures in
    let logs-size = ap (λ (l : List RingLog). length l) c.as_slice-logs.ensures in
    let low : c.loop-at.at < length c.as_slice-plans.result.now = omega arith in
    let low-g : c.loop-at.at < length c.as_slice-logs.result.now = omega
    (arith, sizes, plans-size, logs-size) in
    let entries : c.as_slice-entries.result.now ≡ c.index-logs-at.result.entries = cc in
    let course = subst (FollowedTo (IsLegalRing c.index-plans-at.result)
    c.as_slice-entries.result.now) c.in-Some.is c.in_ok-place.ensures in
    let breaks = subst (λ (l : List RingEntry). BreaksAt (IsLegalRing c.index-plans-at.result) l
    (c.in-Some.place + 1)) entries course in
    ring-spot c.args.plant.now c.args.scans c.args.joint.now c.as_slice-plans.result.now
    c.as_slice-logs.result.now c.loop-at.at (c.in-Some.place + 1) _
    c.index-plans-at.result c.index-logs-at.result c.as_slice-plans.ensures
    c.as_slice-logs.ensures c.requires.sound c.requires.sections c.requires.controllers
    c.requires.hosts c.requires.bridges low c.index-plans-at.is c.index-logs-at.is
    (ap (λ (g : RingLog). g.network)
    (get_or_default c.as_slice-logs.result.now c.loop-at.at c.index-logs-at-in-Some.result
    c.index-logs-at.result low-g ∙ sym c.index-logs-at.is))
    c.loop-at.invariant breaks

pub loop-at-preserved : goal.loop-at-preserved
loop-at-preserved c =
    let sizes = same-size (λ (p : NetPlan). p.number) (λ (g : RingLog). g.network)
    c.args.plant.now.nets c.args.joint.now.rings c.requires.sections.rings in
    let plans-size = ap (λ (l : List NetPlan). length l) c.as_slice-plans.ensures in
    let logs-size = ap (λ (l : List RingLog). length l) c.as_slice-logs.ensures in
    let low : c.loop-at.at < length c.as_slice-plans.result.now = omega arith in
    let low-g : c.loop-at.at < length c.as_slice-logs.result.now = omega
    (arith, sizes, plans-size, logs-size) in
    let entries : c.as_slice-entries.result.now ≡ c.index-logs-at.result.entries = cc in
    let course = subst (FollowedTo (IsLegalRing c.index-plans-at.result)
    c.as_slice-entries.result.now) c.in_default.is c.in_ok-place.ensures in
    each-next (λ p g. IsLegalRing p g.entries) c.as_slice-plans.result.now
    c.as_slice-logs.result.now c.loop-at.at c.index-plans-at.result c.index-logs-at.result
    c.loop-at.invariant low low-g c.index-plans-at.is c.index-logs-at.is
    (subst (IsLegalRing c.index-plans-at.result) entries course)

pub returns : goal.returns
returns c =
    rings-end c.args.plant.now c.args.joint.now c.as_slice-plans.result.now
    c.as_slice-logs.result.now c.loop-at.at c.as_slice-plans.ensures
    c.as_slice-logs.ensures c.requires.sections (omega arith) c.loop-at.invariant
