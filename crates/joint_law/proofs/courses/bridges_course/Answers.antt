use Rattle.std.proofs.Common.{◌≡◌, ◌+◌, ◌<◌, List, length, get_or, sym, ap, subst, ◌∙◌, arith}
use Rattle.std.proofs.lemmas.List.{get_or_default}
use Rattle.plant_types.specs.declared.net.BridgePlan.{BridgePlan}
use Rattle.joint_history.specs.declared.joint.BridgeLog.{BridgeLog}
use Rattle.bridge_relay.specs.declared.entry.BridgeEntry.{BridgeEntry}
use Rattle.bridge_relay.specs.Legal.{IsBridgeHistory}
use Rattle.list_courses.specs.Courses.{FollowedTo}
use Rattle.station_laws.specs.Differing.{BreaksAt}
use Rattle.joint_law.proofs.CourseEnds.{any_bridge, bridge-spot, bridges-end, each-next}
use Rattle.joint_law.proofs.CourseSteps.{same-size}
use Rattle.joint_law.proofs.courses.bridges_course.Goals as goal

pub returns-in-Some : goal.returns-in-Some
returns-in-Some c =
    let sizes = same-size (λ (p : BridgePlan). p.left) (λ (g : BridgeLog). g.left)
    c.args.plant.now.bridges c.args.joint.now.bridges c.requires.sections.lefts in
    let plans-size = ap (λ (l : List BridgePlan). length l) c.as_slice-plans.ensures in
    let logs-size = ap (λ (l : List BridgeLog). length l) c.as_slice-logs.ensures in
    let low : c.loop-at.at < length c.as_slice-plans.result.now = omega arith in
    let low-g : c.loop-at.at < length c.as_slice-logs.result.now = omega
    (arith, sizes, plans-size, logs-size) in
    let plan = get_or c.as_slice-plans.result.now c.loop-at.at any_bridge in
    let is-p = get_or_default c.as_slice-plans.result.now c.loop-at.at any_bridge plan low in
    let entries : c.as_slice-entries.result.now ≡ c.index-logs-at.result.entries = cc in
    let course = subst (FollowedTo (IsBridgeHistory plan)
    c.as_slice-entries.result.now) c.in-Some.is c.in_ok-place.ensures in
    let breaks = subst (λ (l : List BridgeEntry). BreaksAt
    (IsBridgeHistory plan) l (c.in-Some.place + 1)) entries course in
    bridge-spot c.args.plant.now c.args.scans c.args.joint.now c.as_slice-plans.result.now
    c.as_slice-logs.result.now c.loop-at.at (c.in-Some.place + 1) _ plan
    c.index-logs-at.result c.as_slice-plans.ensures c.as_slice-logs.ensures
    c.requires.sound c.requires.sections c.requires.controllers c.requires.hosts low
    is-p c.index-logs-at.is
    (ap (λ (g : BridgeLog). g.left)
    (get_or_default c.as_slice-logs.result.now c.loop-at.at c.index-logs-at-in-Some.result
    c.index-logs-at.result low-g ∙ sym c.index-logs-at.is))
    c.loop-at.invariant breaks

pub loop-at-preserved : goal.loop-at-preserved
loop-at-preserved c =
    let sizes = same-size (λ (p : BridgePlan). p.left) (λ (g : BridgeLog). g.left)
    c.args.plant.now.bridges c.args.joint.now.bridges c.requires.sections.lefts in
    let plans-size = ap (λ (l : List BridgePlan). length l) c.as_slice-plans.ensures in
    let logs-size = ap (λ (l : List BridgeLog). length l) c.as_slice-logs.ensures in
    let low : c.loop-at.at < length c.as_slice-plans.result.now = omega arith in
    let low-g : c.loop-at.at < length c.as_slice-logs.result.now = omega
    (arith, sizes, plans-size, logs-size) in
    let plan = get_or c.as_slice-plans.result.now c.loop-at.at any_bridge in
    let is-p = get_or_default c.as_slice-plans.result.now c.loop-at.at any_bridge plan low in
    let entries : c.as_slice-entries.result.now ≡ c.index-logs-at.result.entries = cc in
    let course = subst (FollowedTo (IsBridgeHistory plan)
    c.as_slice-entries.result.now) c.in_default.is
    c.in_ok-place.ensures in
    each-next (λ p g. IsBridgeHistory p g.entries) c.as_slice-plans.result.now
    c.as_slice-logs.result.now c.loop-at.at plan c.index-logs-at.result
    c.loop-at.invariant low low-g is-p c.index-logs-at.is
    (subst (IsBridgeHistory plan) entries course)

pub returns : goal.returns
returns c =
    bridges-end c.args.plant.now c.args.joint.now c.as_slice-plans.result.now
    c.as_slice-logs.result.now c.loop-at.at c.as_slice-plans.ensures
    c.as_slice-logs.ensures c.requires.sections (omega arith) c.loop-at.invariant
