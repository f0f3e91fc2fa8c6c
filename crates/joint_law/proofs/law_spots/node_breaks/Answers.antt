use Rattle.std.proofs.Common.{◌≡◌, List, ◌++◌, map, subst, ap, ◌∙◌, Option, Some, None, ℕ}
use Rattle.std.specs.List.{flat_map}
use Rattle.std.proofs.lemmas.Result.{IfOk-weaker}
use Rattle.joint_history.specs.declared.joint.BridgeLog.{BridgeLog}
use Rattle.joint_history.specs.declared.joint.ControllerLog.{ControllerLog}
use Rattle.joint_history.specs.declared.joint.HostLog.{HostLog}
use Rattle.joint_history.specs.Nets.{noted_on_rings}
use Rattle.tied_lists.specs.Own.{own}
use Rattle.station_laws.specs.Bound.{Bound, controller_bound, host_bound, side_bounds}
use Rattle.joint_law.specs.LawEnds.{IsLogsEnd}
use Rattle.joint_law.proofs.LogSteps.{joined-break, joined-end}
use Rattle.joint_law.proofs.SameBounds.{controllers-same, ends-as, hosts-same, sides-same}
use Rattle.joint_law.proofs.law_spots.node_breaks.Goals as goal

pub logs_break-requires : goal.logs_break-requires
logs_break-requires c = c.entries_of-of.ensures.places

pub host_logs_break-requires : goal.host_logs_break-requires
host_logs_break-requires c = c.entries_of-of.ensures.places

pub bridge_logs_break-requires : goal.bridge_logs_break-requires
bridge_logs_break-requires c = c.entries_of-of.ensures.places

pub returns-in-Some : goal.returns-in-Some
returns-in-Some c =
    let noted = noted_on_rings c.args.joint.now in
    let ring = c.entries_of-of.result.ring.now in
    let node = c.args.node in
    let same : own node ring ≡ own node noted = c.entries_of-of.ensures.own_is
    ∙ ap (own node) c.requires.noted_is in
    let End : List Bound → Option ℕ → Type 0 = IsLogsEnd c.args.law node in
    let place = Some c.in-Some.place in
    let controllers = map (controller_bound noted) c.args.joint.now.controllers in
    let hosts = map (host_bound noted) c.args.joint.now.hosts in
    let breaks = ends-as c.args.law node _ controllers place
    (controllers-same node ring noted same c.args.joint.now.controllers)
    (subst (λ (logs : List ControllerLog). End (map (controller_bound ring) logs) place)
    c.as_slice-logs.ensures
    (subst (End (map (controller_bound ring) c.as_slice-logs.result.now)) c.in-Some.is
    c.in_ok-place.ensures)) in
    joined-break c.args.law node (controllers ++ hosts)
    (flat_map (side_bounds noted) c.args.joint.now.bridges) c.in-Some.place
    (joined-break c.args.law node controllers hosts c.in-Some.place breaks)

pub returns-in-Some-2 : goal.returns-in-Some-2
returns-in-Some-2 c =
    let noted = noted_on_rings c.args.joint.now in
    let ring = c.entries_of-of.result.ring.now in
    let node = c.args.node in
    let same : own node ring ≡ own node noted = c.entries_of-of.ensures.own_is
    ∙ ap (own node) c.requires.noted_is in
    let End : List Bound → Option ℕ → Type 0 = IsLogsEnd c.args.law node in
    let place = Some c.in-Some-2.place in
    let controllers = map (controller_bound noted) c.args.joint.now.controllers in
    let hosts = map (host_bound noted) c.args.joint.now.hosts in
    let kept = ends-as c.args.law node _ controllers None
    (controllers-same node ring noted same c.args.joint.now.controllers)
    (subst (λ (logs : List ControllerLog). End (map (controller_bound ring) logs) None)
    c.as_slice-logs.ensures
    (subst (End (map (controller_bound ring) c.as_slice-logs.result.now)) c.in_default.is
    c.in_ok-place.ensures)) in
    let breaks = ends-as c.args.law node _ hosts place
    (hosts-same node ring noted same c.args.joint.now.hosts)
    (subst (λ (logs : List HostLog). End (map (host_bound ring) logs) place)
    c.as_slice-host_logs.ensures
    (subst (End (map (host_bound ring) c.as_slice-host_logs.result.now)) c.in-Some-2.is
    c.in_ok-place-2.ensures)) in
    joined-break c.args.law node (controllers ++ hosts)
    (flat_map (side_bounds noted) c.args.joint.now.bridges) c.in-Some-2.place
    (joined-end c.args.law node controllers hosts place kept breaks)

pub returns : goal.returns
returns c =
    let noted = noted_on_rings c.args.joint.now in
    let ring = c.entries_of-of.result.ring.now in
    let node = c.args.node in
    let same : own node ring ≡ own node noted = c.entries_of-of.ensures.own_is
    ∙ ap (own node) c.requires.noted_is in
    let End : List Bound → Option ℕ → Type 0 = IsLogsEnd c.args.law node in
    let controllers = map (controller_bound noted) c.args.joint.now.controllers in
    let hosts = map (host_bound noted) c.args.joint.now.hosts in
    let sides = flat_map (side_bounds noted) c.args.joint.now.bridges in
    let kept = ends-as c.args.law node _ controllers None
    (controllers-same node ring noted same c.args.joint.now.controllers)
    (subst (λ (logs : List ControllerLog). End (map (controller_bound ring) logs) None)
    c.as_slice-logs.ensures
    (subst (End (map (controller_bound ring) c.as_slice-logs.result.now)) c.in_default.is
    c.in_ok-place.ensures)) in
    let kept' = ends-as c.args.law node _ hosts None
    (hosts-same node ring noted same c.args.joint.now.hosts)
    (subst (λ (logs : List HostLog). End (map (host_bound ring) logs) None)
    c.as_slice-host_logs.ensures
    (subst (End (map (host_bound ring) c.as_slice-host_logs.result.now)) c.in_default-2.is
    c.in_ok-place-2.ensures)) in
    IfOk-weaker c.bridge_logs_break.result
    (End (flat_map (side_bounds ring) c.as_slice-bridge_logs.result.now)) _
    (λ end h. joined-end c.args.law node (controllers ++ hosts) sides end
    (joined-end c.args.law node controllers hosts None kept kept')
    (ends-as c.args.law node _ sides end
    (sides-same node ring noted same c.args.joint.now.bridges)
    (subst (λ (logs : List BridgeLog). End (flat_map (side_bounds ring) logs) end)
    c.as_slice-bridge_logs.ensures h)))
    c.bridge_logs_break.ensures
