-- Stations of a plant and ends of its bridges, and where they stand toward their rings.
use Rattle.std.proofs.Common.{◌≡◌, ℕ, ◌+◌, ◌<◌, ◌≤◌, Bool, true, false, List, [], ◌∷◌, ◌++◌}
use Rattle.std.proofs.Common.{length, get_or, map}
use Rattle.std.proofs.Common.{refl, sym, ap, subst, ◌∙◌, ⊎_elim, arith}
use Rattle.std.specs.Prelude.{◌↔◌, IsTrue, count_by}
use Rattle.std.specs.List.{All, Contains, flat_map, zip}
use Rattle.std.proofs.lemmas.Bool.{cases_lt}
use Rattle.std.proofs.lemmas.List.{get_or_default}
use Rattle.std.proofs.lemmas.List.Elements.{All-append, All-contains, All-contains_itself, All-map}
use Rattle.std.proofs.lemmas.Slice.Zip.{get_or-zip, length-zip}
use Rattle.plant_types.specs.declared.net.BridgePlan.{BridgePlan}
use Rattle.plant_types.specs.declared.net.HostPlan.{HostPlan}
use Rattle.plant_types.specs.declared.net.NetPlan.{NetPlan}
use Rattle.plant_types.specs.declared.plan.ControllerPlan.{ControllerPlan}
use Rattle.plant_types.specs.declared.plan.Plant.{Plant}
use Rattle.plant_types.specs.Plans.{IsNode, IsPlant, net_of}
use Rattle.ring_core.specs.Legal.{IsMember}
use Rattle.ring_core.specs.Machine.{addresses, admitted_status}
use Rattle.ring_core.specs.declared.entry.RingEntry.{RingEntry}
use Rattle.ring_core.specs.declared.status.NodeStatus.{NodeStatus}
use Rattle.ring_core.specs.declared.status.NodeStatus.TheVariants.{Gone}
use Rattle.tied_lists.specs.Items.{Items, no_items}
use Rattle.tied_lists.specs.Own.{own}
use Rattle.tied_lists.specs.Waits.{status_at}
use Rattle.controller_core.specs.declared.entry.Entry.{Entry}
use Rattle.controller_core.specs.declared.fixed.Fixed.{Fixed}
use Rattle.host_port.specs.declared.entry.HostEntry.{HostEntry}
use Rattle.bridge_relay.specs.declared.entry.BridgeEntry.{BridgeEntry}
use Rattle.bridge_relay.specs.declared.entry.BridgeEntry.TheVariants as bridge_entries
use Rattle.joint_history.specs.declared.joint.BridgeLog.{BridgeLog}
use Rattle.joint_history.specs.declared.joint.ControllerLog.{ControllerLog}
use Rattle.joint_history.specs.declared.joint.HostLog.{HostLog}
use Rattle.joint_history.specs.declared.joint.Joint.{Joint}
use Rattle.joint_history.specs.Bridges.{side_items}
use Rattle.joint_history.specs.declared.joint.RingLog.{RingLog}
use Rattle.joint_history.specs.Complete.{ControllerIsComplete, ControllerIsCompleteOn}
use Rattle.joint_history.specs.Complete.{EndsEachCall, HostIsCompleteOn, IsComplete}
use Rattle.joint_history.specs.Complete.{IsCompleteBridgeLog, IsCompleteHostLog, IsCompleteLog}
use Rattle.joint_history.specs.Complete.{IsCompleteSide, LeavesQuietly, NodeIsComplete}
use Rattle.joint_history.specs.JointLaws.{IsLegalJoint, fixed_of}
use Rattle.joint_history.specs.Nets.{noted_on_rings, own_ring}
use Rattle.joint_history.specs.Reading.{host_items_of, items_of}
use Rattle.net_laws.specs.Standing.{status_by}
use Rattle.net_laws.proofs.On.{IsOn, controller-on, host-on, left-on, right-on}
use Rattle.net_laws.proofs.Rings.{own-ring}
use Rattle.net_laws.proofs.Standing.{is-gone}
use Rattle.joint_law.specs.AllComplete.{AreControllersDone, AreEndsDoneOn, AreHostNodesDone}
use Rattle.joint_law.specs.AllComplete.{IsControllerDone, IsEndDone, IsEndDoneOn, IsFollowed}
use Rattle.joint_law.specs.AllComplete.{IsHostNodeDone, IsNodeDone, IsOutBy, IsStandingOf}
use Rattle.joint_law.specs.AllComplete.{own_entries}
use Rattle.station_laws.specs.Bound.{Bound, bounds_of, controller_bound, host_bound, side_bounds}
use Rattle.list_courses.specs.Completing.{EachAllows, HostAllows, given_in}
use Rattle.station_laws.specs.Failing.{is_fail}
use Rattle.joint_law.specs.Spots.{AreCompleteEndsAt, HasSections, IsCompleteAt}
use Rattle.joint_law.specs.declared.complete.Followed.{Followed}
use Rattle.joint_law.specs.declared.complete.Standing.{Standing}
use Rattle.joint_law.proofs.CourseSteps.{same-node, same-size, zip-all}
use Rattle.list_courses.proofs.Fitting.{all-from, done-from, holds-from, host-each, node-each}
use Rattle.list_courses.proofs.Fitting.{noticed-from, notices-ended, replies-from}
use Rattle.station_laws.proofs.Founded.{fails-of, host-fails}
use Rattle.joint_law.proofs.Outside.{out-by, out-from}
use Rattle.joint_law.proofs.SideBounds.{sides-all}
use Rattle.list_courses.proofs.Stands.{stands-by}

-- ---- addresses

abbrev log_node : ControllerLog → ℕ
log_node log = log.node

abbrev host_log_node : HostLog → ℕ
host_log_node log = log.node

abbrev plan_node : ControllerPlan → ℕ
plan_node plan = plan.node

abbrev host_plan_node : HostPlan → ℕ
host_plan_node plan = plan.node

abbrev left_of : BridgePlan → ℕ
left_of plan = plan.left

abbrev left_log : BridgeLog → ℕ
left_log log = log.left

abbrev right_of : BridgePlan → ℕ
right_of plan = plan.right

abbrev right_log : BridgeLog → ℕ
right_log log = log.right

pub item-of : {X : Type 0} (xs : List X) (k : ℕ) → k < length xs → X
item-of [] k low = absurd (omega arith)
item-of (x ∷ xs) k low = x

-- a node is a member of its network, and low
record IsAt (plant : Plant) (node : ℕ) : Type 0 where
  low : node < addresses
  member : IsMember (net_of plant node) node

at-net : (plant : Plant) (network node other : ℕ) → IsOn plant network node → other ≡ node
    → IsAt plant other
at-net plant network node other on same = subst (IsAt plant) (sym same) (record {
  low =
      let each = All-contains IsNode on.net.members node on.sound.members.each on.member in
      let most = each.to in omega (arith, most);
  member = subst (λ (net : NetPlan). IsMember net node) (sym on.is) on.member;
})

-- so are the nodes of all controllers
controllers-at : (plant : Plant) (joint : Joint) → IsPlant plant → HasSections plant joint
    → (k : ℕ) (d : ControllerLog) → k < length joint.controllers
    → IsAt plant (get_or joint.controllers k d).node
controllers-at plant joint sound sections k d low =
    let size = same-size plan_node log_node plant.controllers joint.controllers
    sections.controllers in
    let any = item-of plant.controllers k (omega (arith, size, low)) in
    let plan = get_or plant.controllers k any in
    let there = All-contains_itself plant.controllers k any (omega (arith, size, low)) in
    at-net plant plan.network plan.node _ (controller-on plant plan sound there)
    (same-node plan_node log_node plant.controllers joint.controllers sections.controllers k any d
    (omega (arith, size, low)))

-- of all hosts
hosts-at : (plant : Plant) (joint : Joint) → IsPlant plant → HasSections plant joint
    → (k : ℕ) (d : HostLog) → k < length joint.hosts → IsAt plant (get_or joint.hosts k d).node
hosts-at plant joint sound sections k d low =
    let size = same-size host_plan_node host_log_node plant.hosts joint.hosts sections.hosts in
    let any = item-of plant.hosts k (omega (arith, size, low)) in
    let plan = get_or plant.hosts k any in
    let there = All-contains_itself plant.hosts k any (omega (arith, size, low)) in
    at-net plant plan.network plan.node _ (host-on plant plan sound there)
    (same-node host_plan_node host_log_node plant.hosts joint.hosts sections.hosts k any d
    (omega (arith, size, low)))

-- and of all ends of bridges
sides-at : (plant : Plant) (joint : Joint) → IsPlant plant → HasSections plant joint
    → (k : ℕ) (d : BridgeLog) → k < length joint.bridges
    → IsAt plant (get_or joint.bridges k d).left × IsAt plant (get_or joint.bridges k d).right
sides-at plant joint sound sections k d low =
    let size = same-size left_of left_log plant.bridges joint.bridges sections.lefts in
    let any = item-of plant.bridges k (omega (arith, size, low)) in
    let plan = get_or plant.bridges k any in
    let there = All-contains_itself plant.bridges k any (omega (arith, size, low)) in (
      at-net plant plan.left_net plan.left _ (left-on plant plan sound there)
          (same-node left_of left_log plant.bridges joint.bridges sections.lefts k any d
          (omega (arith, size, low))),
      at-net plant plan.right_net plan.right _ (right-on plant plan sound there)
          (same-node right_of right_log plant.bridges joint.bridges sections.rights k any d
          (omega (arith, size, low))),
    )

-- a host is a member of its network
pub host-member : (plant : Plant) (plan : HostPlan) → IsPlant plant → Contains plant.hosts plan
    → IsMember (net_of plant plan.node) plan.node
host-member plant plan sound there =
    (at-net plant plan.network plan.node plan.node (host-on plant plan sound there) refl).member

pub bounds-low : (plant : Plant) (joint : Joint) → IsPlant plant → HasSections plant joint
    → All (λ (s : Bound). s.node < addresses) (bounds_of joint)
bounds-low plant joint sound sections =
    let low : Bound → Type 0 = λ (s : Bound). s.node < addresses in
    let ring = noted_on_rings joint in
    let controllers = map (controller_bound ring) joint.controllers in
    let hosts = map (host_bound ring) joint.hosts in
    All-append low (controllers ++ hosts) (flat_map (side_bounds ring) joint.bridges)
    (All-append low controllers hosts
    (All-map low (controller_bound ring) joint.controllers
    (λ k d within. (controllers-at plant joint sound sections k d within).low))
    (All-map low (host_bound ring) joint.hosts
    (λ k d within. (hosts-at plant joint sound sections k d within).low)))
    (sides-all low ring joint.bridges (λ k d within.
    let at = sides-at plant joint sound sections k d within in (at.0.low, at.1.low)))

-- as many controllers and hosts were followed as there are lists
pub controllers-sized : (plant : Plant) (scans : ℕ) (joint : Joint) (followed : Followed)
    → HasSections plant joint → IsFollowed plant scans joint followed
    → length followed.done.now ≡ length joint.controllers
controllers-sized plant scans joint followed sections is =
    is.done.size
    ∙ sym (same-size plan_node log_node plant.controllers joint.controllers sections.controllers)

pub plans-sized : (plant : Plant) (joint : Joint) → HasSections plant joint
    → length plant.hosts ≡ length joint.hosts
plans-sized plant joint sections =
    sym (same-size host_plan_node host_log_node plant.hosts joint.hosts sections.hosts)

pub hosts-sized : (plant : Plant) (scans : ℕ) (joint : Joint) (followed : Followed)
    → HasSections plant joint → IsFollowed plant scans joint followed
    → length followed.hosts_done.now ≡ length joint.hosts
hosts-sized plant scans joint followed sections is =
    is.hosts.size ∙ plans-sized plant joint sections

-- ---- one node

-- a node with its entries on the ring of its own network, and where it stands by them
pub record StandsOnOwn (plant : Plant) (rings : List RingLog) (node : ℕ) (on : Standing)
    : Type 0 where
  pub node_is : on.node ≡ node
  pub own_is : own_entries on ≡ own on.node (own_ring plant rings on.node)
  pub status : on.status ≡ status_by (own_entries on)

-- they are all of its entries
pub stands-on : (plant : Plant) (scans : ℕ) (joint : Joint) (node : ℕ) (on : Standing)
    → IsPlant plant → IsLegalJoint plant scans joint → IsStandingOf (noted_on_rings joint) node on
    → StandsOnOwn plant joint.rings node on
stands-on plant scans joint node on sound legal stands = record {
  node_is = stands.node_is;
  own_is = stands.places.own_is
      ∙ (stands.own_is
      ∙ (ap (λ (m : ℕ). own m (noted_on_rings joint)) (sym stands.node_is)
      ∙ own-ring plant scans joint on.node sound legal));
  status = stands.status;
}

-- so they are at the address of a log
own-at : (plant : Plant) (rings : List RingLog) (node at : ℕ) (on : Standing)
    → StandsOnOwn plant rings node on → at ≡ on.node
    → own_entries on ≡ own at (own_ring plant rings at)
own-at plant rings node at on stands same =
    stands.own_is ∙ ap (λ (m : ℕ). own m (own_ring plant rings m)) (sym same)

stands-at : (plant : Plant) (rings : List RingLog) (node at : ℕ) (on : Standing)
    → StandsOnOwn plant rings node on → IsAt plant at → at ≡ on.node
    → on.status ≡ admitted_status (status_at (net_of plant at) (own_ring plant rings at) at)
stands-at plant rings node at on stands is same =
    stands.status
    ∙ (ap status_by (own-at plant rings node at on stands same)
    ∙ sym (stands-by (net_of plant at) (own_ring plant rings at) at is.low is.member))

node-complete : (items : Items) (fails : ℕ) (b : List RingEntry) → items.fails ≡ fails
    → IsNodeDone (given_in items.answers) fails b → NodeIsComplete items b
node-complete items fails b count d = record {
  replied = replies-from items b d.fits;
  done = done-from (given_in items.answers) b d.fits;
  noticed = noticed-from items fails b count d.noticed;
}

complete-node : (items : Items) (fails : ℕ) (b : List RingEntry) → items.fails ≡ fails
    → NodeIsComplete items b → IsNodeDone (given_in items.answers) fails b
complete-node items fails b count c = record {
  fits = node-each items b c.replied c.done;
  noticed = notices-ended items fails b count c.noticed;
}

-- a controller and its node are complete where they were done, and the other way
log-complete : (net : NetPlan) (ring : List RingEntry) (fixed : Fixed) (log : ControllerLog)
    (status : NodeStatus) (is_done : Bool) → status ≡ admitted_status (status_at net ring log.node)
    → (is_done ≡ true → ControllerIsComplete fixed log.entries)
    → IsControllerDone fixed.scans status log is_done (own log.node ring)
    → ControllerIsCompleteOn net ring log.node fixed log.entries
log-complete net ring fixed log status is_done at whole d = (
  whole d.done,
  out-from status (status_at net ring log.node) fixed log.entries at d.out,
  node-complete (items_of log.entries) _ (own log.node ring) (fails-of log.entries) d.node,
)

complete-log : (net : NetPlan) (ring : List RingEntry) (fixed : Fixed) (log : ControllerLog)
    (status : NodeStatus) (is_done : Bool) → status ≡ admitted_status (status_at net ring log.node)
    → (ControllerIsComplete fixed log.entries → is_done ≡ true)
    → ControllerIsCompleteOn net ring log.node fixed log.entries
    → IsControllerDone fixed.scans status log is_done (own log.node ring)
complete-log net ring fixed log status is_done at whole c = record {
  done = whole c.0;
  out = out-by status (status_at net ring log.node) fixed log.entries at c.1;
  node = complete-node (items_of log.entries) _ (own log.node ring) (fails-of log.entries) c.2;
}

-- so it is with a host
host-complete : (net : NetPlan) (ring : List RingEntry) (plan : HostPlan) (log : HostLog)
    (status : NodeStatus) (is_done : Bool) → status ≡ admitted_status (status_at net ring log.node)
    → (is_done ≡ true → EndsEachCall (host_items_of log.entries))
    → IsHostNodeDone plan status log is_done (own log.node ring)
    → HostIsCompleteOn net ring log.node plan log.entries
host-complete net ring plan log status is_done at whole d = (
  record {
    answered = whole d.done;
    holds = holds-from plan (own log.node ring) d.asks;
    asked = all-from plan (own log.node ring) d.asks;
  },
  is-gone (status_at net ring log.node) (sym at ∙ d.gone),
  node-complete (host_items_of log.entries) 0 (own log.node ring)
      (host-fails no_items log.entries) d.node,
)

complete-host : (net : NetPlan) (ring : List RingEntry) (plan : HostPlan) (log : HostLog)
    (status : NodeStatus) (is_done : Bool) → status ≡ admitted_status (status_at net ring log.node)
    → (EndsEachCall (host_items_of log.entries) → is_done ≡ true)
    → HostIsCompleteOn net ring log.node plan log.entries
    → IsHostNodeDone plan status log is_done (own log.node ring)
complete-host net ring plan log status is_done at whole c = record {
  done = whole c.0.answered;
  gone = at ∙ ap admitted_status c.1;
  node =
      complete-node (host_items_of log.entries) 0 (own log.node ring)
      (host-fails no_items log.entries) c.2;
  asks = host-each plan (own log.node ring) c.0.holds c.0.asked;
}

-- and with an end of a bridge at a node
end-complete : (plant : Plant) (rings : List RingLog) (node : ℕ) (log : BridgeLog) (side : ℕ)
    (on : Standing) → StandsOnOwn plant rings node on → IsAt plant side
    → IsEndDoneOn on log.entries side → side ≡ on.node → IsCompleteSide plant rings log side
end-complete plant rings node log side on stands at done same =
    let d = done same in
    record {
      finished = d.finished;
      gone = d.gone;
      left =
          is-gone (status_at (net_of plant side) (own_ring plant rings side) side)
          (sym (stands-at plant rings node side on stands at same) ∙ d.left);
      quiet = subst LeavesQuietly (own-at plant rings node side on stands same) d.quiet;
    }

complete-end : (plant : Plant) (rings : List RingLog) (node : ℕ) (log : BridgeLog) (side : ℕ)
    (on : Standing) → StandsOnOwn plant rings node on → IsAt plant side
    → (side ≡ on.node → IsCompleteSide plant rings log side) → IsEndDoneOn on log.entries side
complete-end plant rings node log side on stands at complete same =
    let c = complete same in
    record {
      finished = c.finished;
      gone = c.gone;
      left = stands-at plant rings node side on stands at same ∙ ap admitted_status c.left;
      quiet = subst LeavesQuietly (sym (own-at plant rings node side on stands same)) c.quiet;
    }

-- all stations and all ends of bridges of an address are complete where they were done
pub at-complete : (plant : Plant) (scans : ℕ) (joint : Joint) (followed : Followed) (node : ℕ)
    (on : Standing) → IsPlant plant → HasSections plant joint
    → IsFollowed plant scans joint followed → StandsOnOwn plant joint.rings node on
    → AreControllersDone scans joint.controllers followed.done.now on.node on.status
    (own_entries on)
    → AreHostNodesDone plant.hosts joint.hosts followed.hosts_done.now on.node on.status
    (own_entries on)
    → All (AreEndsDoneOn on) joint.bridges → IsCompleteAt plant scans joint node
at-complete plant scans joint followed node on sound sections is stands controllers hosts ends =
    let rings = joint.rings in
    subst (IsCompleteAt plant scans joint) stands.node_is (record {
      controllers = λ k d low.
          let size = same-size plan_node log_node plant.controllers joint.controllers
          sections.controllers in
          let n = length-zip plant.controllers joint.controllers in
          subst (λ (of : ControllerPlan × ControllerLog). of.1.node ≡ on.node
          → IsCompleteLog plant scans rings of.0 of.1)
          (sym (get_or-zip plant.controllers joint.controllers k d (omega (arith, size, n))
          (omega (arith, size, n))))
          (λ same.
          let log = get_or joint.controllers k d.1 in
          let at = controllers-at plant joint sound sections k d.1 (omega (arith, size, n)) in
          log-complete (net_of plant log.node) (own_ring plant rings log.node)
          (fixed_of plant scans (get_or plant.controllers k d.0)) log on.status
          (get_or followed.done.now k false)
          (stands-at plant rings node log.node on stands at same)
          (is.done.each k d.0 d.1 (omega (arith, size, n))).0
          (subst (IsControllerDone scans on.status log (get_or followed.done.now k false))
          (own-at plant rings node log.node on stands same)
          (controllers k d.1 (omega (arith, size, n)) same)));
      hosts = λ k d low.
          let size = same-size host_plan_node host_log_node plant.hosts joint.hosts
          sections.hosts in
          let n = length-zip plant.hosts joint.hosts in
          subst (λ (of : HostPlan × HostLog). of.1.node ≡ on.node
          → IsCompleteHostLog plant rings of.0 of.1)
          (sym (get_or-zip plant.hosts joint.hosts k d (omega (arith, size, n))
          (omega (arith, size, n))))
          (λ same.
          let log = get_or joint.hosts k d.1 in
          let at = hosts-at plant joint sound sections k d.1 (omega (arith, size, n)) in
          host-complete (net_of plant log.node) (own_ring plant rings log.node)
          (get_or plant.hosts k d.0) log on.status (get_or followed.hosts_done.now k false)
          (stands-at plant rings node log.node on stands at same)
          (is.hosts.each k d.1 (omega (arith, size, n))).0
          (subst (IsHostNodeDone (get_or plant.hosts k d.0) on.status log
          (get_or followed.hosts_done.now k false))
          (own-at plant rings node log.node on stands same)
          (hosts k d.0 d.1 (omega (arith, size, n)) same)));
      bridges = λ k d low.
          let size = same-size left_of left_log plant.bridges joint.bridges sections.lefts in
          let n = length-zip plant.bridges joint.bridges in
          let log = get_or joint.bridges k d.1 in
          let at = sides-at plant joint sound sections k d.1 (omega (arith, size, n)) in
          let both = ends k d.1 (omega (arith, size, n)) in
          subst (λ (of : BridgePlan × BridgeLog). AreCompleteEndsAt plant rings on.node of.1)
          (sym (get_or-zip plant.bridges joint.bridges k d (omega (arith, size, n))
          (omega (arith, size, n)))) (
            end-complete plant rings node log log.left on stands at.0 both.0,
            end-complete plant rings node log log.right on stands at.1 both.1,
          );
    })

-- what holds of each pair that stands together
pair-at : {P L : Type 0} (X : P × L → Type 0) (plans : List P) (logs : List L)
    → length logs ≡ length plans → All X (zip plans logs)
    → (k : ℕ) (p : P) (g : L) → k < length plans → X (get_or plans k p, get_or logs k g)
pair-at X plans logs size all k p g low =
    let n = length-zip plans logs in
    subst X (get_or-zip plans logs k (p, g) low (omega (arith, size)))
    (all k (p, g) (omega (arith, n, size)))

-- a station was done where its node was, beside what its list gives
node-as : (P Q : List Bool) (m n : ℕ) (b : List RingEntry) → P ≡ Q → m ≡ n
    → IsNodeDone P m b → IsNodeDone Q n b
node-as P Q m n b p q d =
    subst (λ (replies : List Bool). IsNodeDone replies n b) p
    (subst (λ (fails : ℕ). IsNodeDone P fails b) q d)

pub controller-tested : (scans node : ℕ) (status : NodeStatus) (log : ControllerLog)
    (is_done done : Bool) (b : List RingEntry) (es : List Entry) (P : List Bool)
    (n : ℕ) → es ≡ log.entries → P ≡ given_in (items_of es).answers
    → n ≡ count_by is_fail es → log.node ≡ node → is_done ≡ true → IsOutBy scans status es
    → IsTrue done ↔ IsNodeDone P n b
    → IsTrue done ↔ (log.node ≡ node → IsControllerDone scans status log is_done b)
controller-tested scans node status log is_done done b es P n entries answers fails same whole out
    tested =
    let replies : P ≡ given_in (items_of log.entries).answers = answers
    ∙ ap (λ (x : List Entry). given_in (items_of x).answers) entries in
    let count : n ≡ count_by is_fail log.entries = fails ∙ ap (count_by is_fail) entries in (
      λ yes _. record {
        done = whole;
        out = subst (IsOutBy scans status) entries out;
        node = node-as P _ n _ b replies count (tested.0 yes);
      },
      λ all. tested.1 (node-as _ P _ n b (sym replies) (sym count) (all same).node),
    )

pub host-tested : (node : ℕ) (status : NodeStatus) (plan : HostPlan) (log : HostLog)
    (is_done done : Bool) (b : List RingEntry) (es : List HostEntry)
    (P : List Bool) → es ≡ log.entries
    → P ≡ given_in (host_items_of es).answers → log.node ≡ node → is_done ≡ true
    → status ≡ Gone → EachAllows (HostAllows plan) b → IsTrue done ↔ IsNodeDone P 0 b
    → IsTrue done ↔ (log.node ≡ node → IsHostNodeDone plan status log is_done b)
host-tested node status plan log is_done done b es P entries answers same whole gone asks tested =
    let replies : P ≡ given_in (host_items_of log.entries).answers = answers
    ∙ ap (λ (x : List HostEntry). given_in (host_items_of x).answers) entries in (
      λ yes _. record {
        done = whole;
        gone = gone;
        node = node-as P _ 0 0 b replies refl (tested.0 yes);
        asks = asks;
      },
      λ all. tested.1 (node-as _ P 0 0 b (sym replies) refl (all same).node),
    )

pub end-tested : (node side : ℕ) (status : NodeStatus) (list : List BridgeEntry)
    (b : List RingEntry) (done : Bool) → status ≡ Gone → Contains list (bridge_entries.Gone side)
    → LeavesQuietly b → side ≡ node → IsTrue done ↔ EndsEachCall (side_items side list)
    → IsTrue done ↔ (side ≡ node → IsEndDone status list side b)
end-tested node side status list b done left gone quiet same tested = (
  λ yes _. record { finished = tested.0 yes; gone = gone; left = left; quiet = quiet },
  λ all. tested.1 (all same).finished,
)

-- hosts so far, and one more
pub hosts-more : (plans : List HostPlan) (logs : List HostLog) (done : List Bool) (node : ℕ)
    (status : NodeStatus) (b : List RingEntry) (i : ℕ) (p : HostPlan) (g : HostLog)
    → ((k : ℕ) (q : HostPlan) (d : HostLog) → k < i → (get_or logs k d).node ≡ node
    → IsHostNodeDone (get_or plans k q) status (get_or logs k d) (get_or done k false) b)
    → i < length plans → i < length logs → p ≡ get_or plans i p → g ≡ get_or logs i g
    → (g.node ≡ node → IsHostNodeDone p status g (get_or done i false) b)
    → (k : ℕ) (q : HostPlan) (d : HostLog) → k < i + 1 → (get_or logs k d).node ≡ node
    → IsHostNodeDone (get_or plans k q) status (get_or logs k d) (get_or done k false) b
hosts-more plans logs done node status b i p g before low-p low-g is-p is-g here k q d below same =
    ⊎_elim (λ (l : k < i). before k q d l same)
    (λ (l : i ≤ k).
    let e : i ≡ k = omega arith in
    let log : g ≡ get_or logs i d = is-g ∙ get_or_default logs i g d low-g in
    let plan : p ≡ get_or plans i q = is-p ∙ get_or_default plans i p q low-p in
    let mine : g.node ≡ node = ap host_log_node log
    ∙ (ap (λ (n : ℕ). (get_or logs n d).node) e ∙ same) in
    subst (λ (n : ℕ). IsHostNodeDone (get_or plans n q) status (get_or logs n d)
    (get_or done n false) b) e
    (subst (λ (x : HostLog). IsHostNodeDone (get_or plans i q) status x (get_or done i false) b)
    log
    (subst (λ (x : HostPlan). IsHostNodeDone x status g (get_or done i false) b) plan
    (here mine))))
    (cases_lt k i)

-- controllers so far, and one more
pub controllers-more : (scans : ℕ) (logs : List ControllerLog) (done : List Bool) (node : ℕ)
    (status : NodeStatus) (b : List RingEntry) (i : ℕ) (g : ControllerLog)
    → ((k : ℕ) (d : ControllerLog) → k < i → (get_or logs k d).node ≡ node
    → IsControllerDone scans status (get_or logs k d) (get_or done k false) b)
    → i < length logs → g ≡ get_or logs i g
    → (g.node ≡ node → IsControllerDone scans status g (get_or done i false) b)
    → (k : ℕ) (d : ControllerLog) → k < i + 1 → (get_or logs k d).node ≡ node
    → IsControllerDone scans status (get_or logs k d) (get_or done k false) b
controllers-more scans logs done node status b i g before low is here k d below same =
    ⊎_elim (λ (l : k < i). before k d l same)
    (λ (l : i ≤ k).
    let e : i ≡ k = omega arith in
    let log : g ≡ get_or logs i d = is ∙ get_or_default logs i g d low in
    let mine : g.node ≡ node = ap log_node log
    ∙ (ap (λ (n : ℕ). (get_or logs n d).node) e ∙ same) in
    subst (λ (n : ℕ). IsControllerDone scans status (get_or logs n d) (get_or done n false) b) e
    (subst (λ (x : ControllerLog). IsControllerDone scans status x (get_or done i false) b) log
    (here mine)))
    (cases_lt k i)

-- and they were done where they are complete
pub controllers-done : (plant : Plant) (scans : ℕ) (joint : Joint) (followed : Followed)
    (node : ℕ) (on : Standing) → IsPlant plant → HasSections plant joint
    → IsFollowed plant scans joint followed → StandsOnOwn plant joint.rings node on
    → IsCompleteAt plant scans joint node
    → AreControllersDone scans joint.controllers followed.done.now on.node on.status
    (own_entries on)
controllers-done plant scans joint followed node on sound sections is stands complete k d low
    same =
    let rings = joint.rings in
    let size = same-size plan_node log_node plant.controllers joint.controllers
    sections.controllers in
    let plan = item-of plant.controllers k (omega (arith, size)) in
    let log = get_or joint.controllers k d in
    let pair = pair-at (λ of. of.1.node ≡ node → IsCompleteLog plant scans rings of.0 of.1)
    plant.controllers joint.controllers size complete.controllers k plan d
    (omega (arith, size)) (same ∙ stands.node_is) in
    let at = controllers-at plant joint sound sections k d low in
    subst (IsControllerDone scans on.status log (get_or followed.done.now k false))
    (sym (own-at plant rings node log.node on stands same))
    (complete-log (net_of plant log.node) (own_ring plant rings log.node)
    (fixed_of plant scans (get_or plant.controllers k plan)) log on.status
    (get_or followed.done.now k false) (stands-at plant rings node log.node on stands at same)
    (is.done.each k plan d (omega (arith, size))).1 pair)

pub hosts-done : (plant : Plant) (scans : ℕ) (joint : Joint) (followed : Followed) (node : ℕ)
    (on : Standing) → IsPlant plant → HasSections plant joint
    → IsFollowed plant scans joint followed → StandsOnOwn plant joint.rings node on
    → IsCompleteAt plant scans joint node
    → AreHostNodesDone plant.hosts joint.hosts followed.hosts_done.now on.node on.status
    (own_entries on)
hosts-done plant scans joint followed node on sound sections is stands complete k p d low same =
    let rings = joint.rings in
    let size = same-size host_plan_node host_log_node plant.hosts joint.hosts sections.hosts in
    let log = get_or joint.hosts k d in
    let pair = pair-at (λ of. of.1.node ≡ node → IsCompleteHostLog plant rings of.0 of.1)
    plant.hosts joint.hosts size complete.hosts k p d (omega (arith, size))
    (same ∙ stands.node_is) in
    let at = hosts-at plant joint sound sections k d low in
    subst (IsHostNodeDone (get_or plant.hosts k p) on.status log
    (get_or followed.hosts_done.now k false))
    (sym (own-at plant rings node log.node on stands same))
    (complete-host (net_of plant log.node) (own_ring plant rings log.node)
    (get_or plant.hosts k p) log on.status (get_or followed.hosts_done.now k false)
    (stands-at plant rings node log.node on stands at same)
    (is.hosts.each k d (omega (arith, size))).1 pair)

pub ends-done : (plant : Plant) (scans : ℕ) (joint : Joint) (node : ℕ) (on : Standing)
    → IsPlant plant → HasSections plant joint → StandsOnOwn plant joint.rings node on
    → IsCompleteAt plant scans joint node → All (AreEndsDoneOn on) joint.bridges
ends-done plant scans joint node on sound sections stands complete k d low =
    let rings = joint.rings in
    let size = same-size left_of left_log plant.bridges joint.bridges sections.lefts in
    let plan = item-of plant.bridges k (omega (arith, size)) in
    let log = get_or joint.bridges k d in
    let pair = pair-at (λ of. AreCompleteEndsAt plant rings node of.1) plant.bridges
    joint.bridges size complete.bridges k plan d (omega (arith, size)) in
    let at = sides-at plant joint sound sections k d low in (
      complete-end plant rings node log log.left on stands at.0
          (λ same. pair.0 (same ∙ stands.node_is)),
      complete-end plant rings node log log.right on stands at.1
          (λ same. pair.1 (same ∙ stands.node_is)),
    )

-- ---- all

pub all-complete : (plant : Plant) (scans : ℕ) (joint : Joint) → IsPlant plant
    → HasSections plant joint
    → ((n : ℕ) → n < addresses → IsCompleteAt plant scans joint n)
    → IsComplete plant scans joint
all-complete plant scans joint sound sections each = record {
  controllers =
      let size = same-size plan_node log_node plant.controllers joint.controllers
      sections.controllers in
      zip-all (IsCompleteLog plant scans joint.rings) plant.controllers
      joint.controllers size
      (λ k p g low.
      let node = (get_or joint.controllers k g).node in
      let at = each node
      (controllers-at plant joint sound sections k g (omega (arith, size))).low in
      pair-at (λ of. of.1.node ≡ node → IsCompleteLog plant scans joint.rings of.0 of.1)
      plant.controllers joint.controllers size at.controllers k p g low refl);
  hosts =
      let size = same-size host_plan_node host_log_node plant.hosts joint.hosts sections.hosts in
      zip-all (IsCompleteHostLog plant joint.rings) plant.hosts joint.hosts size
      (λ k p g low.
      let node = (get_or joint.hosts k g).node in
      let at = each node (hosts-at plant joint sound sections k g (omega (arith, size))).low in
      pair-at (λ of. of.1.node ≡ node → IsCompleteHostLog plant joint.rings of.0 of.1)
      plant.hosts joint.hosts size at.hosts k p g low refl);
  bridges =
      let size = same-size left_of left_log plant.bridges joint.bridges sections.lefts in
      zip-all (IsCompleteBridgeLog plant joint.rings) plant.bridges joint.bridges size
      (λ k p g low.
      let log = get_or joint.bridges k g in
      let are = sides-at plant joint sound sections k g (omega (arith, size)) in (
        (pair-at (λ of. AreCompleteEndsAt plant joint.rings log.left of.1)
            plant.bridges joint.bridges size (each log.left are.0.low).bridges k p g low).0 refl,
        (pair-at (λ of. AreCompleteEndsAt plant joint.rings log.right of.1)
            plant.bridges joint.bridges size (each log.right are.1.low).bridges k p g low).1 refl,
      ));
}
