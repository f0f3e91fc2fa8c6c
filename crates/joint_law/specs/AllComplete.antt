-- Which stations and which ends of bridges were done. This project's own.
use Rattle.std.specs.Prelude.{◌≡◌, ℕ, ◌<◌, Bool, true, false, List, [], ◌∷◌, get_or, length}
use Rattle.std.specs.Prelude.{count_by, Contains, Option, Some, None}
use Rattle.plant_types.specs.declared.net.HostPlan.{HostPlan}
use Rattle.plant_types.specs.declared.plan.Plant.{Plant}
use Rattle.ring_core.specs.Machine.{addresses}
use Rattle.ring_core.specs.declared.entry.RingEntry.{RingEntry}
use Rattle.ring_core.specs.declared.status.NodeStatus.{NodeStatus}
use Rattle.ring_core.specs.declared.status.NodeStatus.TheVariants.{In, Away, Asking, Gone}
use Rattle.controller_core.specs.declared.entry.Entry.{Entry}
use Rattle.controller_core.specs.declared.entry.Entry.TheVariants.{Begin, Fail}
use Rattle.tied_lists.specs.Own.{own}
use Rattle.bridge_relay.specs.declared.entry.BridgeEntry.{BridgeEntry}
use Rattle.bridge_relay.specs.declared.entry.BridgeEntry.TheVariants as bridge_entries
use Rattle.joint_history.specs.declared.joint.BridgeLog.{BridgeLog}
use Rattle.joint_history.specs.declared.joint.ControllerLog.{ControllerLog}
use Rattle.joint_history.specs.declared.joint.HostLog.{HostLog}
use Rattle.joint_history.specs.declared.joint.Joint.{Joint}
use Rattle.joint_history.specs.Bridges.{side_items}
use Rattle.joint_history.specs.Complete.{EndsEachCall, LeavesQuietly, is_scan_end}
use Rattle.joint_history.specs.Reading.{host_items_of, items_of}
use Rattle.net_laws.specs.Standing.{status_by}
use Rattle.joint_law.specs.AllCourses.{AreDone, AreHostsDone}
use Rattle.list_courses.specs.Completing.{EachAllows, HasNoticed, HostAllows, NodeAllows}
use Rattle.list_courses.specs.Completing.{given_in}
use Rattle.station_laws.specs.Failing.{is_fail}
use Rattle.station_laws.specs.Picked.{AreOfNode, picked}
use Rattle.joint_law.specs.Spots.{IsCompleteAt}
use Rattle.joint_law.specs.declared.complete.Followed.{Followed}
use Rattle.joint_law.specs.declared.complete.Standing.{Standing}

-- What following all lists has shown is so.
pub record IsFollowed (plant : Plant) (scans : ℕ) (joint : Joint) (followed : Followed)
    : Type 0 where
  pub done : AreDone plant scans joint followed.done.now
  pub hosts : AreHostsDone plant joint followed.hosts_done.now

-- The entries of a node on its ring.
abbrev pub own_entries : Standing → List RingEntry
own_entries on = picked on.ring.now on.places.now

-- A node with its entries on its ring, which are all of its entries among these, and where it
-- stands by them if it is a member.
pub record IsStandingOf (noted : List RingEntry) (node : ℕ) (on : Standing) : Type 0 where
  pub node_is : on.node ≡ node
  pub places : AreOfNode on.ring.now node on.places.now
  pub own_is : own node on.ring.now ≡ own node noted
  pub status : on.status ≡ status_by (own_entries on)

-- A node was done on the ring, whose station's answers have replies or not, and which lost its
-- power so often.
pub record IsNodeDone (given : List Bool) (fails : ℕ) (b : List RingEntry) : Type 0 where
  pub fits : EachAllows (NodeAllows given) b
  pub noticed : HasNoticed fails b

-- Whether there is power after an entry.
abbrev pub powered_next : Bool → Entry → Bool
powered_next powered Begin = true
powered_next powered Fail = false
powered_next powered _ = powered

-- Whether there is power after some entries.
abbrev pub powered_from : Bool → List Entry → Bool
powered_from powered [] = powered
powered_from powered (e ∷ es) = powered_from (powered_next powered e) es

-- All scans of a controller are gone, and there is no power.
pub record IsWithoutPower (scans : ℕ) (entries : List Entry) : Type 0 where
  pub scans_gone : count_by is_scan_end entries ≡ scans
  pub off : powered_from true entries ≡ false

-- A controller with these entries is out of the ring: its node is gone, or it is away and stays
-- without power.
abbrev pub IsOutBy : ℕ → NodeStatus → List Entry → Type 0
IsOutBy scans In entries = ⊥
IsOutBy scans Away entries = IsWithoutPower scans entries
IsOutBy scans Asking entries = ⊥
IsOutBy scans Gone entries = Unit {0}

-- A controller was done, and its node on the ring.
pub record IsControllerDone (scans : ℕ) (status : NodeStatus) (log : ControllerLog)
    (is_done : Bool) (b : List RingEntry) : Type 0 where
  pub done : is_done ≡ true
  pub out : IsOutBy scans status log.entries
  pub node : IsNodeDone (given_in (items_of log.entries).answers) (count_by is_fail log.entries) b

-- A host was done, its node on the ring, and it asked nothing too early.
pub record IsHostNodeDone (plan : HostPlan) (status : NodeStatus) (log : HostLog)
    (is_done : Bool) (b : List RingEntry) : Type 0 where
  pub done : is_done ≡ true
  pub gone : status ≡ Gone
  pub node : IsNodeDone (given_in (host_items_of log.entries).answers) 0 b
  pub asks : EachAllows (HostAllows plan) b

-- An end of a bridge was done: each call that it sent on has ended, once, and it left for good, in
-- its bridge's list and on the ring, where it was quiet before and stayed so.
pub record IsEndDone (status : NodeStatus) (list : List BridgeEntry) (side : ℕ)
    (b : List RingEntry) : Type 0 where
  pub finished : EndsEachCall (side_items side list)
  pub gone : Contains list (bridge_entries.Gone side)
  pub left : status ≡ Gone
  pub quiet : LeavesQuietly b

-- Each controller of a node was done, and its node on the ring.
abbrev pub AreControllersDone : ℕ → List ControllerLog → List Bool → ℕ → NodeStatus
    → List RingEntry → Type 0
AreControllersDone scans logs done node status b = (k : ℕ) (d : ControllerLog) → k < length logs
    → (get_or logs k d).node ≡ node
    → IsControllerDone scans status (get_or logs k d) (get_or done k false) b

-- Each host of a node was done, its node on the ring, and it asked nothing too early.
abbrev pub AreHostNodesDone : List HostPlan → List HostLog → List Bool → ℕ → NodeStatus
    → List RingEntry → Type 0
AreHostNodesDone plans logs done node status b = (k : ℕ) (p : HostPlan) (d : HostLog)
    → k < length logs → (get_or logs k d).node ≡ node
    → IsHostNodeDone (get_or plans k p) status (get_or logs k d) (get_or done k false) b

-- A controller was done, and its node on the ring, if it is this node.
abbrev pub IsControllerDoneOn : ℕ → Standing → ControllerLog → Bool → Type 0
IsControllerDoneOn scans on log is_done = log.node ≡ on.node
    → IsControllerDone scans on.status log is_done (own_entries on)

-- Each controller of this node was done.
abbrev pub AreControllersDoneOn : ℕ → Standing → List ControllerLog → List Bool → Type 0
AreControllersDoneOn scans on logs done =
    AreControllersDone scans logs done on.node on.status (own_entries on)

-- A host was done, its node on the ring, and it asked nothing too early, if it is this node.
abbrev pub IsHostNodeDoneOn : HostPlan → Standing → HostLog → Bool → Type 0
IsHostNodeDoneOn plan on log is_done = log.node ≡ on.node
    → IsHostNodeDone plan on.status log is_done (own_entries on)

-- Each host of this node was done.
abbrev pub AreHostNodesDoneOn : List HostPlan → Standing → List HostLog → List Bool → Type 0
AreHostNodesDoneOn plans on logs done =
    AreHostNodesDone plans logs done on.node on.status (own_entries on)

-- An end of a bridge was done, if it is this node.
abbrev pub IsEndDoneOn : Standing → List BridgeEntry → ℕ → Type 0
IsEndDoneOn on list side = side ≡ on.node → IsEndDone on.status list side (own_entries on)

-- Each end of a bridge was done, if it is this node.
abbrev pub AreEndsDoneOn : Standing → BridgeLog → Type 0
AreEndsDoneOn on log =
    IsEndDoneOn on log.entries log.left × IsEndDoneOn on log.entries log.right

-- The first address at which not all is complete; none where all is.
abbrev pub IsFirstIncomplete : Plant → ℕ → Joint → Option ℕ → Type 0
IsFirstIncomplete plant scans joint None =
    (n : ℕ) → n < addresses → IsCompleteAt plant scans joint n
IsFirstIncomplete plant scans joint (Some node) =
    ((n : ℕ) → n < node → IsCompleteAt plant scans joint n)
    × (IsCompleteAt plant scans joint node → ⊥)
