-- What is done where a run is over. This project's own.
use Rattle.std.specs.Prelude.{◌≡◌, ◌≢◌, ◌⊎◌, ℕ, ◌+◌, ◌≤◌, Bool, true, false, List, ◌∷◌, ◌++◌}
use Rattle.std.specs.Prelude.{length, Some, Contains}
use Rattle.std.specs.List.{All, AllZip, count_by, slice_get}
use Rattle.mstr_block.specs.Call.{is_same_call}
use Rattle.plant_types.specs.declared.net.NetPlan.{NetPlan}
use Rattle.plant_types.specs.declared.net.HostAsk.{HostAsk}
use Rattle.plant_types.specs.declared.net.HostPlan.{HostPlan}
use Rattle.plant_types.specs.declared.net.BridgePlan.{BridgePlan}
use Rattle.plant_types.specs.declared.plan.ControllerPlan.{ControllerPlan}
use Rattle.plant_types.specs.declared.plan.Plant.{Plant}
use Rattle.plant_types.specs.Plans.{net_of}
use Rattle.ring_core.specs.declared.frame.FrameKind.TheVariants.{Request, Reply}
use Rattle.ring_core.specs.declared.frame.Frame.{Frame}
use Rattle.ring_core.specs.declared.entry.RingEntry.{RingEntry}
use Rattle.ring_core.specs.declared.entry.RingEntry.TheVariants.{Post, Local, GiveUp, Pass, Leave}
use Rattle.ring_core.specs.declared.entry.LeaveCause.TheVariants.{Ended as AllDone}
use Rattle.ring_core.specs.declared.status.NodeStatus.TheVariants.{Away, Gone}
use Rattle.tied_lists.specs.Own.{own}
use Rattle.tied_lists.specs.Items.{Called, Ended, Items, asked_by, replied_by, taken_by}
use Rattle.tied_lists.specs.Items.{due_replies, replies_in, port_answers, latest_down}
use Rattle.tied_lists.specs.Waits.{status_at}
use Rattle.controller_core.specs.declared.fixed.Fixed.{Fixed}
use Rattle.controller_core.specs.declared.entry.Entry.{Entry}
use Rattle.controller_core.specs.declared.entry.Entry.TheVariants.{End, Fail, Dark}
use Rattle.controller_core.specs.Replay.{replay}
use Rattle.host_port.specs.declared.entry.HostEntry.{HostEntry}
use Rattle.bridge_relay.specs.declared.entry.BridgeEntry.{BridgeEntry}
use Rattle.bridge_relay.specs.declared.entry.BridgeEntry.TheVariants as entries
use Rattle.joint_history.specs.declared.joint.ControllerLog.{ControllerLog}
use Rattle.joint_history.specs.declared.joint.HostLog.{HostLog}
use Rattle.joint_history.specs.declared.joint.BridgeLog.{BridgeLog}
use Rattle.joint_history.specs.declared.joint.RingLog.{RingLog}
use Rattle.joint_history.specs.declared.joint.Joint.{Joint}
use Rattle.joint_history.specs.JointLaws.{fixed_of}
use Rattle.joint_history.specs.Nets.{own_ring}
use Rattle.joint_history.specs.Bridges.{side_items}
use Rattle.joint_history.specs.Reading.{items_of, host_items_of, has_started_at}

-- Each call that a station made has ended, once.
abbrev pub EndsEachCall : Items → Type 0
EndsEachCall items = All
    (λ (call : Called). count_by (λ (end : Ended). is_same_call end.id call.id) items.ends ≡ 1)
    items.calls

-- The last event of a scan, with which it is gone: it ended, power failed in it, or it was dark.
abbrev pub is_scan_end : Entry → Bool
is_scan_end End = true
is_scan_end Fail = true
is_scan_end Dark = true
is_scan_end _ = false

-- All scans of a controller are gone, or it has stopped; each call that its blocks started was
-- handed on, and has ended once.
pub record ControllerIsComplete (fixed : Fixed) (entries : List Entry) : Type 0 where
  pub scans : (count_by is_scan_end entries ≡ fixed.scans) ⊎ ((replay fixed entries).stop ≢ 0)
  pub collected : has_started_at fixed entries ≡ false
  pub finished : EndsEachCall (items_of entries)

-- An entry stands in a list, after these and before those.
abbrev pub StandsIn : List RingEntry → List RingEntry → RingEntry → List RingEntry → Type 0
StandsIn list before entry after = list ≡ before ++ entry ∷ after

-- A Pass.
abbrev pub is_pass : RingEntry → Bool
is_pass (Pass n done words) = true
is_pass _ = false

-- A host asked nothing before the hold that its plan says: it had passed the token on often
-- enough. Its requests are posted in their order.
abbrev pub AsksInItsHolds : HostPlan → List RingEntry → Type 0
AsksInItsHolds plan ring = (before after : List RingEntry) (n : ℕ) (frame : Frame) (ask : HostAsk)
    → StandsIn ring before (Post n frame) after → frame.kind ≡ Request
    → slice_get plan.requests (length (asked_by before)) ≡ Some ask
    → ask.hold ≤ 1 + count_by is_pass before

-- A host had asked all of its requests before it said that it was done.
abbrev pub AsksAllBeforeDone : HostPlan → List RingEntry → Type 0
AsksAllBeforeDone plan ring = (before after : List RingEntry) (n : ℕ) (words : List ℕ)
    → StandsIn ring before (Pass n true words) after
    → length (asked_by before) ≡ length plan.requests

-- A host, by its list and its node's entries on the ring: each of its requests was answered once.
pub record HostIsComplete (plan : HostPlan) (items : Items) (ring : List RingEntry)
    : Type 0 where
  pub answered : EndsEachCall items
  pub holds : AsksInItsHolds plan ring
  pub asked : AsksAllBeforeDone plan ring

-- How many Replies are due for the Requests that a node took before, by all answers that its
-- station and its port gave.
abbrev pub replies_due : Items → List RingEntry → List RingEntry → ℕ
replies_due items ring before =
    length (due_replies (taken_by before) (replies_in items.answers)
    (replies_in (port_answers ring)))

-- Whenever a node passed the token on it had posted the Replies that were due for all that it took.
abbrev pub RepliesBeforePasses : Items → List RingEntry → Type 0
RepliesBeforePasses items ring = (before after : List RingEntry) (n : ℕ) (done : Bool)
    (words : List ℕ) → StandsIn ring before (Pass n done words) after
    → length (replied_by before) ≡ replies_due items ring before

-- A node that is done asks nothing more, gives nothing up, and goes on saying so.
abbrev pub IsOfDone : RingEntry → Type 0
IsOfDone (Post n frame) = frame.kind ≡ Reply
IsOfDone (GiveUp id word) = ⊥
IsOfDone (Local n id op result) = id.node ≢ n
IsOfDone (Pass n done words) = done ≡ true
IsOfDone _ = Unit {0}

-- After each Pass that said done a node asks nothing more, gives nothing up, and goes on saying so.
abbrev pub StaysDone : List RingEntry → Type 0
StaysDone ring = (before after : List RingEntry) (n : ℕ) (words : List ℕ)
    → StandsIn ring before (Pass n true words) after → All IsOfDone after

-- Where a node left as all was done it had noticed each power failure of its station.
abbrev pub NoticesFailures : Items → List RingEntry → Type 0
NoticesFailures items ring =
    (n : ℕ) → Contains ring (Leave n AllDone) → items.fails ≡ latest_down ring

-- A node's entries on the ring are complete, beside the items of its station: it had replied to all
-- before each Pass, once it said that it was done it stayed so, and it noticed each power failure.
pub record NodeIsComplete (items : Items) (ring : List RingEntry) : Type 0 where
  pub replied : RepliesBeforePasses items ring
  pub done : StaysDone ring
  pub noticed : NoticesFailures items ring

-- All scans of a controller are gone, and there is no power.
pub record StaysOff (fixed : Fixed) (entries : List Entry) : Type 0 where
  pub scans : count_by is_scan_end entries ≡ fixed.scans
  pub off : (replay fixed entries).powered ≡ false

-- A controller is out of the ring: its node is gone, or it is away and stays without power.
abbrev pub ControllerIsOut : NetPlan → List RingEntry → ℕ → Fixed → List Entry → Type 0
ControllerIsOut net ring node fixed entries =
    (status_at net ring node ≡ Gone)
    ⊎ ((status_at net ring node ≡ Away) × StaysOff fixed entries)

-- A controller with its node on a ring is complete: the node is out of it, too.
abbrev pub ControllerIsCompleteOn : NetPlan → List RingEntry → ℕ → Fixed → List Entry → Type 0
ControllerIsCompleteOn net ring node fixed entries =
    ControllerIsComplete fixed entries × ControllerIsOut net ring node fixed entries
    × NodeIsComplete (items_of entries) (own node ring)

-- A host with its node on a ring is complete: the node is gone from it, too.
abbrev pub HostIsCompleteOn : NetPlan → List RingEntry → ℕ → HostPlan → List HostEntry → Type 0
HostIsCompleteOn net ring node plan entries =
    HostIsComplete plan (host_items_of entries) (own node ring)
    × (status_at net ring node ≡ Gone)
    × NodeIsComplete (host_items_of entries) (own node ring)

-- The list of a controller and its node are complete, on the ring of its own network.
abbrev pub IsCompleteLog : Plant → ℕ → List RingLog → ControllerPlan → ControllerLog → Type 0
IsCompleteLog plant scans rings plan log =
    ControllerIsCompleteOn (net_of plant log.node) (own_ring plant rings log.node) log.node
    (fixed_of plant scans plan) log.entries

-- The list of a host and its node are complete, on the ring of its own network.
abbrev pub IsCompleteHostLog : Plant → List RingLog → HostPlan → HostLog → Type 0
IsCompleteHostLog plant rings plan log =
    HostIsCompleteOn (net_of plant log.node) (own_ring plant rings log.node) log.node plan
    log.entries

-- An end of a bridge asks nothing and gives nothing up.
abbrev pub IsQuiet : RingEntry → Type 0
IsQuiet (Post n frame) = frame.kind ≡ Reply
IsQuiet (GiveUp id word) = ⊥
IsQuiet (Local n id op result) = id.node ≢ n
IsQuiet _ = Unit {0}

-- A Pass, if it is one, says done.
abbrev pub SaysDone : RingEntry → Type 0
SaysDone (Pass n done words) = done ≡ true
SaysDone _ = Unit {0}

-- Where an end left as all was done it was quiet from the first of the done Passes on that stand in
-- an unbroken row before, and stayed so after its Leave.
abbrev pub LeavesQuietly : List RingEntry → Type 0
LeavesQuietly ring = (before between after : List RingEntry) (n m : ℕ) (words : List ℕ)
    → StandsIn ring (before ++ Pass m true words ∷ between) (Leave n AllDone) after
    → All SaysDone between → All IsQuiet between × All IsQuiet after

-- An end of a bridge is complete: each call that it sent on has ended, once, it has left for good,
-- in its bridge's list and on the ring, and it was quiet before and stayed so.
pub record EndIsComplete (net : NetPlan) (ring : List RingEntry) (list : List BridgeEntry)
    (side : ℕ) : Type 0 where
  pub finished : EndsEachCall (side_items side list)
  pub gone : Contains list (entries.Gone side)
  pub left : status_at net ring side ≡ Gone
  pub quiet : LeavesQuietly (own side ring)

-- An end of a bridge is, on the ring of its own network.
abbrev pub IsCompleteSide : Plant → List RingLog → BridgeLog → ℕ → Type 0
IsCompleteSide plant rings log side =
    EndIsComplete (net_of plant side) (own_ring plant rings side) log.entries side

-- A bridge's list is complete: at each of its two ends it is, on the ring of that end's network.
abbrev pub IsCompleteBridgeLog : Plant → List RingLog → BridgePlan → BridgeLog → Type 0
IsCompleteBridgeLog plant rings plan log =
    IsCompleteSide plant rings log log.left × IsCompleteSide plant rings log log.right

-- A run is complete: all stations and all bridges are.
pub record IsComplete (plant : Plant) (scans : ℕ) (joint : Joint) : Type 0 where
  pub controllers : AllZip (IsCompleteLog plant scans joint.rings) plant.controllers
      joint.controllers
  pub hosts : AllZip (IsCompleteHostLog plant joint.rings) plant.hosts joint.hosts
  pub bridges : AllZip (IsCompleteBridgeLog plant joint.rings) plant.bridges joint.bridges
