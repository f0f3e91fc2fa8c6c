-- What the lists of a station keep from turn to turn. This project's own.
use Rattle.std.specs.Prelude.{◌≡◌, ℕ, Bool, true, false, List, [], Some}
use Rattle.std.specs.List.{All, Contains}
use Rattle.plant_types.specs.declared.net.NetPlan.{NetPlan}
use Rattle.plant_types.specs.declared.net.HostPlan.{HostPlan}
use Rattle.plant_types.specs.declared.plan.ControllerPlan.{ControllerPlan}
use Rattle.plant_types.specs.declared.plan.Plant.{Plant}
use Rattle.mstr_block.specs.declared.call.CallId.{CallId}
use Rattle.ring_core.specs.declared.frame.Frame.{Frame}
use Rattle.ring_core.specs.declared.entry.LeaveCause.{LeaveCause}
use Rattle.ring_core.specs.declared.entry.LeaveCause.TheVariants.{Ended, Spent, Down}
use Rattle.ring_core.specs.declared.entry.LocalOp.{LocalOp}
use Rattle.ring_core.specs.declared.entry.RingEntry.{RingEntry}
use Rattle.ring_core.specs.declared.entry.RingEntry.TheVariants.{Pass, Leave}
use Rattle.ring_core.specs.declared.status.NodeStatus.{NodeStatus}
use Rattle.ring_core.specs.declared.status.NodeStatus.TheVariants.{In, Away, Asking, Gone}
use Rattle.controller_core.specs.declared.fixed.Fixed.{Fixed}
use Rattle.controller_core.specs.declared.entry.Entry.{Entry}
use Rattle.controller_core.specs.Controller.{IsLegal}
use Rattle.host_port.specs.declared.entry.HostEntry.{HostEntry}
use Rattle.host_port.specs.Calls.{unanswered_in}
use Rattle.host_port.specs.Host.{host_is_done}
use Rattle.host_port.specs.Legal.{IsHostHistory}
use Rattle.tied_lists.specs.Own.{own}
use Rattle.tied_lists.specs.Items.{Items, AController, AHost, LocalCall, latest_down}
use Rattle.tied_lists.specs.Tied.{Tied}
use Rattle.tied_lists.specs.Calls.{IsOut, IsOutAs}
use Rattle.tied_lists.specs.Waits.{HasLeft, IsOnRing, status_at, waiting}
use Rattle.comm_port.specs.declared.turn_end.TurnEnd.{TurnEnd}
use Rattle.comm_port.specs.declared.turn_end.TurnEnd.TheVariants as ends
use Rattle.comm_port.specs.Parts.{calls_waiting}
use Rattle.joint_history.specs.declared.joint.ControllerLog.{ControllerLog}
use Rattle.joint_history.specs.declared.joint.HostLog.{HostLog}
use Rattle.joint_history.specs.JointLaws.{fixed_of}
use Rattle.joint_history.specs.Reading.{items_of, host_items_of, has_ended_at, has_started_at}
use Rattle.joint_history.specs.Reading.{is_off_at}
use Rattle.joint_history.specs.Complete.{EndsEachCall, StandsIn, RepliesBeforePasses, StaysDone}
use Rattle.joint_history.specs.Complete.{AsksInItsHolds, AsksAllBeforeDone}
use Rattle.time_laws.specs.InTime.{StaysInTime, HostStaysInTime}

-- ---- Where a node stands.

-- A node is out of the ring: it is gone; or it is away, and this keeps it away.
abbrev pub is_out_of_ring : Bool → NodeStatus → Bool
is_out_of_ring stays In = false
is_out_of_ring stays Away = stays
is_out_of_ring stays Asking = false
is_out_of_ring stays Gone = true

-- A turn that ended so left the node out of the ring.
abbrev pub leaves_out : TurnEnd → Bool
leaves_out ends.Passed = false
leaves_out ends.Left = true
leaves_out ends.Away = true
leaves_out ends.Asking = false

-- ---- Controllers.

-- A controller and its node between two turns: both lists are legal and tied, and each Request
-- that a path waits for is of a call that was made and has not ended.
pub record StandsTied (fixed : Fixed) (net : NetPlan) (n : ℕ) (entries : List Entry)
    (ring : List RingEntry) : Type 0 where
  pub node : fixed.plan.node ≡ n
  pub legal : IsLegal fixed entries
  pub on : IsOnRing net ring n
  pub tied : Tied AController (items_of entries) (own n ring)
  pub waits : (path : ℕ) (frame : Frame) → waiting path (own n ring) ≡ Some frame
      → IsOut (items_of entries) frame.id

-- A Pass of a node said that its station was done.
pub record SaidDone (own_list : List RingEntry) : Type 0 where
  pub before : List RingEntry
  pub after : List RingEntry
  pub node : ℕ
  pub words : List ℕ
  pub stands : StandsIn own_list before (Pass node true words) after

-- A controller is done: its scans have ended, each call that its blocks started was collected, and
-- each that was collected has ended.
pub record IsDone (fixed : Fixed) (entries : List Entry) : Type 0 where
  pub ended : has_ended_at fixed entries ≡ true
  pub collected : has_started_at fixed entries ≡ false
  pub finished : EndsEachCall (items_of entries)

-- No operation at home is open.
abbrev pub DidAtHome : Items → Type 0
DidAtHome items = (id : CallId) (op : LocalOp) → IsOutAs items id (LocalCall op) → ⊥

-- A node has left, and none of its calls waits.
pub record IsGone (net : NetPlan) (n : ℕ) (ring : List RingEntry) : Type 0 where
  pub left : HasLeft net ring n
  pub idle : calls_waiting n ring ≡ []

-- A controller ended with its node: its scans are gone, and each of its failures is noticed.
pub record EndedNoticed (fixed : Fixed) (entries : List Entry) (own_list : List RingEntry)
    : Type 0 where
  pub ended : has_ended_at fixed entries ≡ true
  pub noticed : (items_of entries).fails ≡ latest_down own_list

-- What a complete run says of a node's Passes holds so far; once a Pass said done the controller
-- is; where the node left as all was done its controller ended with it; each operation at home that
-- was collected has ended; of a node that left no call waits; and nothing came before its cause.
pub record KeepsOn (fixed : Fixed) (net : NetPlan) (n : ℕ) (entries : List Entry)
    (ring : List RingEntry) (left : Bool) : Type 0 where
  pub replied : RepliesBeforePasses (items_of entries) (own n ring)
  pub stays : StaysDone (own n ring)
  pub said : SaidDone (own n ring) → IsDone fixed entries
  pub noticed : (m : ℕ) → Contains (own n ring) (Leave m Ended)
      → EndedNoticed fixed entries (own n ring)
  pub at_home : DidAtHome (items_of entries)
  pub gone : left ≡ true → IsGone net n ring
  pub timely : StaysInTime n entries ring

-- ---- Hosts.

-- A host and its node between two turns: both lists are legal and tied.
pub record HostStandsTied (plan : HostPlan) (net : NetPlan) (history : List HostEntry)
    (ring : List RingEntry) : Type 0 where
  pub legal : IsHostHistory plan history
  pub on : IsOnRing net ring plan.node
  pub tied : Tied AHost (host_items_of history) (own plan.node ring)

-- A host's node is gone, and each of its requests has an answer.
pub record HostIsGone (plan : HostPlan) (net : NetPlan) (history : List HostEntry)
    (ring : List RingEntry) : Type 0 where
  pub gone : status_at net ring plan.node ≡ Gone
  pub answered : unanswered_in history ≡ []

-- What a complete run says of a host's Passes and Requests holds so far; once a Pass said done the
-- host is done; a host whose node left is gone; and nothing came before its cause.
pub record HostKeepsOn (plan : HostPlan) (net : NetPlan) (history : List HostEntry)
    (ring : List RingEntry) (left : Bool) : Type 0 where
  pub replied : RepliesBeforePasses (host_items_of history) (own plan.node ring)
  pub stays : StaysDone (own plan.node ring)
  pub said : SaidDone (own plan.node ring)
      → host_is_done (record { plan = plan; history = history }) ≡ true
  pub holds : AsksInItsHolds plan (own plan.node ring)
  pub asked : AsksAllBeforeDone plan (own plan.node ring)
  pub gone : left ≡ true → HostIsGone plan net history ring
  pub timely : HostStaysInTime plan.node history ring

-- ---- Workers without a budget.

-- A Leave because the Passes of a budget are spent.
abbrev pub is_spent_cause : LeaveCause → Bool
is_spent_cause Spent = true
is_spent_cause Ended = false
is_spent_cause (Down number) = false

abbrev pub leaves_spent : RingEntry → Bool
leaves_spent (Leave n cause) = is_spent_cause cause
leaves_spent _ = false

-- No node left because its Passes were spent.
abbrev pub NoneSpent : List RingEntry → Type 0
NoneSpent list = All (λ (entry : RingEntry). leaves_spent entry ≡ false) list

-- ---- A run that is over.

-- A controller on a network has finished: its scans have ended, its calls were collected, and its
-- node is gone, or away without power.
pub record HasFinishedOn (net : NetPlan) (plant : Plant) (scans : ℕ) (ring : List RingEntry)
    (plan : ControllerPlan) (log : ControllerLog) : Type 0 where
  pub stands : StandsTied (fixed_of plant scans plan) net log.node log.entries ring
  pub keeps : KeepsOn (fixed_of plant scans plan) net log.node log.entries ring true
  pub ended : has_ended_at (fixed_of plant scans plan) log.entries ≡ true
  pub collected : has_started_at (fixed_of plant scans plan) log.entries ≡ false
  pub out : is_out_of_ring (is_off_at (fixed_of plant scans plan) log.entries)
      (status_at net ring log.node) ≡ true

-- A host on a network has finished: its node is gone.
pub record HostHasFinishedOn (net : NetPlan) (ring : List RingEntry) (plan : HostPlan)
    (log : HostLog) : Type 0 where
  pub node : log.node ≡ plan.node
  pub stands : HostStandsTied plan net log.entries ring
  pub keeps : HostKeepsOn plan net log.entries ring true
