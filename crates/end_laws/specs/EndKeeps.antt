-- What the turns of a bridge's end keep. This project's own.
use Rattle.std.specs.Prelude.{◌≡◌, ◌≢◌, ℕ, Bool, true, false, List}
use Rattle.std.specs.List.{All}
use Rattle.plant_types.specs.declared.net.BridgePlan.{BridgePlan}
use Rattle.plant_types.specs.declared.net.NetPlan.{NetPlan}
use Rattle.bridge_relay.specs.declared.entry.BridgeEntry.{BridgeEntry}
use Rattle.bridge_relay.specs.Laws.{end_after}
use Rattle.bridge_relay.specs.Machine.{none_out}
use Rattle.ring_core.specs.declared.entry.RingEntry.{RingEntry}
use Rattle.ring_core.specs.declared.entry.LeaveCause.TheVariants.{Ended as AllDone}
use Rattle.ring_core.specs.declared.entry.RingEntry.TheVariants.{Pass, Leave}
use Rattle.ring_core.specs.declared.status.NodeStatus.TheVariants.{Gone}
use Rattle.tied_lists.specs.Own.{own}
use Rattle.tied_lists.specs.Waits.{status_at}
use Rattle.joint_history.specs.Complete.{IsQuiet, SaysDone, LeavesQuietly, StandsIn}
use Rattle.end_times.specs.EndTimes.{IsEndInTime}

-- A list ends with an unbroken row of done Passes, which begins here.
pub record EndsDone (list before : List RingEntry) (node : ℕ) (words : List ℕ)
    (between : List RingEntry) : Type 0 where
  pub stands : StandsIn list before (Pass node true words) between
  pub done : All SaysDone between

-- An end was quiet from the first of the done Passes on with which its list ends.
abbrev pub IsQuietSinceDone : List RingEntry → Type 0
IsQuietSinceDone list = (before between : List RingEntry) (node : ℕ) (words : List ℕ)
    → EndsDone list before node words between → All IsQuiet between

-- An end has no call out where its node's list ends with done Passes.
abbrev pub HasNoneOutSinceDone : BridgePlan → List BridgeEntry → ℕ → List RingEntry → Type 0
HasNoneOutSinceDone plan list side own_list =
    (before between : List RingEntry) (node : ℕ) (words : List ℕ)
    → EndsDone own_list before node words between → none_out (end_after plan list side) ≡ true

-- An entry by which no node leaves as all was done.
abbrev pub IsNoDoneLeave : RingEntry → Type 0
IsNoDoneLeave entry = (n : ℕ) → entry ≢ Leave n AllDone

-- An end has left for good, in its bridge's list and on the ring, none of its calls is out, and it
-- was quiet before and stayed so.
pub record HasLeftForGood (plan : BridgePlan) (net : NetPlan) (side : ℕ) (list : List BridgeEntry)
    (ring : List RingEntry) : Type 0 where
  pub bridge : (end_after plan list side).gone ≡ true
  pub on_ring : status_at net ring side ≡ Gone
  pub none : none_out (end_after plan list side) ≡ true
  pub quietly : LeavesQuietly (own side ring)

-- An end is in time with its node; as long as it has not left its node has not, it was quiet, and
-- none of its calls was out, since it said done; where it left it left for good.
pub record EndKeepsOn (plan : BridgePlan) (net : NetPlan) (side : ℕ) (list : List BridgeEntry)
    (ring : List RingEntry) (left : Bool) : Type 0 where
  pub in_time : IsEndInTime side list ring
  pub here : left ≡ false → All IsNoDoneLeave (own side ring)
  pub quiet : left ≡ false → IsQuietSinceDone (own side ring)
  pub none_out : left ≡ false → HasNoneOutSinceDone plan list side (own side ring)
  pub gone : left ≡ true → HasLeftForGood plan net side list ring
