-- What a side of the ring or of a controller says of the list behind it. This project's own.
use Rattle.std.specs.Prelude.{◌≡◌, ◌≤◌, ℕ, Bool, true, false, List, [], ◌∷◌, map, max, Option}
use Rattle.std.specs.Prelude.{Some, None, Result, MatchResult, ◌⊎◌, ⊤}
use Rattle.plant_types.specs.declared.net.NetPlan.{NetPlan}
use Rattle.mstr_block.specs.declared.call.CallId.{CallId}
use Rattle.controller_core.specs.declared.fixed.Fixed.{Fixed}
use Rattle.controller_core.specs.declared.call.Call.{Call}
use Rattle.controller_core.specs.declared.entry.Entry.{Entry}
use Rattle.ring_core.specs.Machine.{awaited_number, path_of, ring_after, ring_node}
use Rattle.ring_core.specs.Refusals.{give_up_no, join_no, leave_no}
use Rattle.ring_core.specs.Scratch.{words_put}
use Rattle.ring_core.specs.declared.frame.Frame.{Frame}
use Rattle.ring_core.specs.declared.entry.LeaveCause.{LeaveCause}
use Rattle.ring_core.specs.declared.entry.RingEntry.{RingEntry}
use Rattle.ring_core.specs.declared.entry.RingEntry.TheVariants.{Take, Pass, Leave}
use Rattle.ring_core.specs.declared.refusal.RingNo.{RingNo}
use Rattle.ring_core.specs.declared.refusal.RingNo.TheVariants.{NoMemory}
use Rattle.tied_lists.specs.Calls.{AreNewCalls}
use Rattle.tied_lists.specs.Own.{added_if, is_of, WentOn}
use Rattle.joint_history.specs.Reading.{called_of, is_ours, items_of}

-- What a side of the ring keeps: the plan, the one node in whose name it may write, or none where
-- it writes for each, and what names its place.
pub record RingSideIs (Place : Type 0) : Type 0 where
  pub net : NetPlan
  pub writer : Option ℕ
  pub place : Place

-- A side may write in this node's name.
abbrev pub MayWrite : Option ℕ → ℕ → Type 0
MayWrite None node = ⊤
MayWrite (Some writer) node = writer ≡ node

-- A refused call was refused for this reason; NoMemory comes only where there is none.
abbrev pub IsRefusedFor : {T : Type 0} → Option RingNo → Result T RingNo → Type 0
IsRefusedFor why result = MatchResult result (λ _. ⊤)
    (λ refused. (why ≡ Some refused) ⊎ ((refused ≡ NoMemory) × (why ≡ None)))

-- A refused call was refused for this reason, or because memory ran out.
abbrev pub IsRefusedOrShort : {T : Type 0} → Option RingNo → Result T RingNo → Type 0
IsRefusedOrShort why result =
    MatchResult result (λ _. ⊤) (λ refused. (refused ≡ NoMemory) ⊎ (why ≡ Some refused))

-- The entry of a Take; none where the inbox was empty.
abbrev pub taken_entries : ℕ → Option Frame → List RingEntry
taken_entries node None = []
taken_entries node (Some frame) = Take node frame ∷ []

-- What a side keeps memory for is as it was, where nobody else writes.
abbrev pub KeepsRoom : {A : Type 0} → Bool → A → A → Type 0
KeepsRoom true old new = new ≡ old
KeepsRoom false old new = Unit {0}

-- Memory is kept for no more entries than before, or for one, where nobody else writes.
abbrev pub KeepsForOne : Bool → ℕ → ℕ → Type 0
KeepsForOne true old new = new ≤ max old 1
KeepsForOne false old new = Unit {0}

-- A call on the ring: entries of others came, and then those that it added for its result; it
-- reserved nothing.
pub record CallAdds {S T X : Type 0} (alone : Bool) (known : S → List RingEntry) (room : S → ℕ)
    (node : ℕ) (old new : S) (result : Result T X) (added : T → List RingEntry) : Type 0 where
  pub list : WentOn alone (is_of node) (known old) (added_if result added) (known new)
  pub kept : KeepsRoom alone (room old) (room new)

-- A Pass that says this, with the words that the node has put.
abbrev pub PassAdds : {S T X : Type 0} → Bool → (S → List RingEntry) → (S → ℕ) → ℕ → Bool → S → S
    → Result T X → Type 0
PassAdds alone known room node done old new result = CallAdds alone known room node old new result
    (λ _. Pass node done (words_put node (known old)) ∷ [])

-- A Leave for this cause: entries of others came, and then its entry; it asked for memory for that
-- entry alone.
pub record LeaveAdds {S T X : Type 0} (alone : Bool) (known : S → List RingEntry) (room : S → ℕ)
    (node : ℕ) (cause : LeaveCause) (old new : S) (result : Result T X) : Type 0 where
  pub list : WentOn alone (is_of node) (known old) (added_if result (λ _. Leave node cause ∷ []))
      (known new)
  pub kept : KeepsForOne alone (room old) (room new)

-- A question to the ring: entries of others came, and none of the node; nothing was reserved.
pub record AddsNothing {S : Type 0} (alone : Bool) (known : S → List RingEntry) (room : S → ℕ)
    (node : ℕ) (old new : S) : Type 0 where
  pub list : WentOn alone (is_of node) (known old) [] (known new)
  pub kept : KeepsRoom alone (room old) (room new)

-- Why a node may not leave for a cause, why it may not ask to come in, and why a call may not be
-- given up.
abbrev pub leave_no_at : NetPlan → List RingEntry → ℕ → LeaveCause → Option RingNo
leave_no_at net ring node cause = leave_no net (ring_after net ring) node cause

abbrev pub join_no_at : NetPlan → List RingEntry → ℕ → Option RingNo
join_no_at net ring node = join_no (ring_after net ring) node

abbrev pub give_up_no_at : NetPlan → List RingEntry → CallId → Option RingNo
give_up_no_at net ring id = give_up_no net (ring_after net ring) id

-- The number that a path of a node awaits, or 0.
abbrev pub number_awaited : NetPlan → List RingEntry → ℕ → ℕ → ℕ
number_awaited net ring node path =
    awaited_number (path_of (ring_node (ring_after net ring) node) path).awaits

-- A call on the controller: events of its scan came, and then what the call noted for its result;
-- what is kept for a scan's events stayed.
pub record CallNotes {S T X : Type 0} (alone : Bool) (known : S → List Entry) (reserved : S → Bool)
    (old new : S) (result : Result T X) (added : T → List Entry) : Type 0 where
  pub list : WentOn alone is_ours (known old) (added_if result added) (known new)
  pub kept : KeepsRoom alone (reserved old) (reserved new)

-- A question to the controller: events of its scan came, and nothing was noted or reserved.
pub record NotesNothing {S : Type 0} (alone : Bool) (known : S → List Entry) (reserved : S → Bool)
    (old new : S) : Type 0 where
  pub list : WentOn alone is_ours (known old) [] (known new)
  pub kept : KeepsRoom alone (reserved old) (reserved new)

-- Each of these calls of a controller with this history is new.
abbrev pub AreStarted : Fixed → List Entry → List Call → Type 0
AreStarted fixed entries calls = AreNewCalls fixed.plan.node (items_of entries).calls
    (items_of entries).ends (map called_of calls)

-- What a side of a controller keeps: its fixed part, and what names its place.
pub record RamSideIs (Place : Type 0) : Type 0 where
  pub fixed : Fixed
  pub place : Place
