-- Which calls the ring lets a node give up. This project's own.
use Rattle.std.specs.Prelude.{◌≡◌, ◌⊎◌, ℕ, ◌<◌, ◌≤◌, nat_le, Bool, true, false, List, []}
use Rattle.std.specs.Prelude.{if◌then◌else◌, get_or, filter, filter_map, take, ◌-◌, Option, Some}
use Rattle.std.specs.Prelude.{None}
use Rattle.std.specs.List.{AllByRecursion}
use Rattle.plant_types.specs.declared.net.NetPlan.{NetPlan}
use Rattle.mstr_block.specs.declared.call.CallId.{CallId}
use Rattle.ring_core.specs.Machine.{NodeIs, ring_node, ring_after, is_here, path_of, passes_of}
use Rattle.ring_core.specs.Machine.{gave_up}
use Rattle.ring_core.specs.Refusals.{or_no, awaited_no, answer_after}
use Rattle.ring_core.specs.declared.refusal.RingNo.{RingNo}
use Rattle.ring_core.specs.declared.path.Await.{Await}
use Rattle.ring_core.specs.declared.path.Await.TheVariants.{Nothing, Out, Arrived, Failed}
use Rattle.ring_core.specs.declared.frame.FrameKind.TheVariants.{Request}
use Rattle.ring_core.specs.declared.frame.Frame.{Frame}
use Rattle.ring_core.specs.declared.entry.RingEntry.{RingEntry}
use Rattle.ring_core.specs.declared.entry.RingEntry.TheVariants.{GiveUp}
use Rattle.ring_core.specs.Legal.{IsPath}
use Rattle.comm_port.specs.Parts.{EachNext}
use Rattle.mstr_block.specs.Table.{network_paths}

-- A node's part.
abbrev pub part_at : NetPlan → ℕ → List RingEntry → NodeIs
part_at net n ring = ring_node (ring_after net ring) n

-- The frames in a node's inbox, and those in its outbox.
abbrev pub inbox_of : NetPlan → ℕ → List RingEntry → List Frame
inbox_of net n ring = (part_at net n ring).inbox

abbrev pub outbox_of : NetPlan → ℕ → List RingEntry → List Frame
outbox_of net n ring = (part_at net n ring).outbox

-- The call of a path that may be given up: of a node that has left each; else one that failed, or
-- has waited for its answer for as many Passes.
abbrev pub due_by : ℕ → Bool → ℕ → ℕ → Await → Option CallId
due_by answer here n path Nothing = None
due_by answer here n path (Out seq to onward passes) =
    if here then (if nat_le answer passes then Some (record { node = n; path = path; seq = seq })
    else None) else Some (record { node = n; path = path; seq = seq })
due_by answer here n path (Arrived seq) =
    if here then None else Some (record { node = n; path = path; seq = seq })
due_by answer here n path (Failed seq word) = Some (record { node = n; path = path; seq = seq })

abbrev pub due_on : NetPlan → ℕ → NodeIs → ℕ → Option CallId
due_on net n c path = due_by net.answer (is_here c) n path (path_of c path).awaits

-- The calls of these paths that may be given up.
abbrev pub due_calls : NetPlan → ℕ → List RingEntry → List ℕ → List CallId
due_calls net n ring paths = filter_map (due_on net n (part_at net n ring)) paths

-- The paths that are chosen, of those from 1 to below a number, or all.
abbrev pub is_chosen : List Bool → ℕ → Bool
is_chosen chosen path = get_or chosen path false

abbrev pub chosen_below : List Bool → ℕ → List ℕ
chosen_below chosen path = filter (is_chosen chosen) (take (path - 1) network_paths)

abbrev pub chosen_paths : List Bool → List ℕ
chosen_paths chosen = filter (is_chosen chosen) network_paths

-- Why a node that is let through may not give a call up.
abbrev pub part_no : NetPlan → NodeIs → CallId → Option RingNo
part_no net c id =
    let awaits = (path_of c id.path).awaits in
    or_no (awaited_no awaits id.seq) (if is_here c then answer_after net.answer awaits else None)

-- A node's part after a call was given up with a word, or was not.
abbrev pub given_part : NodeIs → CallId → Option ℕ → NodeIs
given_part c id None = c
given_part c id (Some word) = gave_up c id

-- A node's part after the call that was due is given up.
abbrev pub given_due : NodeIs → Option CallId → NodeIs
given_due c None = c
given_due c (Some id) = gave_up c id

-- Each Request in an outbox is on a chosen path.
abbrev pub AsksAreOn : List Bool → List Frame → Type 0
AsksAreOn chosen outbox =
    AllByRecursion (λ (f : Frame). f.kind ≡ Request → is_chosen chosen f.id.path ≡ true) outbox

-- A path whose call was due awaits nothing any more.
abbrev pub IsPathSettled : NetPlan → ℕ → NodeIs → NodeIs → ℕ → Type 0
IsPathSettled net n old new path = ((path_of new path).awaits ≡ Nothing)
    ⊎ ((path_of new path ≡ path_of old path) × (due_on net n old path ≡ None))

-- A path that is not chosen, or not from 1 to below a number.
abbrev pub IsOtherPath : List Bool → ℕ → ℕ → Type 0
IsOtherPath chosen below path =
    (path < 1) ⊎ ((below ≤ path) ⊎ (is_chosen chosen path ≡ false))

-- All calls of a node that were due on chosen paths below a number were given up, and no others.
pub record GaveUpBelow (net : NetPlan) (n : ℕ) (chosen : List Bool) (below : ℕ) (old new : NodeIs)
    : Type 0 where
  pub here : is_here new ≡ is_here old
  pub settled : (path : ℕ) → 1 ≤ path → path < below → is_chosen chosen path ≡ true
      → IsPathSettled net n old new path
  pub others : (path : ℕ) → IsOtherPath chosen below path → path_of new path ≡ path_of old path
  pub asks : (on : List Bool) → AsksAreOn on old.outbox → AsksAreOn on new.outbox
  pub sent : old.outbox ≡ [] → new.outbox ≡ []

-- A GiveUp of a call on one of these paths that was due when its path was as it still is.
abbrev pub IsDueNext : NetPlan → ℕ → (ℕ → Type 0) → NodeIs → List RingEntry → RingEntry → Type 0
IsDueNext net n On old past (GiveUp id word) = On id.path
    × (path_of (part_at net n past) id.path ≡ path_of old id.path)
    × (due_on net n old id.path ≡ Some id)
IsDueNext net n On old past _ = ⊥

-- A path's call has failed.
abbrev pub HasFailed : Await → Type 0
HasFailed (Failed seq word) = Unit {0}
HasFailed _ = ⊥

-- None of the calls on these paths has failed.
abbrev pub NoneFailed : (ℕ → Bool) → NodeIs → Type 0
NoneFailed on part = (path : ℕ) → on path ≡ true → HasFailed (path_of part path).awaits → ⊥

-- Each path: a controller gives up what failed on any.
abbrev pub each_path : ℕ → Bool
each_path path = true

-- Nothing of a node is to be sent, and none of its calls has failed.
pub record IsAtRest (net : NetPlan) (n : ℕ) (ring : List RingEntry) : Type 0 where
  pub all_sent : (part_at net n ring).outbox ≡ []
  pub none_failed : NoneFailed each_path (part_at net n ring)

-- A node may send: no call has failed, those on chosen paths were posted in this turn, and the
-- outbox has none of another path.
pub record MaySend (net : NetPlan) (n : ℕ) (chosen : List Bool) (c : NodeIs) : Type 0 where
  pub none_failed : NoneFailed each_path c
  pub young : (path : ℕ) → is_chosen chosen path ≡ true
      → passes_of (path_of c path).awaits < net.answer
  pub asks : AsksAreOn chosen c.outbox

-- The call of a path was given up where that was due.
pub record GivesOnPath (net : NetPlan) (n path : ℕ) (old new : List RingEntry) : Type 0 where
  pub part_is : part_at net n new
      ≡ given_due (part_at net n old) (due_on net n (part_at net n old) path)
  pub each : EachNext n (IsDueNext net n (λ p. p ≡ path) (part_at net n old)) old new

-- On each chosen path below a number the call was given up where that was due.
pub record GivesWhere (net : NetPlan) (n : ℕ) (chosen : List Bool) (below : ℕ)
    (old new : List RingEntry) : Type 0 where
  pub part : GaveUpBelow net n chosen below (part_at net n old) (part_at net n new)
  pub each : EachNext n (IsDueNext net n (λ p. is_chosen chosen p ≡ true) (part_at net n old))
      old new

-- After a Send of a node what failed is on a chosen path.
pub record HasSent (net : NetPlan) (n : ℕ) (chosen : List Bool) (c : NodeIs) : Type 0 where
  pub failed_on : (path seq word : ℕ) → (path_of c path).awaits ≡ Failed seq word
      → (is_chosen chosen path ≡ true) × IsPath path
  pub young : (path : ℕ) → is_chosen chosen path ≡ true
      → passes_of (path_of c path).awaits < net.answer
  pub asks : AsksAreOn chosen c.outbox
