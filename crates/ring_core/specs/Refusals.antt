-- Why a call is refused: the first reason that fits. This project's own.
use Rattle.std.specs.Prelude.{◌≡◌, ℕ, ◌+◌, ◌==◌, ◌&&◌, Bool, false, not, nat_lt, min, if◌then◌else◌}
use Rattle.std.specs.Prelude.{List, [], ◌∷◌, length, map, filter, fold, Option, Some, None}
use Rattle.ring_core.specs.Words.{CallId, FrameKind, Request, Reply, Frame, LeaveCause, Ended}
use Rattle.ring_core.specs.Words.{Spent, Down, NodeStatus, In, Away, Asking, Gone}
use Rattle.ring_core.specs.Words.{NetPlan, RingNo, NotMember, NotHolder, Unsent, Untaken, NotAway}
use Rattle.ring_core.specs.Words.{NoMemory, NotDue, NothingToSend, PathTaken, NotAwaited, Await}
use Rattle.ring_core.specs.Words.{Nothing, Out}
use Rattle.ring_core.specs.Words.{Arrived, Failed, LeaveDue}
use Rattle.ring_core.specs.Machine.{NodeIs, RingIs, ring_node, path_of, silence_word, is_here}
use Rattle.ring_core.specs.Machine.{part_of, is_bridge, hears}

-- A call is refused for want of memory, and then nothing changes.
abbrev pub WantsMemory : {X : Type 0} → X → X → RingNo → Type 0
WantsMemory old new why = (why ≡ NoMemory) × (new ≡ old)

-- The first of two refusals.
abbrev pub or_no : Option RingNo → Option RingNo → Option RingNo
or_no (Some why) other = Some why
or_no None other = other

-- The refusal where another node holds the token.
abbrev pub not_holder : RingIs → ℕ → Option RingNo
not_holder r n = if r.holder == n then None else Some (NotHolder r.holder)

-- The refusal where the node has left, or another node holds the token.
abbrev pub turn_no : RingIs → ℕ → Option RingNo
turn_no r n = if is_here (ring_node r n) then not_holder r n else Some NotMember

-- The refusal where a member does not hold the token; a node that has left is let through.
abbrev pub free_no : RingIs → ℕ → Option RingNo
free_no r n = if is_here (ring_node r n) then not_holder r n else None

-- The refusal where a path awaits a number.
abbrev pub taken_no : Await → Option RingNo
taken_no Nothing = None
taken_no (Out seq to onward passes) = Some (PathTaken seq)
taken_no (Arrived seq) = Some (PathTaken seq)
taken_no (Failed seq word) = Some (PathTaken seq)

-- The refusal of a Request whose path is not free.
abbrev pub path_no : NodeIs → FrameKind → ℕ → Option RingNo
path_no c Request path = taken_no (path_of c path).awaits
path_no c Reply path = None

-- Why a Post is refused.
abbrev pub post_no : RingIs → ℕ → Frame → Option RingNo
post_no r n f = or_no (free_no r n) (path_no (ring_node r n) f.kind f.id.path)

-- The refusal where nothing is to be sent.
abbrev pub empty_no : List Frame → Option RingNo
empty_no [] = Some NothingToSend
empty_no (f ∷ fs) = None

-- Why a Send is refused.
abbrev pub send_no : RingIs → ℕ → Option RingNo
send_no r n = or_no (turn_no r n) (empty_no (ring_node r n).outbox)

-- The refusal where frames were not sent.
abbrev pub unsent_no : List Frame → Option RingNo
unsent_no [] = None
unsent_no (f ∷ fs) = Some (Unsent (length (f ∷ fs)))

-- The refusal where frames were not taken.
abbrev pub untaken_no : List Frame → Option RingNo
untaken_no [] = None
untaken_no (f ∷ fs) = Some (Untaken (length (f ∷ fs)))

-- The refusal where one of the two boxes is not empty.
abbrev pub boxes_no : NodeIs → Option RingNo
boxes_no c = or_no (unsent_no c.outbox) (untaken_no c.inbox)

-- Why a Pass is refused.
abbrev pub pass_no : RingIs → ℕ → Option RingNo
pass_no r n = or_no (turn_no r n) (boxes_no (ring_node r n))

-- The refusal where it is too early.
abbrev pub due_no : ℕ → ℕ → Option RingNo
due_no held needed = if nat_lt held needed then Some (NotDue held needed) else None

-- The members that are not ends of bridges.
abbrev pub non_bridges : NetPlan → List NodeIs → List ℕ
non_bridges net nodes = filter (λ m. is_here (part_of nodes m) && not (is_bridge net m)) net.members

-- How many of a node's latest Passes in a row said done.
abbrev pub dones_of : List NodeIs → ℕ → ℕ
dones_of nodes m = (part_of nodes m).done_run

-- The least of a number and of the runs of members that are not ends of bridges.
abbrev pub least_done : NetPlan → List NodeIs → ℕ → ℕ
least_done net nodes own = fold min own (map (dones_of nodes) (non_bridges net nodes))

-- For how many Passes in a row a node itself, and each member that is not the end of a bridge, has
-- been done; 0 for a node that has left.
abbrev pub quiet_for : NetPlan → RingIs → ℕ → ℕ
quiet_for net r n =
    let c = ring_node r n in
    if is_here c then least_done net r.nodes c.done_run else 0

-- How much of its cause to leave a node has: Passes in a row at which all were done, Passes of its
-- own, or failures of its power.
abbrev pub cause_held : NetPlan → RingIs → ℕ → LeaveCause → ℕ
cause_held net r n Ended = quiet_for net r n
cause_held net r n Spent = (ring_node r n).passes
cause_held net r n (Down number) = number

-- How much of it a node needs; of failures, one more than the number of its latest Down.
abbrev pub needed_of : NetPlan → RingIs → ℕ → LeaveCause → ℕ
needed_of net r n Ended = net.rounds
needed_of net r n Spent = net.holds
needed_of net r n (Down number) = 1 + (ring_node r n).down

-- Both, of a ring and a cause.
abbrev pub leave_due : NetPlan → RingIs → ℕ → LeaveCause → LeaveDue
leave_due net r n cause =
    record { held = cause_held net r n cause; needed = needed_of net r n cause }

-- The refusal where a box is not empty that a cause to leave wants empty: both, or none where power
-- failed.
abbrev pub cause_boxes_no : LeaveCause → NodeIs → Option RingNo
cause_boxes_no Ended c = boxes_no c
cause_boxes_no Spent c = boxes_no c
cause_boxes_no (Down number) c = None

-- Why a Leave is refused.
abbrev pub leave_no : NetPlan → RingIs → ℕ → LeaveCause → Option RingNo
leave_no net r n cause =
    let due = leave_due net r n cause in
    or_no (or_no (turn_no r n) (cause_boxes_no cause (ring_node r n))) (due_no due.held due.needed)

-- The refusal where the node did not leave as its power failed, or has asked already.
abbrev pub away_no : NodeStatus → Option RingNo
away_no In = Some NotAway
away_no Away = None
away_no Asking = Some NotAway
away_no Gone = Some NotAway

-- The refusal of the least path that awaits a number.
abbrev pub paths_no : NodeIs → Option RingNo
paths_no c =
    or_no (path_no c Request 1)
    (or_no (path_no c Request 2) (or_no (path_no c Request 3) (path_no c Request 4)))

-- Why a Join is refused.
abbrev pub join_no : RingIs → ℕ → Option RingNo
join_no r n = let c = ring_node r n in or_no (away_no c.status) (paths_no c)

-- The refusal where a path does not await this number.
abbrev pub other_no : ℕ → ℕ → Option RingNo
other_no out seq = if out == seq then None else Some (NotAwaited out)

abbrev pub awaited_no : Await → ℕ → Option RingNo
awaited_no Nothing seq = Some (NotAwaited 0)
awaited_no (Out out to onward passes) seq = other_no out seq
awaited_no (Arrived out) seq = other_no out seq
awaited_no (Failed out word) seq = other_no out seq

-- The refusal where a member's call is not due to be given up.
abbrev pub answer_after : ℕ → Await → Option RingNo
answer_after answer Nothing = None
answer_after answer (Out seq to onward passes) = due_no passes answer
answer_after answer (Arrived seq) = Some (Untaken 1)
answer_after answer (Failed seq word) = None

-- Why a GiveUp is refused.
abbrev pub give_up_no : NetPlan → RingIs → CallId → Option RingNo
give_up_no net r id =
    let c = ring_node r id.node in
    let awaits = (path_of c id.path).awaits in
    let due = if is_here c then answer_after net.answer awaits else None in
    or_no (free_no r id.node) (or_no (awaited_no awaits id.seq) due)

-- The word of a call that is given up: its own, or 6103 for a caller that has left, or its
-- target's.
abbrev pub end_word : NetPlan → RingIs → Bool → Await → ℕ
end_word net r here (Failed seq word) = word
end_word net r here Nothing = silence_word false
end_word net r here (Arrived seq) = silence_word false
end_word net r here (Out seq to onward passes) =
    silence_word (here && hears net r.nodes to onward)

abbrev pub word_of : NetPlan → RingIs → CallId → ℕ
word_of net r id =
    let c = ring_node r id.node in
    end_word net r (is_here c) (path_of c id.path).awaits
