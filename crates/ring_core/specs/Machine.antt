-- The ring as a machine: its state, and what each entry makes of it.
-- The token, the paths and the boxes are those of the Modbus Plus Network Planning and Installation
-- Guide;
-- fates, tries, give-ups, leaving and coming back are this project's own.
use Rattle.std.specs.Prelude.{ℕ, zero, suc, ◌+◌, ◌<◌, ◌%◌, ◌^◌, Bool, true, false, nat_le}
use Rattle.std.specs.Prelude.{◌==◌, ◌&&◌, ◌||◌, not, if◌then◌else◌, List, [], ◌∷◌, ◌++◌, length}
use Rattle.std.specs.Prelude.{get_or, set, map, drop, filter, replicate, count_by, Option, Some}
use Rattle.std.specs.Prelude.{None, unwrap_or}
use Rattle.std.specs.List.{list_any, list_all}
use Rattle.std.specs.declared.cmp.Ordering.{Ordering}
use Rattle.std.specs.Ordering.{nat_cmp, ordering_then}
use Rattle.std.specs.FinMap.{FinMap, get, insert, empty}
pub use Rattle.plant_types.specs.Limits.{path_places}
use Rattle.ring_core.specs.Words.{CallId, FrameKind, Request, Reply, Frame, Heard, Acked, Silent}
use Rattle.ring_core.specs.Words.{Busy, Fate, D, L, A, NetPlan, RingEntry, Post, Send, Take, Local}
use Rattle.ring_core.specs.Words.{GiveUp, Pass, Leave, Join, NodeStatus, In, Away, Asking, Gone}
use Rattle.ring_core.specs.Words.{LeaveCause, Ended, Spent, Down}
use Rattle.ring_core.specs.Words.{Await, Nothing, Out, Arrived, Failed, Path}
use Rattle.ring_core.specs.Words.{Fell, AcceptedRequest, RepeatedRequest, CrowdedOut, AcceptedReply}
use Rattle.ring_core.specs.Words.{DroppedReply, is_request, is_onward, asks_for}

-- The source of a Request: the node that asks, and the path on which it does.
abbrev pub Source : Type 0
Source = ℕ × ℕ

-- Sources in the order of their nodes, those of a node in the order of their paths.
abbrev pub source_cmp : Source → Source → Ordering
source_cmp a b = ordering_then (nat_cmp a.0 b.0) (nat_cmp a.1 b.1)

-- Each source of which a Request was accepted, with the greatest number.
abbrev pub AcceptedIs : Type 0
AcceptedIs = FinMap source_cmp ℕ

-- A node's part, with the number of its latest Down, 0 for none. A path is found by its number.
pub record NodeIs : Type 0 where
  pub status : NodeStatus
  pub down : ℕ
  pub outbox : List Frame
  pub tries : ℕ
  pub inbox : List Frame
  pub passes : ℕ
  pub done_run : ℕ
  pub paths : List Path
  pub accepted : AcceptedIs

-- The ring: who holds the token, how many transmissions there were, and each node's part at its
-- address.
pub record RingIs : Type 0 where
  pub holder : ℕ
  pub sent : ℕ
  pub nodes : List NodeIs

-- Addresses are 1 to 64, below this number.
abbrev pub addresses : ℕ
addresses = 65

-- A Request is named by its source, and by its number there.
abbrev pub source_of : CallId → Source
source_of id = (id.node, id.path)

-- The greatest number that was accepted of a Request's source; 0 for none.
abbrev pub accepted_of : AcceptedIs → CallId → ℕ
accepted_of accepted id = unwrap_or (get accepted (source_of id)) 0

-- A Request's number becomes the greatest that was accepted of its source.
abbrev pub accepting : AcceptedIs → CallId → AcceptedIs
accepting accepted id = insert accepted (source_of id) id.seq

abbrev pub no_path : Path
no_path = record { awaits = Nothing; posted = 0 }

-- A node at first is a member, or none ever.
abbrev pub first_status : Bool → NodeStatus
first_status true = In
first_status false = Gone

abbrev pub fresh : Bool → NodeIs
fresh here = record {
  status = first_status here;
  down = 0;
  outbox = [];
  tries = 0;
  inbox = [];
  passes = 0;
  done_run = 0;
  paths = replicate path_places no_path;
  accepted = empty;
}

abbrev pub part_of : List NodeIs → ℕ → NodeIs
part_of nodes n = get_or nodes n (fresh false)

-- A node's part.
abbrev pub ring_node : RingIs → ℕ → NodeIs
ring_node r n = part_of r.nodes n

-- The status of a member.
abbrev pub is_in : NodeStatus → Bool
is_in In = true
is_in Away = false
is_in Asking = false
is_in Gone = false

-- A node is a member now.
abbrev pub is_here : NodeIs → Bool
is_here c = is_in c.status

-- The status of a node that is a member, or asks to be one.
abbrev pub is_in_or_asking : NodeStatus → Bool
is_in_or_asking In = true
is_in_or_asking Away = false
is_in_or_asking Asking = true
is_in_or_asking Gone = false

-- A node is the end of a bridge on this ring.
abbrev pub is_bridge : NetPlan → ℕ → Bool
is_bridge net n = list_any (λ end. end == n) net.bridges

-- Every other node that is a member, or asks to be one, is the end of a bridge.
abbrev pub only_bridges : NetPlan → List NodeIs → ℕ → Bool
only_bridges net nodes n = list_all
    (λ m. (m == n) || is_bridge net m || not (is_in_or_asking (part_of nodes m).status)) net.members

abbrev pub with_status : NodeIs → NodeStatus → NodeIs
with_status c status = record c { status = status }

-- As the token goes on, who asks comes in.
abbrev pub admitted_status : NodeStatus → NodeStatus
admitted_status In = In
admitted_status Away = Away
admitted_status Asking = In
admitted_status Gone = Gone

abbrev pub admitted : NodeIs → NodeIs
admitted c = with_status c (admitted_status c.status)

-- A path of a node.
abbrev pub path_of : NodeIs → ℕ → Path
path_of c path = get_or c.paths path no_path

abbrev pub with_node : RingIs → ℕ → NodeIs → RingIs
with_node r n c = record r { nodes = set r.nodes n c }

-- The number that a path awaits; 0 for none.
abbrev pub awaited_number : Await → ℕ
awaited_number Nothing = 0
awaited_number (Out seq to onward passes) = seq
awaited_number (Arrived seq) = seq
awaited_number (Failed seq word) = seq

-- A path awaits something else.
abbrev pub paths_awaiting : List Path → ℕ → Await → List Path
paths_awaiting paths path awaits =
    set paths path (record { awaits = awaits; posted = (get_or paths path no_path).posted })

abbrev pub awaiting : NodeIs → ℕ → Await → List Path
awaiting c path awaits = paths_awaiting c.paths path awaits

-- Post: the frame goes last in the outbox, and a Request's path is out.
abbrev pub asked : NodeIs → FrameKind → Frame → List Path
asked c Request f = set c.paths f.id.path
    (record { awaits = Out f.id.seq f.to (is_onward f) 0; posted = f.id.seq })
asked c Reply f = c.paths

abbrev pub posted : NodeIs → Frame → NodeIs
posted c f = record c {
  outbox = c.outbox ++ f ∷ [];
  paths = asked c f.kind f;
}

-- Take: the first frame leaves the inbox, and a Reply's path awaits nothing.
abbrev pub paths_after_take : NodeIs → FrameKind → ℕ → List Path
paths_after_take c Request path = c.paths
paths_after_take c Reply path = awaiting c path Nothing

abbrev pub took : NodeIs → FrameKind → CallId → NodeIs
took c kind id = record c {
  inbox = drop 1 c.inbox;
  paths = paths_after_take c kind id.path;
}

-- GiveUp: the path awaits nothing, and its frame leaves the outbox.
abbrev pub is_head : CallId → List Frame → Bool
is_head id [] = false
is_head id (f ∷ fs) = asks_for id f

abbrev pub gave_up : NodeIs → CallId → NodeIs
gave_up c id = record c {
  outbox = filter (λ f. not (asks_for id f)) c.outbox;
  tries = if is_head id c.outbox then 0 else c.tries;
  paths = awaiting c id.path Nothing;
}

-- Pass: each path that is out has waited one Pass more.
abbrev pub aged_await : Await → Await
aged_await Nothing = Nothing
aged_await (Out seq to onward passes) = Out seq to onward (passes + 1)
aged_await (Arrived seq) = Arrived seq
aged_await (Failed seq word) = Failed seq word

abbrev pub aged : Path → Path
aged path = record { awaits = aged_await path.awaits; posted = path.posted }

abbrev pub after_pass : NodeIs → Bool → NodeIs
after_pass c done = record c {
  passes = c.passes + 1;
  done_run = if done then c.done_run + 1 else 0;
  paths = map aged c.paths;
}

abbrev pub passes_of : Await → ℕ
passes_of Nothing = 0
passes_of (Out seq to onward passes) = passes
passes_of (Arrived seq) = 0
passes_of (Failed seq word) = 0

abbrev pub CanAge : Path → Type 0
CanAge path = passes_of path.awaits + 1 < 2 ^ 64

-- Leave for good: the node is no member from then on, and its inbox is emptied.
abbrev pub gone : NodeIs → NodeIs
gone c = record c { status = Gone; inbox = [] }

-- Leave as power fails: both boxes are emptied, and the row of Passes that said done is over.
abbrev pub downed : NodeIs → ℕ → NodeIs
downed c number = record c {
  status = Away;
  down = number;
  outbox = [];
  tries = 0;
  inbox = [];
  done_run = 0;
}

-- Leave, by its cause.
abbrev pub gone_by : LeaveCause → NodeIs → NodeIs
gone_by Ended c = gone c
gone_by Spent c = gone c
gone_by (Down number) c = downed c number

-- The least member from a place on; 0 where there is none.
abbrev pub least_from : List NodeIs → ℕ → ℕ
least_from [] at = 0
least_from (c ∷ cs) at = if is_here c then at else least_from cs (at + 1)

abbrev pub or_else : ℕ → ℕ → ℕ
or_else zero b = b
or_else (suc a) b = suc a

-- The successor: the least member above a node, else the least.
abbrev pub successor : List NodeIs → ℕ → ℕ
successor nodes n = or_else (least_from (drop (n + 1) nodes) (n + 1)) (least_from nodes 0)

-- The fate of a transmission, by how many there were before it.
abbrev pub fate_at : List Fate → ℕ → Fate
fate_at fates sent = get_or fates (sent % length fates) D

abbrev pub fate_reaches : Fate → Bool
fate_reaches D = true
fate_reaches L = false
fate_reaches A = true

abbrev pub told : Fate → Heard → Heard
told D heard = heard
told L heard = Silent
told A heard = Silent

-- A node hears a frame where it is a member and, if the frame is to go on from there, the end of a
-- bridge.
abbrev pub hears : NetPlan → List NodeIs → ℕ → Bool → Bool
hears net nodes to onward = is_here (part_of nodes to) && (not onward || is_bridge net to)

-- A frame arrives where its target hears it and the letter lets it through.
abbrev pub arrives : NetPlan → List NodeIs → Fate → Frame → Bool
arrives net nodes fate f =
    if hears net nodes f.to (is_onward f) then fate_reaches fate else false

-- A number that was accepted of its source already, or a lower one.
abbrev pub is_repeat : NodeIs → CallId → Bool
is_repeat c id = nat_le id.seq (accepted_of c.accepted id)

-- Four Requests are in the inbox.
abbrev pub is_full : NodeIs → Bool
is_full c = nat_le 4 (count_by is_request c.inbox)

-- The path is out with this number.
abbrev pub waits_for : Await → ℕ → Bool
waits_for Nothing seq = false
waits_for (Out out to onward passes) seq = out == seq
waits_for (Arrived out) seq = false
waits_for (Failed out word) seq = false

-- What becomes of a frame that arrives.
-- The first case that fits.
abbrev pub fell : NodeIs → FrameKind → CallId → Fell
fell c Request id =
    if is_repeat c id then RepeatedRequest else if is_full c then CrowdedOut else AcceptedRequest
fell c Reply id =
    if waits_for (path_of c id.path).awaits id.seq then AcceptedReply else DroppedReply

abbrev pub with_frame : NodeIs → Fell → Frame → NodeIs
with_frame c AcceptedRequest f = record c {
  inbox = c.inbox ++ f ∷ [];
  accepted = accepting c.accepted f.id;
}
with_frame c RepeatedRequest f = c
with_frame c CrowdedOut f = c
with_frame c AcceptedReply f = record c {
  inbox = c.inbox ++ f ∷ [];
  paths = awaiting c f.id.path (Arrived f.id.seq);
}
with_frame c DroppedReply f = c

-- What the sender is told of it with the letter D.
abbrev pub told_by_target : Fell → Heard
told_by_target AcceptedRequest = Acked
told_by_target RepeatedRequest = Acked
told_by_target CrowdedOut = Busy
told_by_target AcceptedReply = Acked
told_by_target DroppedReply = Acked

-- What becomes of a frame; None where it does not arrive.
abbrev pub arrival : NetPlan → List NodeIs → Fate → Frame → Option Fell
arrival net nodes fate f =
    if arrives net nodes fate f then Some (fell (part_of nodes f.to) f.kind f.id) else None

abbrev pub heard_of : Fate → Option Fell → Heard
heard_of fate None = Silent
heard_of fate (Some fall) = told fate (told_by_target fall)

abbrev pub arrived : List NodeIs → Frame → Option Fell → List NodeIs
arrived nodes f None = nodes
arrived nodes f (Some fall) = set nodes f.to (with_frame (part_of nodes f.to) fall f)

-- What a sender changes by what it was told: the third Silent of a frame is the last.
abbrev pub failed : NodeIs → FrameKind → CallId → ℕ → List Path
failed c Request id word = awaiting c id.path (Failed id.seq word)
failed c Reply id word = c.paths

abbrev pub sent_off : NodeIs → List Path → NodeIs
sent_off c paths = record c { outbox = drop 1 c.outbox; tries = 0; paths = paths }

-- The word of a target that says nothing: 6101 where it hears the frame, else 6103.
abbrev pub silence_word : Bool → ℕ
silence_word there = if there then 0x6101 else 0x6103

abbrev pub busy_word : ℕ
busy_word = 0x6105

abbrev pub heard_by : NodeIs → FrameKind → CallId → Bool → Heard → NodeIs
heard_by c kind id there Acked = sent_off c c.paths
heard_by c kind id there Busy = sent_off c (failed c kind id busy_word)
heard_by c kind id there Silent =
    if nat_le 2 c.tries
    then sent_off c (failed c kind id (silence_word there))
    else record c { tries = c.tries + 1 }

-- Send: the head frame of the outbox is transmitted.
abbrev pub sent_with : NetPlan → RingIs → ℕ → Frame → Fate → Option Fell → RingIs
sent_with net r n f fate fall =
    let nodes = arrived r.nodes f fall in
    let there = hears net r.nodes f.to (is_onward f) in
    record {
      holder = r.holder;
      sent = r.sent + 1;
      nodes = set nodes n (heard_by (part_of nodes n) f.kind f.id there (heard_of fate fall));
    }

abbrev pub sent_one : NetPlan → RingIs → ℕ → Frame → RingIs
sent_one net r n f =
    let fate = fate_at net.fates r.sent in
    sent_with net r n f fate (arrival net r.nodes fate f)

abbrev pub sent_head : NetPlan → RingIs → ℕ → List Frame → RingIs
sent_head net r n [] = r
sent_head net r n (f ∷ fs) = sent_one net r n f

-- All who ask come in, and then the token goes to a node's successor.
abbrev pub handed_on : RingIs → List NodeIs → ℕ → RingIs
handed_on r nodes n =
    let all = map admitted nodes in
    record { holder = successor all n; sent = r.sent; nodes = all }

-- A member holds the token. Where none does there is no member, and the holder is said to be 0.
abbrev pub is_held : RingIs → Bool
is_held r = is_here (ring_node r r.holder)

-- Join: the node asks to come in; where nobody holds the token it is in at once, and holds it.
abbrev pub made_asking : RingIs → ℕ → RingIs
made_asking r n =
    if is_held r then with_node r n (with_status (ring_node r n) Asking)
    else record {
      holder = n;
      sent = r.sent;
      nodes = set r.nodes n (with_status (ring_node r n) In);
    }

-- The ring after an entry.
abbrev pub after : NetPlan → RingIs → RingEntry → RingIs
after net r (Post n f) = with_node r n (posted (ring_node r n) f)
after net r (Send n heard) = sent_head net r n (ring_node r n).outbox
after net r (Take n f) = with_node r n (took (ring_node r n) f.kind f.id)
after net r (Local n id op result) = r
after net r (GiveUp id word) = with_node r id.node (gave_up (ring_node r id.node) id)
after net r (Pass n done words) =
    handed_on r (set r.nodes n (after_pass (ring_node r n) done)) n
after net r (Leave n cause) =
    handed_on r (set r.nodes n (gone_by cause (ring_node r n))) n
after net r (Join n) = made_asking r n

-- The ring after a list of entries.
abbrev pub after_all : NetPlan → RingIs → List RingEntry → RingIs
after_all net r [] = r
after_all net r (e ∷ es) = after_all net (after net r e) es

-- The ring at first: all members are there, and the least holds the token.
abbrev pub with_members : List NodeIs → List ℕ → List NodeIs
with_members nodes [] = nodes
with_members nodes (m ∷ ms) = with_members (set nodes m (fresh true)) ms

abbrev pub opening_nodes : List ℕ → List NodeIs
opening_nodes members = with_members (replicate addresses (fresh false)) members

abbrev pub opening : NetPlan → RingIs
opening net =
    let nodes = opening_nodes net.members in
    record { holder = least_from nodes 0; sent = 0; nodes = nodes }

-- The ring after a history.
abbrev pub ring_after : NetPlan → List RingEntry → RingIs
ring_after net history = after_all net (opening net) history
