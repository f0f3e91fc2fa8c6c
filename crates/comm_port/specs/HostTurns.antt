-- What a host's worker stands on at each part of a turn. This project's own.
use Rattle.std.specs.Prelude.{◌≡◌, ◌≢◌, ◌<◌, ◌-◌, ℕ, ◌+◌, min, Bool, true, false, List, [], ◌∷◌}
use Rattle.std.specs.Prelude.{◌++◌, length, map, filter_map, flat_map, count_by, Option}
use Rattle.std.specs.Prelude.{Some, None, is_some, replicate}
use Rattle.std.specs.List.{AllZip, list_any}
use Rattle.plant_types.specs.declared.net.NetPlan.{NetPlan}
use Rattle.plant_types.specs.declared.net.HostPlan.{HostPlan}
use Rattle.mstr_block.specs.Table.{network_paths}
use Rattle.mstr_block.specs.declared.call.CallId.{CallId}
use Rattle.mstr_block.specs.declared.call.MstrResult.{MstrResult}
use Rattle.ring_core.specs.Machine.{NodeIs, path_of, path_places, ring_after}
use Rattle.ring_core.specs.Machine.{ring_node}
use Rattle.ring_core.specs.Scratch.{words_put}
use Rattle.ring_core.specs.Statistics.{is_for_stats}
use Rattle.ring_core.specs.Words.{frame_route, is_onward}
use Rattle.ring_core.specs.declared.frame.FrameKind.{FrameKind}
use Rattle.ring_core.specs.declared.frame.FrameKind.TheVariants.{Request, Reply}
use Rattle.ring_core.specs.declared.frame.Frame.{Frame}
use Rattle.ring_core.specs.declared.path.Await.{Await}
use Rattle.ring_core.specs.declared.path.Await.TheVariants.{Nothing, Out, Arrived, Failed}
use Rattle.ring_core.specs.declared.entry.Heard.{Heard}
use Rattle.ring_core.specs.declared.entry.Heard.TheVariants.{Acked, Silent, Busy}
use Rattle.ring_core.specs.declared.entry.LocalOp.{LocalOp}
use Rattle.ring_core.specs.declared.entry.LeaveCause.{LeaveCause}
use Rattle.ring_core.specs.declared.entry.RingEntry.{RingEntry}
use Rattle.ring_core.specs.declared.entry.RingEntry.TheVariants.{Post, Take, Local, GiveUp}
use Rattle.ring_core.specs.declared.entry.RingEntry.TheVariants.{Pass}
use Rattle.ring_core.specs.Legal.{IsPath}
use Rattle.host_port.specs.declared.entry.HostEntry.{HostEntry}
use Rattle.host_port.specs.declared.entry.HostEntry.TheVariants.{Ask, Answer, Served}
use Rattle.host_port.specs.declared.entry.HostResult.TheVariants as results
use Rattle.host_port.specs.Calls.{asked_on, goes_on_path, is_unanswered, open_on, requests_in}
use Rattle.host_port.specs.Calls.{unanswered_in}
use Rattle.host_port.specs.Host.{HostIs, due_request, host_is_done}
use Rattle.host_port.specs.Legal.{IsHostHistory, refusal_to}
use Rattle.tied_lists.specs.Own.{is_of, own, Grew}
use Rattle.tied_lists.specs.Items.{AHost, reply_of, request_of}
use Rattle.tied_lists.specs.Tied.{Tied}
use Rattle.tied_lists.specs.Waits.{waiting, last_number, IsOnRing}
use Rattle.comm_port.specs.Sides.{RingSideIs, MayWrite}
use Rattle.joint_history.specs.Reading.{host_items_of}
use Rattle.comm_port.specs.Turns.{IsOwnTurn}
use Rattle.comm_port.specs.Leaving.{cause_due, HandedOn}
use Rattle.comm_port.specs.Giving.{due_calls, inbox_of, is_chosen, IsAtRest}
use Rattle.comm_port.specs.Parts.{EachNext}
use Rattle.comm_port.specs.SendsAll.{IsNextSending, SendsFrames}
use Rattle.comm_port.specs.Replies.{reply_frame}
use Rattle.joint_history.specs.Complete.{is_pass}

-- Each path of the node waits for the Request that the host has there without an answer, and was
-- posted as many Requests as the host asked on it.
pub record PathsAgree (history : List HostEntry) (b : List RingEntry) : Type 0 where
  pub waits : (p : ℕ) → waiting p b ≡ open_on history p
  pub numbers : (p : ℕ) → last_number p b ≡ asked_on history p

-- A worker stands between its host and the ring: their lists are tied, and their paths agree.
pub record HostTurning {Q : Type 0} (n : ℕ) (host : HostIs) (side : RingSideIs Q)
    (ring : List RingEntry) : Type 0 where
  pub node : host.plan.node ≡ n
  pub legal : IsHostHistory host.plan host.history
  pub own_turn : IsOwnTurn side ring n
  pub tied : Tied AHost (host_items_of host.history) (own n ring)
  pub paths : PathsAgree host.history (own n ring)

-- A worker's host and the ring agree, whichever node holds the token; a call waits for its answer
-- for one Pass at least; and nothing of the node is to be sent or has failed.
pub record HostTies {Q : Type 0} (n : ℕ) (host : HostIs) (side : RingSideIs Q)
    (ring : List RingEntry) : Type 0 where
  pub node : host.plan.node ≡ n
  pub legal : IsHostHistory host.plan host.history
  pub serves : MayWrite side.writer n
  pub on : IsOnRing side.net ring n
  pub answer : 0 < side.net.answer
  pub tied : Tied AHost (host_items_of host.history) (own n ring)
  pub paths : PathsAgree host.history (own n ring)
  pub rest : IsAtRest side.net n ring

-- The last entry of a node is a Pass that says this.
pub record EndsWithPass (n : ℕ) (done : Bool) (b : List RingEntry) : Type 0 where
  pub front : List RingEntry
  pub words : List ℕ
  pub is : b ≡ front ++ Pass n done words ∷ []

-- A worker stands between its host and the ring, before the last entry of the node, a Take of this
-- frame, which goes no further.
pub record HostTaking {Q : Type 0} (n : ℕ) (f : Frame) (host : HostIs) (side : RingSideIs Q)
    (ring : List RingEntry) : Type 0 where
  pub before : List RingEntry
  pub own_is : own n ring ≡ before ++ Take n f ∷ []
  pub node : host.plan.node ≡ n
  pub legal : IsHostHistory host.plan host.history
  pub own_turn : IsOwnTurn side ring n
  pub tied : Tied AHost (host_items_of host.history) before
  pub paths : PathsAgree host.history before
  pub rest : f.rest ≡ []
  pub request : f.kind ≡ Request → f.id.node ≢ n
  pub reply : f.kind ≡ Reply → is_unanswered host.history f.id ≡ true

-- How many requests of its plan a host has still to make.
abbrev pub asks_left : HostIs → ℕ
asks_left host = length host.plan.requests - length (requests_in host.history)

-- A host's worker: its node, whether it keeps to a budget of Passes, and how many it made, up to
-- the largest number of 32 bits.
pub record HostWorkerIs : Type 0 where
  pub node : ℕ
  pub budget : Bool
  pub passes : ℕ

-- A worker counts the Pass of a turn after which the node stays.
abbrev pub after_turn : HostWorkerIs → Bool → HostWorkerIs
after_turn w true = w
after_turn w false = record w { passes = min (w.passes + 1) 4294967295 }

-- A worker's count is that of its node's Passes on the ring, up to the largest number of 32 bits.
abbrev pub CountsPasses : HostWorkerIs → List RingEntry → Type 0
CountsPasses w ring = w.passes ≡ min (count_by is_pass (own w.node ring)) 4294967295

-- ---- What a hold of the token is to a host.

-- A host, by its plan and its list.
abbrev pub host_at : HostPlan → List HostEntry → HostIs
host_at plan list = record { plan = plan; history = list }

-- The number of the hold that runs: one more than the node made Passes.
abbrev pub hold_of : ℕ → List RingEntry → ℕ
hold_of n ring = 1 + count_by is_pass (own n ring)

-- ---- First: what came is served.

-- What a host notes of a frame that its node took: a Reply is the answer to its call, a Request is
-- refused, and of one for statistics the host knows nothing.
abbrev pub host_notes_of_request : Bool → Frame → List HostEntry
host_notes_of_request true f = []
host_notes_of_request false f = Served f.id f.pdu (refusal_to f.pdu) ∷ []

abbrev pub host_notes_of_kind : FrameKind → Frame → List HostEntry
host_notes_of_kind Reply f = Answer f.id (results.Reply f.pdu) ∷ []
host_notes_of_kind Request f = host_notes_of_request (is_for_stats f) f

abbrev pub host_notes_of : Frame → List HostEntry
host_notes_of f = host_notes_of_kind f.kind f

-- A Request for statistics was taken, and replied to with what the port's operation came to.
pub record TellsTaken (n : ℕ) (f : Frame) (entries : List RingEntry) : Type 0 where
  pub op : LocalOp
  pub result : MstrResult
  pub answers : request_of op ≡ Some f.pdu
  pub entries_are : entries
      ≡ Take n f ∷ Local n f.id op result ∷ Post n (reply_frame f.id (reply_of result)) ∷ []

-- What a node does on the ring with a frame: it takes it, and posts the Reply to a Request.
abbrev pub ServesRequest : Bool → ℕ → Frame → List RingEntry → Type 0
ServesRequest true n f entries = TellsTaken n f entries
ServesRequest false n f entries =
    entries ≡ Take n f ∷ Post n (reply_frame f.id (refusal_to f.pdu)) ∷ []

abbrev pub ServesKind : FrameKind → ℕ → Frame → List RingEntry → Type 0
ServesKind Reply n f entries = entries ≡ Take n f ∷ []
ServesKind Request n f entries = ServesRequest (is_for_stats f) n f entries

abbrev pub ServesFrame : ℕ → Frame → List RingEntry → Type 0
ServesFrame n f entries = ServesKind f.kind n f entries

-- What came of a frame after its Take.
pub record ServesTaken (alone : Bool) (n : ℕ) (f : Frame) (list new_list : List HostEntry)
    (ring new_ring : List RingEntry) : Type 0 where
  pub rest : List RingEntry
  pub serves : ServesFrame n f (Take n f ∷ rest)
  pub grew : Grew alone (is_of n) ring rest new_ring
  pub notes : new_list ≡ list ++ host_notes_of f

-- A host's node served some frames in their order.
pub record ServesFrames (alone : Bool) (n : ℕ) (frames : List Frame)
    (list new_list : List HostEntry) (ring new_ring : List RingEntry) : Type 0 where
  pub parts : List (List RingEntry)
  pub serves : AllZip (ServesFrame n) frames parts
  pub grew : Grew alone (is_of n) ring (flat_map (λ part. part) parts) new_ring
  pub notes : new_list ≡ list ++ flat_map host_notes_of frames

-- All that lay in the inbox was served, and nothing lies there any more.
pub record ServesInbox (alone : Bool) (net : NetPlan) (n : ℕ)
    (list new_list : List HostEntry) (ring new_ring : List RingEntry) : Type 0 where
  pub all : ServesFrames alone n (inbox_of net n ring) list new_list ring new_ring
  pub empty : inbox_of net n new_ring ≡ []

-- ---- Second: requests are made.

abbrev pub ask_entry_of : Frame → HostEntry
ask_entry_of f = Ask f.id (frame_route f) f.pdu

-- A host made and posted some Requests in their order: each was the one that was due after those
-- before it, which is the next of the plan, on the least free path.
pub record AsksInOrder (alone : Bool) (n : ℕ) (plan : HostPlan) (hold : ℕ) (asks : List Frame)
    (list new_list : List HostEntry) (ring new_ring : List RingEntry) : Type 0 where
  pub each : (before after : List Frame) (ask : Frame) → asks ≡ before ++ ask ∷ after
      → due_request (host_at plan (list ++ map ask_entry_of before)) hold ≡ Some ask
  pub asked : new_list ≡ list ++ map ask_entry_of asks
  pub grew : Grew alone (is_of n) ring (map (Post n) asks) new_ring

-- The Requests made are all that were due: none is afterwards, or no path is free.
pub record AsksAllDue (alone : Bool) (n : ℕ) (plan : HostPlan) (hold : ℕ) (asks : List Frame)
    (list new_list : List HostEntry) (ring new_ring : List RingEntry) : Type 0 where
  pub in_order : AsksInOrder alone n plan hold asks list new_list ring new_ring
  pub no_more : due_request (host_at plan new_list) hold ≡ None

-- ---- Calls that are given up.

-- A call that was given up, and its word.
pub record GivenUp : Type 0 where
  pub id : CallId
  pub word : ℕ

abbrev pub give_up_of : GivenUp → RingEntry
give_up_of end = GiveUp end.id end.word

abbrev pub bad_answer_of : GivenUp → HostEntry
bad_answer_of end = Answer end.id (results.Bad end.word)

-- By these paths, in their order, each call that may be given up was given up and answered with its
-- word; afterwards there is none.
pub record GivesUpDue (alone : Bool) (net : NetPlan) (n : ℕ) (paths : List ℕ)
    (list new_list : List HostEntry) (ring new_ring : List RingEntry) : Type 0 where
  pub ends : List GivenUp
  pub calls : map (λ (end : GivenUp). end.id) ends ≡ due_calls net n ring paths
  pub grew : Grew alone (is_of n) ring (map give_up_of ends) new_ring
  pub answers : new_list ≡ list ++ map bad_answer_of ends
  pub none_left : due_calls net n new_ring paths ≡ []

-- ---- Third: frames are sent.

-- What a host notes of an entry of the ring that gives a call up.
abbrev pub bad_answer_to : RingEntry → Option HostEntry
bad_answer_to (GiveUp id word) = Some (Answer id (results.Bad word))
bad_answer_to _ = None

-- One of these Requests went on this path.
abbrev pub went_on : List Frame → ℕ → Bool
went_on asks path = list_any (goes_on_path path) asks

-- Frames were sent, and those of the calls on these paths that failed were given up at once and
-- answered with their word.
pub record Sends (alone : Bool) (net : NetPlan) (n : ℕ) (on : ℕ → Bool)
    (list new_list : List HostEntry) (ring new_ring : List RingEntry) : Type 0 where
  pub entries : List RingEntry
  pub grew : Grew alone (is_of n) ring entries new_ring
  pub each : EachNext n (IsNextSending net n on) ring new_ring
  pub answers : new_list ≡ list ++ filter_map bad_answer_to entries

-- A node sent until its outbox was empty, and each call on these paths that failed was given up at
-- once and answered with its word.
pub record SendsOut (alone : Bool) (net : NetPlan) (n : ℕ) (on : ℕ → Bool)
    (list new_list : List HostEntry) (ring new_ring : List RingEntry) : Type 0 where
  pub frames : SendsFrames alone net n on ring new_ring
  pub answers : new_list ≡ list ++ filter_map bad_answer_to frames.done

-- ---- The end, and the whole.

-- Why a host leaves at the end of its turn, if it does.
abbrev pub host_cause : NetPlan → ℕ → HostPlan → Bool → List HostEntry → List RingEntry
    → Option LeaveCause
host_cause net n plan budget list ring =
    cause_due net (ring_after net ring) n (host_is_done (host_at plan list)) budget

-- The end of a host's turn: the node left or passed the token on, as was due, and a Pass said
-- exactly whether the host is done; after a Pass nothing came, after a Leave each call that waited
-- was given up and answered, so that none is without an answer.
pub record EndsHostTurn (alone : Bool) (net : NetPlan) (n : ℕ) (plan : HostPlan) (budget : Bool)
    (list new_list : List HostEntry) (ring new_ring : List RingEntry) (left : Bool) : Type 0 where
  pub handed_ring : List RingEntry
  pub left_is : left ≡ is_some (host_cause net n plan budget list ring)
  pub handed : HandedOn alone net n (host_is_done (host_at plan list)) (words_put n ring)
      (host_cause net n plan budget list ring) ring handed_ring
  pub ends_there : left ≡ false → (new_ring ≡ handed_ring) × (new_list ≡ list)
  pub gives_up : left ≡ true
      → GivesUpDue alone net n network_paths list new_list handed_ring new_ring
  pub answered : left ≡ true → unanswered_in new_list ≡ []

-- A host's turn: its parts one after another, on the host's list and on the ring.
pub record HoldsHostTurn (alone : Bool) (net : NetPlan) (n : ℕ) (plan : HostPlan) (budget : Bool)
    (list new_list : List HostEntry) (ring new_ring : List RingEntry) (left : Bool) : Type 0 where
  pub served_list : List HostEntry
  pub asked_list : List HostEntry
  pub sent_list : List HostEntry
  pub given_list : List HostEntry
  pub served_ring : List RingEntry
  pub asked_ring : List RingEntry
  pub sent_ring : List RingEntry
  pub given_ring : List RingEntry
  pub asks : List Frame
  pub serves : ServesInbox alone net n list served_list ring served_ring
  pub makes : AsksAllDue alone n plan (hold_of n ring) asks served_list asked_list
      served_ring asked_ring
  pub sends : SendsOut alone net n (went_on asks) asked_list sent_list asked_ring sent_ring
  pub gives_up : GivesUpDue alone net n network_paths sent_list given_list sent_ring given_ring
  pub ends : EndsHostTurn alone net n plan budget given_list new_list given_ring new_ring left

-- ---- What the parts of a host's worker say of one another.

-- A path, where it is to be looked at.
abbrev pub wanted_path : Bool → ℕ → List ℕ
wanted_path true path = path ∷ []
wanted_path false path = []

-- The paths that are looked at after a Send: none where the frame arrived, else the fresh ones.
abbrev pub looked_at : Heard → List Bool → List Bool
looked_at Acked fresh = replicate path_places false
looked_at Silent fresh = fresh
looked_at Busy fresh = fresh

-- A path's call has not failed, nor waited for a Pass.
abbrev pub IsRecent : Await → Type 0
IsRecent Nothing = Unit {0}
IsRecent (Out seq to onward passes) = passes ≡ 0
IsRecent (Arrived seq) = Unit {0}
IsRecent (Failed seq word) = ⊥

abbrev pub AreRecent : (ℕ → Bool) → NodeIs → Type 0
AreRecent on part =
    (path : ℕ) → IsPath path → on path ≡ true → IsRecent (path_of part path).awaits

-- A host made the request that was due and posted it on this path.
pub record AskedOnce (alone : Bool) (net : NetPlan) (n hold : ℕ) (path : ℕ) (old new : HostIs)
    (ring new_ring : List RingEntry) : Type 0 where
  pub ask : Frame
  pub due : due_request old hold ≡ Some ask
  pub asked : new.history ≡ old.history ++ ask_entry_of ask ∷ []
  pub grew : Grew alone (is_of n) ring (Post n ask ∷ []) new_ring
  pub path_is : ask.id.path ≡ path
  pub is_path : IsPath path
  pub out : path_of (ring_node (ring_after net new_ring) n) path
      ≡ record { awaits = Out ask.id.seq ask.to (is_onward ask) 0; posted = ask.id.seq }
  pub others : (p : ℕ) → p ≢ path → path_of (ring_node (ring_after net new_ring) n) p
      ≡ path_of (ring_node (ring_after net ring) n) p
  pub fewer : asks_left new < asks_left old

-- No request was due.
pub record AskedNone (hold : ℕ) (old new : HostIs) (ring new_ring : List RingEntry)
    : Type 0 where
  pub none : due_request new hold ≡ None
  pub same : new.history ≡ old.history
  pub ring_same : new_ring ≡ ring

abbrev pub AskedNext : Bool → NetPlan → ℕ → ℕ → HostIs → HostIs → List RingEntry
    → List RingEntry → Option ℕ → Type 0
AskedNext alone net n hold old new ring new_ring (Some path) =
    AskedOnce alone net n hold path old new ring new_ring
AskedNext alone net n hold old new ring new_ring None = AskedNone hold old new ring new_ring

-- All requests that were due were made, on the paths that an array notes.
pub record AskedAll (alone : Bool) (net : NetPlan) (n : ℕ) (plan : HostPlan) (hold : ℕ)
    (list new_list : List HostEntry) (ring new_ring : List RingEntry) (fresh : List Bool)
    : Type 0 where
  pub asks : List Frame
  pub all : AsksAllDue alone n plan hold asks list new_list ring new_ring
  pub paths : (path : ℕ) → is_chosen fresh path ≡ went_on asks path
  pub new_calls : AreRecent (is_chosen fresh) (ring_node (ring_after net new_ring) n)
