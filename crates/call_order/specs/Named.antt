-- What stands after what on the one order of a ring of a joint history and of the stations there,
-- by the names of calls. This project's own.
use Rattle.std.specs.Prelude.{◌≡◌, ◌⊎◌, ℕ, List, [], ◌∷◌, ◌++◌, map, filter_map, Some, None}
use Rattle.std.specs.List.{cons_option, flat_map, Contains, AllByRecursion as Each}
use Rattle.plant_types.specs.declared.plan.Plant.{Plant}
use Rattle.plant_types.specs.Plans.{IsPlant, ends_on}
use Rattle.controller_core.specs.declared.entry.Entry.{Entry}
use Rattle.controller_core.specs.declared.entry.Entry.TheVariants as entries
use Rattle.host_port.specs.declared.entry.HostEntry.{HostEntry}
use Rattle.host_port.specs.declared.entry.HostEntry.TheVariants as hosts
use Rattle.mstr_block.specs.declared.call.CallId.{CallId}
use Rattle.ring_core.specs.Words.{frame_route, maker}
use Rattle.ring_core.specs.declared.frame.Frame.{Frame}
use Rattle.ring_core.specs.declared.frame.FrameKind.TheVariants.{Request, Reply}
use Rattle.ring_core.specs.declared.entry.RingEntry.{RingEntry}
use Rattle.ring_core.specs.declared.entry.RingEntry.TheVariants.{Post, Take}
use Rattle.ring_laws.specs.Once.{TookCall, AnsweredBy as Replied}
use Rattle.tied_lists.specs.Items.{Asked, Answered, RequestItem, Ended, AController, net_ask}
use Rattle.tied_lists.specs.Items.{taken_of, plain_items, stats_items, item_of, answered_of}
use Rattle.tied_lists.specs.Items.{ended_of}
use Rattle.joint_history.specs.declared.joint.RingLog.{RingLog}
use Rattle.joint_history.specs.declared.joint.Joint.{Joint}
use Rattle.joint_history.specs.JointLaws.{IsJoint, IsLegalJoint}
use Rattle.joint_history.specs.Reading.{called_of, answered_here}
use Rattle.one_order.specs.Orders.{Event, AtStation, AtRing, Log, on_ring, at_station, own_of}
use Rattle.entry_causes.specs.Causes.{StationEntry, ByController, ByHost}
use Rattle.entry_causes.specs.Joint.{stations_on, RingIsInOneOrder}

-- The requests that an entry of a station asks of other nodes.
abbrev pub entry_asks : Entry → List Asked
entry_asks (entries.Collect calls) = filter_map net_ask (map called_of calls)
entry_asks _ = []

abbrev pub host_asks : HostEntry → List Asked
host_asks (hosts.Ask id route pdu) = record { id = id; route = route; pdu = pdu } ∷ []
host_asks _ = []

abbrev pub asks_in : StationEntry → List Asked
asks_in (ByController e) = entry_asks e
asks_in (ByHost e) = host_asks e

-- The request that it answers, with the reply, or with none where it came without power.
abbrev pub entry_answers : Entry → List Answered
entry_answers (entries.Peer id request reply) = answered_here id request (Some reply) ∷ []
entry_answers (entries.Off id request) = answered_here id request None ∷ []
entry_answers _ = []

abbrev pub host_answers : HostEntry → List Answered
host_answers (hosts.Served id request reply) = answered_here id request (Some reply) ∷ []
host_answers _ = []

abbrev pub answers_in : StationEntry → List Answered
answers_in (ByController e) = entry_answers e
answers_in (ByHost e) = host_answers e

-- The call that it ends.
abbrev pub entry_ends : Entry → List CallId
entry_ends (entries.Finish id result) = id ∷ []
entry_ends _ = []

abbrev pub host_ends : HostEntry → List CallId
host_ends (hosts.Answer id result) = id ∷ []
host_ends _ = []

abbrev pub ends_in : StationEntry → List CallId
ends_in (ByController e) = entry_ends e
ends_in (ByHost e) = host_ends e

-- The Request for its station that a node takes by an entry.
abbrev pub takes_in : RingEntry → List RequestItem
takes_in r = plain_items (cons_option (taken_of r) [])

-- The request for statistics that it takes.
abbrev pub port_takes_in : RingEntry → List RequestItem
port_takes_in r = stats_items (cons_option (taken_of r) [])

-- The request for statistics that its port answers, with the reply.
abbrev pub port_answers_in : RingEntry → List Answered
port_answers_in r = cons_option (answered_of r) []

-- The call that is over: its Reply was taken, it was given up, or the port did it.
abbrev pub end_id : Ended → CallId
end_id e = e.id

abbrev pub overs_in : RingEntry → List CallId
overs_in r = map end_id (cons_option (ended_of AController [] r) [])

abbrev pub Order : Type 0
Order = List (Event StationEntry RingEntry)

-- What a station noted, and what its node did, in a front of an order.
abbrev pub own_in : ℕ → Order → List RingEntry
own_in n front = own_of maker n (on_ring front)

-- Each Request that the node posted stands after the entry that asked it, of its name, by its
-- route and with its bytes.
abbrev pub PostsFollowAsks : ℕ → Order → Type 0
PostsFollowAsks n order = (before after : Order) (f : Frame)
    → order ≡ before ++ AtRing (Post n f) ∷ after → f.kind ≡ Request
    → Contains (flat_map asks_in (at_station n before))
    (record { id = f.id; route = frame_route f; pdu = f.pdu })

-- Each answer of the station stands after the Take of its request, of its name, addresses and
-- bytes.
abbrev pub AnswersFollowTakes : ℕ → Order → Type 0
AnswersFollowTakes n order = (before after : Order) (e : StationEntry) (answer : Answered)
    → order ≡ before ++ AtStation n e ∷ after → answers_in e ≡ answer ∷ []
    → Contains (flat_map takes_in (own_in n before)) (item_of answer)

-- Each answer of the port to a request for statistics stands after the Take of that request.
abbrev pub PortAnswersFollowTakes : ℕ → Order → Type 0
PortAnswersFollowTakes n order = (before after : Order) (r : RingEntry) (answer : Answered)
    → order ≡ before ++ AtRing r ∷ after → maker r ≡ n → port_answers_in r ≡ answer ∷ []
    → Contains (flat_map port_takes_in (own_in n before)) (item_of answer)

-- Among these answers is the one that a Reply carries: to its call, with its bytes.
pub record Carries (f : Frame) (answers : List Answered) : Type 0 where
  pub answer : Answered
  pub among : Contains answers answer
  pub call : answer.id ≡ f.id
  pub reply : answer.reply ≡ Some f.pdu

-- Each Reply that the node posted stands after its answer, by the station or by the port.
abbrev pub ReplyPostsFollowAnswers : ℕ → Order → Type 0
ReplyPostsFollowAnswers n order = (before after : Order) (f : Frame)
    → order ≡ before ++ AtRing (Post n f) ∷ after → f.kind ≡ Reply
    → Carries f (flat_map answers_in (at_station n before))
    ⊎ Carries f (flat_map port_answers_in (own_in n before))

-- Each Reply that the node posted stands after the Take of the request of its call.
abbrev pub ReplyPostsFollowTakes : ℕ → Order → Type 0
ReplyPostsFollowTakes n order = (before after : Order) (f : Frame)
    → order ≡ before ++ AtRing (Post n f) ∷ after → f.kind ≡ Reply
    → TookCall (on_ring before) n f.id

-- Each end of a call stands after what ended it, of its name.
abbrev pub EndsFollowOvers : ℕ → Order → Type 0
EndsFollowOvers n order = (before after : Order) (e : StationEntry) (id : CallId)
    → order ≡ before ++ AtStation n e ∷ after → ends_in e ≡ id ∷ []
    → Contains (flat_map overs_in (own_in n before)) id

-- Each Request that was taken stands after its Post by the caller, and each Reply after a Post of
-- it.
abbrev pub TakesFollowPosts : Order → Type 0
TakesFollowPosts order = (before after : Order) (n : ℕ) (f : Frame)
    → order ≡ before ++ AtRing (Take n f) ∷ after → f.kind ≡ Request
    → Contains (on_ring before) (Post f.id.node f)

abbrev pub ReplyTakesFollowPosts : Order → Type 0
ReplyTakesFollowPosts order = (before after : Order) (n : ℕ) (f : Frame)
    → order ≡ before ++ AtRing (Take n f) ∷ after → f.kind ≡ Reply
    → (by : ℕ) × Contains (on_ring before) (Post by f)

-- The entries of all calls of some stations stand in order on a ring.
pub record NamesStandInOrder (stations : List (Log StationEntry)) (order : Order)
    : Type 0 where
  pub posts : Each (λ (log : Log StationEntry). PostsFollowAsks log.node order) stations
  pub answers : Each (λ (log : Log StationEntry). AnswersFollowTakes log.node order) stations
  pub port_answers : Each (λ (log : Log StationEntry). PortAnswersFollowTakes log.node order)
      stations
  pub reply_posts : Each (λ (log : Log StationEntry). ReplyPostsFollowAnswers log.node order)
      stations
  pub reply_requests : Each (λ (log : Log StationEntry). ReplyPostsFollowTakes log.node order)
      stations
  pub ends : Each (λ (log : Log StationEntry). EndsFollowOvers log.node order) stations
  pub takes : TakesFollowPosts order
  pub reply_takes : ReplyTakesFollowPosts order

-- A Reply that was taken stands after its Post by an end of a bridge.
abbrev pub FollowsPostByEnd : List ℕ → List RingEntry → Frame → Type 0
FollowsPostByEnd ends before f = (by : ℕ) × Contains ends by × Contains before (Post by f)

-- Each Reply that is taken stands after its Post by the node that took its Request, to which the
-- caller had posted it, where that is a station's; else after its Post by an end of a bridge.
abbrev pub ReplyTakesFollowTargets : List ℕ → Order → Type 0
ReplyTakesFollowTargets ends order = (before after : Order) (n : ℕ) (f : Frame)
    → order ≡ before ++ AtRing (Take n f) ∷ after → f.kind ≡ Reply
    → Replied (on_ring before) n f ⊎ FollowsPostByEnd ends (on_ring before) f

-- A ring of a plant's joint history.
pub record IsRingOf (plant : Plant) (scans : ℕ) (joint : Joint) (ring : RingLog)
    : Type 0 where
  pub sound : IsPlant plant
  pub legal : IsLegalJoint plant scans joint
  pub tied : IsJoint joint
  pub there : Contains joint.rings ring

-- The entries of all calls stand in order on the one order of each ring and of the stations on its
-- network.
abbrev pub CallsStandInOrder : Type 0
CallsStandInOrder = (plant : Plant) (scans : ℕ) (joint : Joint) (ring : RingLog)
    → IsRingOf plant scans joint ring → (one : RingIsInOneOrder plant joint ring)
    → NamesStandInOrder (stations_on plant ring.network joint) one.order

-- Replies on the one order of a ring come from the targets of their calls, or from ends of bridges
-- there.
abbrev pub RepliesComeFromTargets : Type 0
RepliesComeFromTargets = (plant : Plant) (scans : ℕ) (joint : Joint) (ring : RingLog)
    → IsRingOf plant scans joint ring → (one : RingIsInOneOrder plant joint ring)
    → ReplyTakesFollowTargets (ends_on plant ring.network) one.order
