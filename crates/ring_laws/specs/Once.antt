-- What every legal history of a ring says of its Requests and Replies. This project's own.
use Rattle.std.specs.Prelude.{◌≡◌, ◌≢◌, ℕ, ◌<◌, ◌≤◌, ◌⊎◌, Bool, false, List, count_by, All}
use Rattle.std.specs.Prelude.{Contains}
use Rattle.ring_core.specs.MstrBlock.{CallId}
use Rattle.ring_core.specs.declared.frame.FrameKind.TheVariants.{Request, Reply}
use Rattle.ring_core.specs.declared.frame.Frame.{Frame}
use Rattle.plant_types.specs.declared.net.NetPlan.{NetPlan}
use Rattle.ring_core.specs.declared.entry.RingEntry.{RingEntry}
use Rattle.ring_core.specs.declared.entry.RingEntry.TheVariants.{Post, Take, GiveUp}
use Rattle.ring_core.specs.Words.{asks_for}
use Rattle.ring_core.specs.Machine.{addresses, ring_node, ring_after}
use Rattle.ring_core.specs.Legal.{IsLegalRing}

-- An entry posts a Request of this call.
abbrev pub posts : CallId → RingEntry → Bool
posts id (Post n f) = asks_for id f
posts id _ = false

-- An entry takes a Request of this call.
abbrev pub takes : CallId → RingEntry → Bool
takes id (Take n f) = asks_for id f
takes id _ = false

-- A legal history of a net whose members' addresses are those of a ring.
pub record IsRingHistory (net : NetPlan) (history : List RingEntry) : Type 0 where
  pub members : All (λ m. m < addresses) net.members
  pub legal : IsLegalRing net history

-- A call is asked for at most once.
abbrev pub PostedOnce : Type 0
PostedOnce = (net : NetPlan) (history : List RingEntry) (id : CallId) →
    IsRingHistory net history → count_by (posts id) history ≤ 1

-- A Request is taken at most once, however often it was sent.
abbrev pub TakenOnce : Type 0
TakenOnce = (net : NetPlan) (history : List RingEntry) (id : CallId) →
    IsRingHistory net history → count_by (takes id) history ≤ 1

-- A frame was accepted by a node: it is in the inbox, or the node took it.
abbrev pub Accepted : NetPlan → List RingEntry → ℕ → Frame → Type 0
Accepted net history n f =
    Contains (ring_node (ring_after net history) n).inbox f ⊎ Contains history (Take n f)

-- A Request that a node accepted was posted to it by the caller, another node.
abbrev pub OnlyItsTarget : Type 0
OnlyItsTarget = (net : NetPlan) (history : List RingEntry) (n : ℕ) (f : Frame) →
    IsRingHistory net history → Accepted net history n f → f.kind ≡ Request →
    (f.to ≡ n) × (f.id.node ≢ n) × Contains history (Post f.id.node f)

-- A node took a Request of this call.
pub record TookCall (history : List RingEntry) (n : ℕ) (id : CallId) : Type 0 where
  pub request : Frame
  pub taken : Contains history (Take n request)
  pub kind : request.kind ≡ Request
  pub same : request.id ≡ id

-- Each Reply was posted by a node that took a Request of its call.
abbrev pub AnswersWhatItTook : List RingEntry → Type 0
AnswersWhatItTook history = (k : ℕ) (f : Frame) → Contains history (Post k f) →
    f.kind ≡ Reply → TookCall history k f.id

-- Where a Reply comes from: the caller's Request went to a node, which took it and posted this.
pub record AnsweredBy (history : List RingEntry) (n : ℕ) (reply : Frame) : Type 0 where
  pub by : ℕ
  pub other : by ≢ n
  pub posted : Contains history (Post by reply)
  pub request : Frame
  pub kind : request.kind ≡ Request
  pub same : request.id ≡ reply.id
  pub asked : Contains history (Post n request)
  pub to : request.to ≡ by
  pub taken : Contains history (Take by request)

-- A Reply that a node accepted was posted by the node that took its Request, where no node answers
-- what it did not take.
abbrev pub ReplyByTaker : Type 0
ReplyByTaker = (net : NetPlan) (history : List RingEntry) (n : ℕ) (f : Frame) →
    IsRingHistory net history → AnswersWhatItTook history →
    Accepted net history n f → f.kind ≡ Reply → (f.id.node ≡ n) × AnsweredBy history n f

-- What a node asked: its own Request of this call.
pub record HasAsked (history : List RingEntry) (n : ℕ) (id : CallId) : Type 0 where
  pub request : Frame
  pub posted : Contains history (Post n request)
  pub kind : request.kind ≡ Request
  pub same : request.id ≡ id

-- Whoever answers, a Reply that a node accepted is to a call of its own, and of another node.
abbrev pub ReplyToItsCaller : Type 0
ReplyToItsCaller = (net : NetPlan) (history : List RingEntry) (n : ℕ) (f : Frame) →
    IsRingHistory net history → Accepted net history n f → f.kind ≡ Reply →
    (f.to ≡ n) × (f.id.node ≡ n) × HasAsked history n f.id ×
    ((k : ℕ) × (k ≢ n) × Contains history (Post k f))

-- The words with which a call ends that got no reply.
abbrev pub IsFailWord : ℕ → Type 0
IsFailWord word = (word ≡ 0x6101) ⊎ ((word ≡ 0x6103) ⊎ (word ≡ 0x6105))

-- A call that is given up ends with one of the three.
abbrev pub GivenUpWord : Type 0
GivenUpWord = (net : NetPlan) (history : List RingEntry) (id : CallId) (word : ℕ) →
    IsRingHistory net history → Contains history (GiveUp id word) → IsFailWord word
