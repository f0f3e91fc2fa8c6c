-- What a legal history carries: how the ring's boxes, paths and numbers rest on the entries so far.
-- This project's own.
use Rattle.std.proofs.Common.{◌≡◌, ℕ, ◌+◌, ◌<◌, ◌≤◌, ◌==◌, ◌&&◌, Bool, false, List, [], ◌∷◌, length}
use Rattle.std.proofs.Common.{get_or, count_by, Contains}
use Rattle.ring_core.specs.MstrBlock.{CallId}
use Rattle.ring_core.specs.declared.frame.FrameKind.{FrameKind}
use Rattle.ring_core.specs.declared.frame.FrameKind.TheVariants.{Request, Reply}
use Rattle.ring_core.specs.declared.frame.Frame.{Frame}
use Rattle.plant_types.specs.declared.net.NetPlan.{NetPlan}
use Rattle.ring_core.specs.declared.entry.RingEntry.{RingEntry}
use Rattle.ring_core.specs.declared.entry.RingEntry.TheVariants.{Post, Take, GiveUp}
use Rattle.ring_core.specs.Words.{asks_for}
use Rattle.ring_core.specs.declared.path.Await.{Await}
use Rattle.ring_core.specs.declared.path.Await.TheVariants.{Nothing, Out, Arrived, Failed}
use Rattle.ring_core.specs.declared.path.Path.{Path}
use Rattle.ring_core.specs.Machine.{NodeIs, RingIs, addresses, path_places, no_path}
use Rattle.ring_core.specs.Machine.{ring_node, AcceptedIs, accepted_of}
use Rattle.ring_core.specs.Legal.{IsLawful}
use Rattle.ring_laws.specs.Once.{posts, HasAsked, IsFailWord}

-- All of a list.
abbrev pub Each : {X : Type 0} → (X → Type 0) → List X → Type 0
Each P [] = Unit {0}
Each P (x ∷ xs) = P x × Each P xs

-- A node takes a Request of this call.
abbrev pub takes_at : ℕ → CallId → RingEntry → Bool
takes_at n id (Take m f) = (m == n) && asks_for id f
takes_at n id _ = false

-- A frame that its sender posted, as it may.
abbrev pub Sending : NetPlan → List RingEntry → ℕ → Frame → Type 0
Sending net h n f = Contains h (Post n f) × IsLawful net (Post n f)

abbrev pub AskedIfReply : List RingEntry → ℕ → CallId → FrameKind → Type 0
AskedIfReply h n id Request = Unit {0}
AskedIfReply h n id Reply = HasAsked h n id

-- A frame that came to a node: it goes there, somebody posted it, and a Reply is to what it asked.
pub record CameTo (net : NetPlan) (h : List RingEntry) (n : ℕ) (f : Frame) : Type 0 where
  pub to : f.to ≡ n
  pub by : ℕ
  pub sent : Sending net h by f
  pub asked : AskedIfReply h n f.id f.kind

-- What a path awaits was asked; what failed has one of the three words.
abbrev pub IsAskedFor : List RingEntry → ℕ → ℕ → Await → Type 0
IsAskedFor h n p Nothing = Unit {0}
IsAskedFor h n p (Out seq to onward passes) =
    HasAsked h n (record { node = n; path = p; seq = seq })
IsAskedFor h n p (Arrived seq) = HasAsked h n (record { node = n; path = p; seq = seq })
IsAskedFor h n p (Failed seq word) = IsFailWord word

-- At most once, and not at all above the mark.
pub record Below (count mark number : ℕ) : Type 0 where
  pub once : count ≤ 1
  pub none : mark < number → count ≡ 0

-- A node's paths, greatest accepted numbers and boxes after the entries.
pub record PartsRest (net : NetPlan) (h : List RingEntry) (n : ℕ) (paths : List Path)
    (accepted : AcceptedIs) (outbox inbox : List Frame) : Type 0 where
  pub paths_all : length paths ≡ path_places
  pub sending : Each (Sending net h n) outbox
  pub coming : Each (CameTo net h n) inbox
  pub awaits : (p : ℕ) → IsAskedFor h n p (get_or paths p no_path).awaits
  pub asked : (id : CallId) → id.node ≡ n →
      Below (count_by (posts id) h) (get_or paths id.path no_path).posted id.seq
  pub seen : (id : CallId) →
      Below (count_by (takes_at n id) h + count_by (asks_for id) inbox)
      (accepted_of accepted id) id.seq

abbrev pub NodeRests : NetPlan → List RingEntry → ℕ → NodeIs → Type 0
NodeRests net h n c = PartsRest net h n c.paths c.accepted c.outbox c.inbox

-- What an entry rests on.
abbrev pub EntryRests : NetPlan → List RingEntry → RingEntry → Type 0
EntryRests net h (Take n f) = CameTo net h n f
EntryRests net h (GiveUp id word) = IsFailWord word
EntryRests net h _ = Unit {0}

pub record RingRests (net : NetPlan) (h : List RingEntry) (r : RingIs) : Type 0 where
  pub size : length r.nodes ≡ addresses
  pub nodes : (n : ℕ) → NodeRests net h n (ring_node r n)
  pub entries : Each (EntryRests net h) h
