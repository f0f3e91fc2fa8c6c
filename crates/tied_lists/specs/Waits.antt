-- What a node's own list says of its paths. This project's own.
use Rattle.std.specs.Prelude.{◌≡◌, ◌≢◌, ◌⊎◌, ℕ, ◌<◌, ◌==◌, Bool, true, false, if◌then◌else◌, List}
use Rattle.std.specs.Prelude.{[], ◌∷◌, ◌++◌, Option, Some, None, All}
use Rattle.ring_core.specs.Machine.{addresses, ring_node, ring_after, is_here}
use Rattle.ring_core.specs.Legal.{IsMember, IsPath, IsLegalRing}
use Rattle.ring_core.specs.declared.path.Await.{Await}
use Rattle.ring_core.specs.declared.path.Await.TheVariants.{Nothing, Out, Arrived, Failed}
use Rattle.tied_lists.specs.Words.{FrameKind, Request, Reply, Frame, NetPlan, RingEntry}
use Rattle.tied_lists.specs.Words.{Post, Take, GiveUp, NodeStatus, In, Away, Asking, Gone}

-- The Request that a path waits for: the one posted there last, until its Reply is taken or it is
-- given up.
abbrev pub waits_posted : ℕ → Option Frame → FrameKind → Frame → Option Frame
waits_posted p now Request f = if f.id.path == p then Some f else now
waits_posted p now Reply f = now

abbrev pub waits_taken : ℕ → Option Frame → FrameKind → Frame → Option Frame
waits_taken p now Request f = now
waits_taken p now Reply f = if f.id.path == p then None else now

abbrev pub waits_next : ℕ → Option Frame → RingEntry → Option Frame
waits_next p now (Post n f) = waits_posted p now f.kind f
waits_next p now (Take n f) = waits_taken p now f.kind f
waits_next p now (GiveUp id word) = if id.path == p then None else now
waits_next p now _ = now

abbrev pub waits_after : ℕ → Option Frame → List RingEntry → Option Frame
waits_after p now [] = now
waits_after p now (e ∷ es) = waits_after p (waits_next p now e) es

abbrev pub waiting : ℕ → List RingEntry → Option Frame
waiting p b = waits_after p None b

-- The number of the Request that was posted last on a path; 0 for none.
abbrev pub number_posted : ℕ → ℕ → FrameKind → Frame → ℕ
number_posted p now Request f = if f.id.path == p then f.id.seq else now
number_posted p now Reply f = now

abbrev pub number_next : ℕ → ℕ → RingEntry → ℕ
number_next p now (Post n f) = number_posted p now f.kind f
number_next p now _ = now

abbrev pub number_after : ℕ → ℕ → List RingEntry → ℕ
number_after p now [] = now
number_after p now (e ∷ es) = number_after p (number_next p now e) es

abbrev pub last_number : ℕ → List RingEntry → ℕ
last_number p b = number_after p 0 b

-- A Request of a node on a path.
pub record IsAsk (n p : ℕ) (f : Frame) : Type 0 where
  pub kind : f.kind ≡ Request
  pub node : f.id.node ≡ n
  pub path : f.id.path ≡ p
  pub is_path : IsPath p
  pub number : 0 < f.id.seq
  pub to : f.to ≢ n

-- What a path awaits is the number of the Request that it waits for, or nothing for none.
abbrev pub AwaitsThis : Await → Option Frame → Type 0
AwaitsThis Nothing None = Unit {0}
AwaitsThis (Out seq to onward passes) (Some f) = seq ≡ f.id.seq
AwaitsThis (Arrived seq) (Some f) = seq ≡ f.id.seq
AwaitsThis (Failed seq word) (Some f) = seq ≡ f.id.seq
AwaitsThis _ _ = ⊥

-- Where a node stands toward the ring.
abbrev pub status_at : NetPlan → List RingEntry → ℕ → NodeStatus
status_at net history n = (ring_node (ring_after net history) n).status

-- A node posts nothing while it asks to come in.
abbrev pub IsPatient : NodeStatus → ℕ → RingEntry → Type 0
IsPatient status n (Post m f) = m ≡ n → status ≢ Asking
IsPatient status n _ = Unit {0}

-- Nor does it in a list, behind these entries.
abbrev pub ArePatient : NetPlan → ℕ → List RingEntry → List RingEntry → Type 0
ArePatient net n past [] = Unit {0}
ArePatient net n past (e ∷ es) =
    IsPatient (status_at net past n) n e × ArePatient net n (past ++ e ∷ []) es

-- A legal history of a net whose members' addresses are those of a ring, and one of its members,
-- which posts nothing while it asks to come in.
pub record IsOnRing (net : NetPlan) (history : List RingEntry) (n : ℕ) : Type 0 where
  pub members : All (λ m. m < addresses) net.members
  pub legal : IsLegalRing net history
  pub member : IsMember net n
  pub patient : ArePatient net n [] history

-- A node holds the token.
pub record Holds (net : NetPlan) (history : List RingEntry) (n : ℕ) : Type 0 where
  pub holder : (ring_after net history).holder ≡ n
  pub here : is_here (ring_node (ring_after net history) n) ≡ true

-- A node that has left the ring, and doesn't ask to come in again.
abbrev pub has_left : NodeStatus → Bool
has_left In = false
has_left Away = true
has_left Asking = false
has_left Gone = true

abbrev pub HasLeft : NetPlan → List RingEntry → ℕ → Type 0
HasLeft net history n = has_left (status_at net history n) ≡ true

-- Nobody else changes a node's boxes and paths.
abbrev pub IsFree : NetPlan → List RingEntry → ℕ → Type 0
IsFree net history n = Holds net history n ⊎ HasLeft net history n
