-- Legal histories of the ring. This project's own.
use Rattle.std.specs.Prelude.{◌≡◌, ◌≢◌, ℕ, ◌<◌, ◌≤◌, List, [], ◌∷◌, ◌++◌, length, None, Contains}
use Rattle.plant_types.specs.Words.{global_limit}
use Rattle.ring_core.specs.Words.{CallId, FrameKind, Request, Reply, Frame, LocalOp, PutGlobal}
use Rattle.ring_core.specs.Words.{Heard, NetPlan, RingEntry, Post, Send, Take, Local, GiveUp, Pass}
use Rattle.ring_core.specs.Words.{Leave, Join}
use Rattle.ring_core.specs.Machine.{NodeIs, RingIs, ring_node, path_of, fate_at, arrival, heard_of}
use Rattle.ring_core.specs.Machine.{ring_after, took}
use Rattle.ring_core.specs.Refusals.{turn_no, free_no, post_no, send_no, pass_no, leave_no}
use Rattle.ring_core.specs.Refusals.{give_up_no, join_no, word_of}
use Rattle.ring_core.specs.Scratch.{words_put, local_result}

-- A node of the plan, whether or not it has left.
abbrev pub IsMember : NetPlan → ℕ → Type 0
IsMember net n = Contains net.members n

-- The four paths of a node. Modbus Plus Network Planning and Installation Guide.
abbrev pub IsPath : ℕ → Type 0
IsPath path = (1 ≤ path) × (path ≤ 4)

-- Conditions of a Post: of the frame alone, and of the path.
abbrev pub IsFrom : ℕ → FrameKind → Frame → Type 0
IsFrom n Request f = (f.id.node ≡ n) × (f.to ≢ n) × IsPath f.id.path
IsFrom n Reply f = (f.to ≡ f.id.node) × (f.to ≢ n) × (f.rest ≡ [])

-- A Request's number is above all that were posted on its path.
abbrev pub IsNextNumber : NodeIs → FrameKind → CallId → Type 0
IsNextNumber c Request id = (path_of c id.path).posted < id.seq
IsNextNumber c Reply id = Unit {0}

-- Condition of a Local: at most 32 words are put.
abbrev pub HasRoom : LocalOp → Type 0
HasRoom (PutGlobal words) = length words ≤ global_limit
HasRoom _ = Unit {0}

-- The first frame of a box.
abbrev pub IsFirst : List Frame → Frame → Type 0
IsFirst [] f = ⊥
IsFirst (g ∷ gs) f = g ≡ f

-- The first frame of a node's inbox was taken.
abbrev pub TookFirst : NodeIs → NodeIs → Frame → Type 0
TookFirst old new f = IsFirst old.inbox f × (new ≡ took old f.kind f.id)

-- What is told of the first frame.
abbrev pub IsHeard : NetPlan → RingIs → List Frame → Heard → Type 0
IsHeard net r [] heard = ⊥
IsHeard net r (f ∷ fs) heard =
    let fate = fate_at net.fates r.sent in
    heard ≡ heard_of fate (arrival net r.nodes fate f)

-- What an entry owes by itself, whatever was before.
abbrev pub IsLawful : NetPlan → RingEntry → Type 0
IsLawful net (Post n f) = IsMember net n × IsFrom n f.kind f
IsLawful net (Send n heard) = IsMember net n
IsLawful net (Take n f) = IsMember net n
IsLawful net (Local n id op result) = IsMember net n × HasRoom op
IsLawful net (GiveUp id word) = IsMember net id.node × IsPath id.path
IsLawful net (Pass n done words) = IsMember net n
IsLawful net (Leave n cause) = IsMember net n
IsLawful net (Join n) = IsMember net n

-- After a history its call is not refused, and its values are those of its effect.
abbrev pub IsTimelyEntry : NetPlan → List RingEntry → RingIs → RingEntry → Type 0
IsTimelyEntry net past r (Post n f) = IsNextNumber (ring_node r n) f.kind f.id × (post_no r n f ≡
    None)
IsTimelyEntry net past r (Send n heard) =
    (send_no r n ≡ None) × IsHeard net r (ring_node r n).outbox heard
IsTimelyEntry net past r (Take n f) = (turn_no r n ≡ None) × IsFirst (ring_node r n).inbox f
IsTimelyEntry net past r (Local n id op result) =
    (free_no r n ≡ None) × (result ≡ local_result net past n op)
IsTimelyEntry net past r (GiveUp id word) = (give_up_no net r id ≡ None) × (word ≡ word_of net r id)
IsTimelyEntry net past r (Pass n done words) = (pass_no r n ≡ None) × (words ≡ words_put n past)
IsTimelyEntry net past r (Leave n cause) = leave_no net r n cause ≡ None
IsTimelyEntry net past r (Join n) = join_no r n ≡ None

-- An entry is a step after a history.
abbrev pub IsRingStep : NetPlan → List RingEntry → RingEntry → Type 0
IsRingStep net past e = IsLawful net e × IsTimelyEntry net past (ring_after net past) e

-- Entries are steps one after another.
abbrev pub IsRun : NetPlan → List RingEntry → List RingEntry → Type 0
IsRun net past [] = Unit {0}
IsRun net past (e ∷ es) = IsRingStep net past e × IsRun net (past ++ e ∷ []) es

abbrev pub IsLegalRing : NetPlan → List RingEntry → Type 0
IsLegalRing net history = IsRun net [] history
