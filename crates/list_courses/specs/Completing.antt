-- What a node has done on the ring so far, and which entries fit that. This project's own.
use Rattle.std.specs.Prelude.{◌≡◌, ◌+◌, ◌<◌, ◌≤◌, ◌^◌, ℕ, Bool, true, false, ◌||◌, List, []}
use Rattle.std.specs.Prelude.{◌∷◌, length, map, count_by, is_some, slice_get, Option, Some, None}
use Rattle.std.specs.List.{cons_option, list_any}
use Rattle.plant_types.specs.declared.net.HostAsk.{HostAsk}
use Rattle.plant_types.specs.declared.net.HostPlan.{HostPlan}
use Rattle.ring_core.specs.declared.frame.FrameKind.{FrameKind}
use Rattle.ring_core.specs.declared.frame.FrameKind.TheVariants.{Request, Reply}
use Rattle.ring_core.specs.declared.entry.LeaveCause.{LeaveCause}
use Rattle.ring_core.specs.declared.entry.LeaveCause.TheVariants.{Ended, Spent, Down}
use Rattle.ring_core.specs.declared.entry.RingEntry.{RingEntry}
use Rattle.ring_core.specs.declared.entry.RingEntry.TheVariants.{Leave, Pass, Post, Take}
use Rattle.tied_lists.specs.Items.{Answered, ForStats, Plain, Taken, asked_by, latest_down}
use Rattle.tied_lists.specs.Items.{replied_by, replies_in, taken_by, taken_in}
use Rattle.joint_history.specs.Complete.{IsOfDone, StandsIn, is_pass}
use Rattle.list_courses.specs.declared.completing.Progress.{Progress}

-- A Pass that says done.
abbrev pub says_done : RingEntry → Bool
says_done (Pass n done words) = done
says_done _ = false

-- A Leave as all was done.
abbrev pub is_all_done : LeaveCause → Bool
is_all_done Ended = true
is_all_done Spent = false
is_all_done (Down number) = false

abbrev pub is_ended : RingEntry → Bool
is_ended (Leave n cause) = is_all_done cause
is_ended _ = false

-- A node that left as all was done had noticed so many power failures.
abbrev pub HasNoticed : ℕ → List RingEntry → Type 0
HasNoticed fails b = list_any is_ended b ≡ true → fails ≡ latest_down b

-- Whether each answer of a station has a reply: one to a request that came without power has none.
abbrev pub given_in : List Answered → List Bool
given_in answers = map is_some (replies_in answers)

-- Whether an answer of a station, if there is one, has a reply.
abbrev pub given_if : Option Answered → List Bool
given_if answer = given_in (cons_option answer [])

-- Whether the first of some answers has a reply, and the others.
abbrev pub first_given : List Bool → Option Bool
first_given [] = None
first_given (given ∷ rest) = Some given

abbrev pub rest_given : List Bool → List Bool
rest_given [] = []
rest_given (given ∷ rest) = rest

-- How many Replies an answer of a station makes due: none where it has no reply, and one that nobody
-- can post where the answer is missing.
abbrev pub one_due : Option Bool → ℕ
one_due None = 1
one_due (Some false) = 0
one_due (Some true) = 1

-- How many Replies are due for some requests, where the port answers each of its own.
abbrev pub due_count : List Taken → List Bool → ℕ
due_count [] given = 0
due_count (Plain id rest pdu ∷ ts) given =
    one_due (first_given given) + due_count ts (rest_given given)
due_count (ForStats id pdu ∷ ts) given = 1 + due_count ts given

-- What is left of the answers of a station after those to some requests.
abbrev pub left_given : List Taken → List Bool → List Bool
left_given [] given = given
left_given (Plain id rest pdu ∷ ts) given = left_given ts (rest_given given)
left_given (ForStats id pdu ∷ ts) given = left_given ts given

-- What a node has done by these entries, whose station's answers have replies or not.
abbrev pub progress_of : List Bool → List RingEntry → Progress
progress_of given b = record {
  passes = count_by is_pass b;
  asked = length (asked_by b);
  replied = length (replied_by b);
  due = due_count (taken_by b) given;
  is_done = list_any says_done b;
}

-- What a node has done with a frame more that it posted.
abbrev pub posted_next : Progress → FrameKind → Progress
posted_next p Request = record p { asked = p.asked + 1 }
posted_next p Reply = record p { replied = p.replied + 1 }

-- What was taken makes so many Replies due.
abbrev pub taken_next : Progress → ℕ → Progress
taken_next p due = record p { due = p.due + due }

-- A Pass counts, and may say done.
abbrev pub passed_next : Progress → Bool → Progress
passed_next p done = record p { passes = p.passes + 1; is_done = p.is_done || done }

-- What a node has done with one more entry, where these answers are left. Every other entry counts
-- nothing.
abbrev pub progress_next : List Bool → Progress → RingEntry → Progress
progress_next left p (Post n f) = posted_next p f.kind
progress_next left p (Take n f) =
    taken_next p (due_count (cons_option (taken_in f.kind f) []) left)
progress_next left p (Pass n done words) = passed_next p done
progress_next left p _ = p

-- Counts that can go on.
pub record IsShort (p : Progress) : Type 0 where
  pub passes : p.passes + 1 < 2 ^ 64
  pub asked : p.asked + 1 < 2 ^ 64
  pub replied : p.replied + 1 < 2 ^ 64
  pub due : p.due + 1 < 2 ^ 64

-- A Pass needs that all Replies that are due were posted.
abbrev pub HasReplied : Progress → RingEntry → Type 0
HasReplied p (Pass n done words) = p.replied ≡ p.due
HasReplied p _ = Unit {0}

-- An entry fits what its node has done.
pub record NodeFits (p : Progress) (e : RingEntry) : Type 0 where
  pub replied : HasReplied p e
  pub done : p.is_done ≡ true → IsOfDone e

-- A host asks nothing too early.
abbrev pub IsInHold : HostPlan → Progress → Type 0
IsInHold plan p =
    (ask : HostAsk) → slice_get plan.requests p.asked ≡ Some ask → ask.hold ≤ 1 + p.passes

-- A Request that is posted is in its hold.
abbrev pub AskFits : HostPlan → Progress → FrameKind → Type 0
AskFits plan p Request = IsInHold plan p
AskFits plan p Reply = Unit {0}

-- An entry fits what its host has done.
abbrev pub HostFits : HostPlan → Progress → RingEntry → Type 0
HostFits plan p (Post n f) = AskFits plan p f.kind
HostFits plan p (Pass n done words) = done ≡ true → p.asked ≡ length plan.requests
HostFits plan p _ = Unit {0}

-- An entry fits what its node has done by the entries before it, whose station's answers have
-- replies or not.
abbrev pub NodeAllows : List Bool → List RingEntry → RingEntry → Type 0
NodeAllows given before e = NodeFits (progress_of given before) e

-- An entry fits what its host has done by the entries before it, whatever is due.
abbrev pub HostAllows : HostPlan → List RingEntry → RingEntry → Type 0
HostAllows plan before e = HostFits plan (progress_of [] before) e

-- Each entry fits those before it.
abbrev pub EachAllows : (List RingEntry → RingEntry → Type 0) → List RingEntry → Type 0
EachAllows Allows ring =
    (before after : List RingEntry) (e : RingEntry) → StandsIn ring before e after
    → Allows before e
