-- The counts that the judge keeps. This project's own.
use Rattle.std.specs.Prelude.{◌≡◌, ℕ, ◌≤◌, List, [], ◌∷◌, map, take, length, Bool}
use Rattle.std.specs.Prelude.{◌+◌, ◌++◌, true, false, if◌then◌else◌}
use Rattle.std.specs.Prelude.{nat_lt, slice_get, Option, Some, None}
use Rattle.controller_core.specs.declared.call.Call.{Call}
use Rattle.ring_core.specs.declared.entry.LeaveCause.TheVariants.{Ended}
use Rattle.ring_core.specs.declared.entry.RingEntry.{RingEntry}
use Rattle.ring_core.specs.declared.entry.RingEntry.TheVariants.{Leave}
use Rattle.one_order.specs.Merges.{tally}
use Rattle.entry_causes.specs.Causes.{StationEntry, Noted, Done, Doing, noted_next, done_next}
use Rattle.entry_causes.specs.Causes.{asking_of, note, deed, no_notes, no_deeds, ready, AllAnswered}
use Rattle.time_judge.specs.declared.counts.NotedCounts.{NotedCounts}
use Rattle.time_judge.specs.declared.counts.DoneCounts.{DoneCounts}
use Rattle.time_judge.specs.declared.answering.Walk.{Walk}

-- What is counted of a station's list, with whether each answer was a reply.
abbrev pub noted_is : NotedCounts → List Bool → Noted
noted_is n answers = record {
  asked = n.asked;
  asked_port = n.asked_port;
  served = n.served;
  answers = answers;
  ended = n.ended;
  failed = n.failed;
  returned = n.returned;
}

-- What is counted of what its node did, with whether each Request was for the station.
abbrev pub done_is : DoneCounts → List Bool → Done
done_is d requests = record {
  posted = d.posted;
  worked_port = d.worked_port;
  taken = d.taken;
  taken_port = d.taken_port;
  requests = requests;
  answered_port = d.answered_port;
  replies = d.replies;
  over = d.over;
  down = d.down;
  joined = d.joined;
}

-- Counts are those of a list, whatever the list.
abbrev pub NotedAre : Noted → NotedCounts → Type 0
NotedAre noted counts = noted_is counts noted.answers ≡ noted

abbrev pub CountsAre : Done → DoneCounts → Type 0
CountsAre done counts = done_is counts done.requests ≡ done

-- The counts after what a node did, whatever Requests it took before.
abbrev pub IsDoneAfter : DoneCounts → List Doing → DoneCounts → Type 0
IsDoneAfter done doings next =
    (requests : List Bool) → CountsAre (tally done_next (done_is done requests) doings) next

-- The counts after a station's entry, and after calls that are handed on, whatever it answered
-- before.
abbrev pub IsNotedAfter : NotedCounts → StationEntry → NotedCounts → Type 0
IsNotedAfter counts e next = (answers : List Bool)
    → NotedAre (note (noted_is counts answers) e) next

abbrev pub AreCallsNoted : NotedCounts → List Call → NotedCounts → Type 0
AreCallsNoted counts calls next = (answers : List Bool)
    → NotedAre (tally noted_next (noted_is counts answers) (map asking_of calls)) next

-- The answer of an entry: with a reply or without, if it is one.
abbrev pub answers_after : List Bool → StationEntry → List Bool
answers_after answers e = (note (record no_notes { answers = answers }) e).answers

abbrev pub answers_next : List Bool → List StationEntry → List Bool
answers_next answers [] = answers
answers_next answers (e ∷ es) = answers_after answers e

-- The answers go on by this one, if there is one.
abbrev pub answers_with : List Bool → Option Bool → List Bool
answers_with answers None = answers
answers_with answers (Some with_reply) = answers ++ with_reply ∷ []

abbrev pub IsAnswerOf : StationEntry → Option Bool → Type 0
IsAnswerOf e answer = (answers : List Bool) → answers_after answers e ≡ answers_with answers answer

-- An entry that stands for none.
abbrev pub no_entry : RingEntry
no_entry = Leave 0 Ended

-- What was done after the next entry, where one is left.
abbrev pub after_next : Done → List RingEntry → Done
after_next d [] = d
after_next d (e ∷ es) = deed d e

-- The Requests that were taken after it.
abbrev pub requests_after : List Bool → List RingEntry → List Bool
requests_after requests entries =
    (after_next (record no_deeds { requests = requests }) entries).requests

-- How far the first Requests are answered: so many of them, by so many answers and so much that
-- the port answered, and how many of them have a Reply.
pub record IsWalk (w : Walk) (requests answers : List Bool) (port : ℕ) : Type 0 where
  pub requests_within : w.requests ≤ length requests
  pub answers_within : w.answers ≤ length answers
  pub port_within : w.port ≤ port
  pub answered : AllAnswered (take w.requests requests) (take w.answers answers) w.port
  pub ready_is : w.ready ≡ ready (take w.requests requests) (take w.answers answers) w.port
  pub ready_within : w.ready ≤ w.requests

-- One Request further, if its answer is there.
abbrev pub walked_on : Walk → ℕ → ℕ → ℕ → Walk
walked_on w answers port more = record {
  requests = w.requests + 1;
  answers = w.answers + answers;
  port = w.port + port;
  ready = w.ready + more;
}

abbrev pub station_step : Walk → Option Bool → Option Walk
station_step w None = None
station_step w (Some with_reply) = Some (walked_on w 1 0 (if with_reply then 1 else 0))

abbrev pub walk_step : Walk → Option Bool → List Bool → ℕ → Option Walk
walk_step w None answers port = None
walk_step w (Some true) answers port = station_step w (slice_get answers w.answers)
walk_step w (Some false) answers port =
    if nat_lt w.port port then Some (walked_on w 0 1 1) else None

-- A walk over Requests and answers goes no further.
pub record IsWholeWalk (w : Walk) (requests answers : List Bool) (port : ℕ) : Type 0 where
  pub walk : IsWalk w requests answers port
  pub all_ready : w.ready ≡ ready requests answers port

-- Nothing that is counted came before its cause, where so many Replies may be posted.
pub record AreCausedWith (may : ℕ) (s : NotedCounts) (d : DoneCounts) : Type 0 where
  pub posts : d.posted ≤ s.asked
  pub port_works : d.worked_port ≤ s.asked_port
  pub answers : s.served ≤ d.taken
  pub port_answers : d.answered_port ≤ d.taken_port
  pub replies : d.replies ≤ may
  pub ends : s.ended ≤ d.over
  pub downs : d.down ≤ s.failed
  pub joins : d.joined ≤ s.returned
