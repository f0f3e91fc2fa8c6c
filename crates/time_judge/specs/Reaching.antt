-- How far a station's list and the ring's are in time. This project's own.
use Rattle.std.specs.Prelude.{◌≡◌, ℕ, Bool, List, [], ◌∷◌, Option, MatchOption}
use Rattle.ring_core.specs.Words.{maker}
use Rattle.ring_core.specs.declared.entry.RingEntry.{RingEntry}
use Rattle.one_order.specs.Fronts as fronts
use Rattle.entry_causes.specs.Causes.{StationEntry, Noted, Done, no_notes, no_deeds, note, deed}
use Rattle.entry_causes.specs.Causes.{AreCaused, ready}
use Rattle.time_judge.specs.Counts.{noted_is, done_is, NotedAre, CountsAre, after_next}
use Rattle.time_judge.specs.declared.counts.NotedCounts.{NotedCounts}
use Rattle.time_judge.specs.declared.counts.DoneCounts.{DoneCounts}

-- The next entry of a list has its cause.
abbrev pub CanNote : Noted → Done → List StationEntry → Type 0
CanNote s d list = fronts.CanNote note deed AreCaused s d list

abbrev pub CanDo : Noted → Done → List RingEntry → Type 0
CanDo s d own = fronts.CanDo note deed AreCaused s d own

abbrev pub after_noted : Noted → List StationEntry → Noted
after_noted s [] = s
after_noted s (e ∷ es) = note s e

-- Nothing came before its cause so far, and so many Replies may be posted.
pub record MayPost (noted : NotedCounts) (done : DoneCounts) (answers requests : List Bool)
    (may : ℕ) : Type 0 where
  pub caused : AreCaused (noted_is noted answers) (done_is done requests)
  pub may_is : may ≡ ready requests answers done.answered_port

-- The counts after the next entry, if that has its cause.
abbrev pub IsNotedNext : NotedCounts → DoneCounts → List Bool → List Bool → List StationEntry
    → Option NotedCounts → Type 0
IsNotedNext noted done answers requests list found =
    let s = noted_is noted answers in
    let d = done_is done requests in
    MatchOption found (CanNote s d list → ⊥)
    (λ next. NotedAre (after_noted s list) next × CanNote s d list)

abbrev pub IsDoneNext : NotedCounts → DoneCounts → List Bool → List Bool → List RingEntry
    → Option DoneCounts → Type 0
IsDoneNext noted done answers requests own found =
    let s = noted_is noted answers in
    let d = done_is done requests in
    MatchOption found (CanDo s d own → ⊥)
    (λ next. CountsAre (after_next d own) next × CanDo s d own)

-- The first entries of a station's list and of the ring's, so many of each, are in time, and no
-- longer fronts are.
abbrev pub AreInTimeUpTo : ℕ → List StationEntry → List RingEntry → ℕ → ℕ → Type 0
AreInTimeUpTo n list ring entries place =
    fronts.AreInTimeUpTo maker note deed AreCaused no_notes no_deeds n list ring entries place
