-- The counters of a station, and the same counted from scratch. This project's own.
use Rattle.std.specs.Prelude.{◌≡◌, ℕ, ◌+◌, ◌%◌, ◌==◌, Bool, List, [], ◌∷◌, ◌++◌, get_or, set, map}
use Rattle.std.specs.Prelude.{replicate, count_by}
use Rattle.station_stats.specs.declared.event.StatEvent.{StatEvent}
use Rattle.station_stats.specs.declared.event.StatEvent.TheVariants.{Pass, RequestPosted}
use Rattle.station_stats.specs.declared.event.StatEvent.TheVariants.{ReplyPosted, Acked, Silent}
use Rattle.station_stats.specs.declared.event.StatEvent.TheVariants.{Busy, RequestAccepted}
use Rattle.station_stats.specs.declared.event.StatEvent.TheVariants.{RequestRepeated, ReplyAccepted}
use Rattle.station_stats.specs.declared.event.StatEvent.TheVariants.{ReplyDropped, RequestTaken}
use Rattle.station_stats.specs.declared.event.StatEvent.TheVariants.{ReplyTaken, GiveUp, OwnLocal}
use Rattle.station_stats.specs.declared.event.StatEvent.TheVariants.{OtherLocal}

-- The place of an event among the counters.
abbrev pub place_of : StatEvent → ℕ
place_of Pass = 0
place_of RequestPosted = 1
place_of ReplyPosted = 2
place_of Acked = 3
place_of Silent = 4
place_of Busy = 5
place_of RequestAccepted = 6
place_of RequestRepeated = 7
place_of ReplyAccepted = 8
place_of ReplyDropped = 9
place_of RequestTaken = 10
place_of ReplyTaken = 11
place_of GiveUp = 12
place_of OwnLocal = 13
place_of OtherLocal = 14

-- A counter holds a word.
abbrev pub modulus : ℕ
modulus = 65536

-- What happens to a station's counters: an event is counted, or all are cleared.
pub data StatNote : Type 0 where
  Counted : StatEvent → StatNote
  Cleared : StatNote

-- The events since the last clear, after those that were counted already.
abbrev pub since_clear : List StatEvent → List StatNote → List StatEvent
since_clear counted [] = counted
since_clear counted (Counted event ∷ rest) = since_clear (counted ++ event ∷ []) rest
since_clear counted (Cleared ∷ rest) = since_clear [] rest

abbrev pub is_at : ℕ → StatEvent → Bool
is_at place event = place_of event == place

-- How often the event of a place stands in a list, as a word says it.
abbrev pub how_often : List StatEvent → ℕ → ℕ
how_often events place = count_by (is_at place) events % modulus

abbrev pub places : List ℕ
places = 0 ∷ 1 ∷ 2 ∷ 3 ∷ 4 ∷ 5 ∷ 6 ∷ 7 ∷ 8 ∷ 9 ∷ 10 ∷ 11 ∷ 12 ∷ 13 ∷ 14 ∷ []

-- The fifteen counts of a list of events, from scratch.
abbrev pub counts_of : List StatEvent → List ℕ
counts_of events = map (how_often events) places

-- What a contract sees of a station's counters.
pub record StatsIs : Type 0 where
  pub node : ℕ
  pub counts : List ℕ

abbrev pub cleared_counters : ℕ → StatsIs
cleared_counters node = record { node = node; counts = replicate 15 0 }

-- One more at the counter of an event.
abbrev pub counted : StatsIs → StatEvent → StatsIs
counted stats event =
    let old = get_or stats.counts (place_of event) 0 in
    record { node = stats.node; counts = set stats.counts (place_of event) ((old + 1) % modulus) }

abbrev pub noted : StatsIs → StatNote → StatsIs
noted stats (Counted event) = counted stats event
noted stats Cleared = cleared_counters stats.node

-- Counters that run along.
abbrev pub running : StatsIs → List StatNote → StatsIs
running stats [] = stats
running stats (note ∷ notes) = running (noted stats note) notes

-- The statistics words: own address, members now, the counts, heard words of this node, two zeros.
abbrev pub stats_words : StatsIs → ℕ → ℕ → List ℕ
stats_words stats members passed =
    stats.node ∷ members ∷ stats.counts ++ passed ∷ 0 ∷ 0 ∷ []

-- Counters that run along are the counts from scratch since the last clear.
abbrev pub CountsAreFromScratch : Type 0
CountsAreFromScratch =
    (node : ℕ) (notes : List StatNote) → (running (cleared_counters node) notes ≡
    record { node = node; counts = counts_of (since_clear [] notes) })
