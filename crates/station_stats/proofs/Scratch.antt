-- Counters that run along, against counts from scratch.
use Rattle.std.proofs.Common.{◌≡◌, ℕ, ◌+◌, ◌%◌, ◌==◌, Bool, true, false, cond, List, [], ◌∷◌, ◌++◌}
use Rattle.std.proofs.Common.{get_or, set, map, count_by, refl, sym, ap, ◌∙◌, add-zero}
use Rattle.std.proofs.lemmas.List.Sums.{sum_by_push}
use Rattle.std.proofs.Math.Nat.{mod-add-mod}
use Rattle.station_stats.specs.declared.event.StatEvent.{StatEvent}
use Rattle.station_stats.specs.declared.event.StatEvent.TheVariants.{Pass, RequestPosted}
use Rattle.station_stats.specs.declared.event.StatEvent.TheVariants.{ReplyPosted, Acked, Silent}
use Rattle.station_stats.specs.declared.event.StatEvent.TheVariants.{Busy, RequestAccepted}
use Rattle.station_stats.specs.declared.event.StatEvent.TheVariants.{RequestRepeated, ReplyAccepted}
use Rattle.station_stats.specs.declared.event.StatEvent.TheVariants.{ReplyDropped, RequestTaken}
use Rattle.station_stats.specs.declared.event.StatEvent.TheVariants.{ReplyTaken, GiveUp, OwnLocal}
use Rattle.station_stats.specs.declared.event.StatEvent.TheVariants.{OtherLocal}
use Rattle.station_stats.specs.Counts.{place_of, modulus, StatNote, since_clear, is_at, how_often}
use Rattle.station_stats.specs.Counts.{places, counts_of}
use Rattle.station_stats.specs.Counts.{running}
use Rattle.station_stats.specs.Counts.{CountsAreFromScratch}
use Rattle.station_stats.specs.Counts.StatNote.{Counted, Cleared}

-- One more event raises its own count alone.
raised : (here : Bool) (n : ℕ)
    → (n + cond here 1 0) % modulus ≡ cond here ((n % modulus + 1) % modulus) (n % modulus)
raised true n = sym (mod-add-mod n modulus 1)
raised false n = ap (λ k. k % modulus) (add-zero n)

one_counted : (p : StatEvent → Bool) (events : List StatEvent) (event : StatEvent)
    → count_by p (events ++ event ∷ []) ≡ count_by p events + cond (p event) 1 0
one_counted p events event = sum_by_push (λ e. cond (p e) 1 0) events event

one_more : (events : List StatEvent) (event : StatEvent) (place : ℕ)
    → how_often (events ++ event ∷ []) place ≡ cond (place_of event == place)
    ((how_often events place + 1) % modulus) (how_often events place)
one_more events event place = ap (λ (k : ℕ). k % modulus) (one_counted (is_at place) events event)
    ∙ raised (place_of event == place) (count_by (is_at place) events)

counts_more : (events : List StatEvent) (event : StatEvent) → counts_of (events ++ event ∷ [])
    ≡ map (λ place. cond (place_of event == place) ((how_often events place + 1) % modulus)
    (how_often events place)) places
counts_more events event i = map (λ place. one_more events event place i) places

-- The running counters after one more event.
raises : (events : List StatEvent) (event : StatEvent) → set (counts_of events) (place_of event)
    ((get_or (counts_of events) (place_of event) 0 + 1) % modulus)
    ≡ counts_of (events ++ event ∷ [])
raises events Pass = sym (counts_more events Pass)
raises events RequestPosted = sym (counts_more events RequestPosted)
raises events ReplyPosted = sym (counts_more events ReplyPosted)
raises events Acked = sym (counts_more events Acked)
raises events Silent = sym (counts_more events Silent)
raises events Busy = sym (counts_more events Busy)
raises events RequestAccepted = sym (counts_more events RequestAccepted)
raises events RequestRepeated = sym (counts_more events RequestRepeated)
raises events ReplyAccepted = sym (counts_more events ReplyAccepted)
raises events ReplyDropped = sym (counts_more events ReplyDropped)
raises events RequestTaken = sym (counts_more events RequestTaken)
raises events ReplyTaken = sym (counts_more events ReplyTaken)
raises events GiveUp = sym (counts_more events GiveUp)
raises events OwnLocal = sym (counts_more events OwnLocal)
raises events OtherLocal = sym (counts_more events OtherLocal)

runs : (node : ℕ) (events : List StatEvent) (notes : List StatNote)
    → running (record { node = node; counts = counts_of events }) notes
    ≡ record { node = node; counts = counts_of (since_clear events notes) }
runs node events [] = refl
runs node events (Counted event ∷ notes) =
    ap (λ (counts : List ℕ). running (record { node = node; counts = counts }) notes)
    (raises events event) ∙ runs node (events ++ event ∷ []) notes
runs node events (Cleared ∷ notes) = runs node [] notes

pub from-scratch : CountsAreFromScratch
from-scratch node notes = runs node [] notes
