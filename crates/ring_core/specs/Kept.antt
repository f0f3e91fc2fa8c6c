-- What a contract sees of a ring, and what its fields keep. This project's own.
use Rattle.std.specs.Prelude.{◌-◌, ◌≡◌, ℕ, ◌<◌, ◌≤◌, List, [], ◌∷◌, ◌++◌, length, get_or, set}
use Rattle.std.specs.Prelude.{replicate, All, Option, Some, None, Result, MatchResult, ◌⊎◌, Bool}
use Rattle.std.specs.Prelude.{true}
use Rattle.std.specs.Prelude.{MatchOption}
use Rattle.std.specs.FinMap.{contains_key}
use Rattle.ring_core.specs.Words.{NetPlan, RingEntry, Local, Pass, Leave, RingNo, NoMemory}
use Rattle.ring_core.specs.Words.{LocalOp, Ended, Spent, Down}
use Rattle.ring_core.specs.Words.{PutGlobal, Take, Frame, Heard, LeaveCause}
use Rattle.ring_core.specs.Machine.{NodeIs, RingIs, ring_after, opening, addresses, path_places}
use Rattle.ring_core.specs.Machine.{ring_node, path_of, passes_of}
use Rattle.ring_core.specs.Refusals.{leave_no}
use Rattle.ring_core.specs.Legal.{IsLegalRing, IsMember, IsFirst, IsHeard}
use Rattle.ring_core.specs.Scratch.{Note, all_notes, words_put, heard_words}
use Rattle.station_stats.specs.Counts.{StatsIs, cleared_counters, noted}
use Rattle.global_data.specs.Book.{Book, words_at, with_put, with_passed}

-- The net that it was made for, its history, and for how many entries memory is kept.
pub record KeptRing : Type 0 where
  pub net : NetPlan
  pub history : List RingEntry
  pub spare : ℕ

abbrev pub ring_of : KeptRing → RingIs
ring_of v = ring_after v.net v.history

-- One more entry.
abbrev pub with_entry : KeptRing → RingEntry → KeptRing
with_entry v e = record { net = v.net; history = v.history ++ e ∷ []; spare = v.spare }

-- The same, where the entry takes one of the spare.
abbrev pub with_spare_entry : KeptRing → RingEntry → KeptRing
with_spare_entry v e = record { net = v.net; history = v.history ++ e ∷ []; spare = v.spare - 1 }

-- A call is refused exactly where this says. NoMemory comes only where nothing else refuses it.
abbrev pub RefusedAs : {T : Type 0} → Result T RingNo → Option RingNo → Type 0
RefusedAs r why = MatchResult r (λ _. why ≡ None)
    (λ refused. (why ≡ Some refused) ⊎ ((refused ≡ NoMemory) × (why ≡ None)))

-- A Leave, which takes no memory, is refused for its reason alone, and then nothing changes.
abbrev pub StayedFor : KeptRing → ℕ → LeaveCause → KeptRing → RingNo → Type 0
StayedFor old n cause new why =
    (leave_no old.net (ring_of old) n cause ≡ Some why) × (new ≡ old)

-- A node takes the first frame of its inbox, and that is noted; none where there is none, and then
-- nothing is noted.
abbrev pub IsTaken : ℕ → KeptRing → KeptRing → Option Frame → Type 0
IsTaken n old new taken = MatchOption taken
    (((ring_node (ring_of old) n).inbox ≡ []) × (new ≡ old))
    (λ f. IsFirst (ring_node (ring_of old) n).inbox f × (new ≡ with_entry old (Take n f)))

-- What a node is told of the first frame of its outbox.
abbrev pub IsToldOf : KeptRing → ℕ → Heard → Type 0
IsToldOf v n heard = IsHeard v.net (ring_of v) (ring_node (ring_of v) n).outbox heard

-- A node has passed the token with the words that it put.
abbrev pub passed_on : KeptRing → ℕ → Bool → KeptRing
passed_on v n done = with_entry v (Pass n done (words_put n v.history))

-- Counters of all stations that run along.
abbrev pub stats_at : List StatsIs → ℕ → StatsIs
stats_at stats n = get_or stats n (cleared_counters 0)

abbrev pub noted_at : List StatsIs → Note → List StatsIs
noted_at stats note = set stats note.node (noted (stats_at stats note.node) note.what)

abbrev pub noted_all : List StatsIs → List Note → List StatsIs
noted_all stats [] = stats
noted_all stats (note ∷ notes) = noted_all (noted_at stats note) notes

abbrev pub joined_stats : List StatsIs → List ℕ → List StatsIs
joined_stats stats [] = stats
joined_stats stats (m ∷ ms) = joined_stats (set stats m (cleared_counters m)) ms

abbrev pub opening_stats : List ℕ → List StatsIs
opening_stats members = joined_stats (replicate addresses (cleared_counters 0)) members

abbrev pub stats_after : NetPlan → List RingEntry → List StatsIs
stats_after net history =
    noted_all (opening_stats net.members) (all_notes net (opening net) history)

-- The book has what each member put and passed, and nobody else's.
pub record IsBook (net : NetPlan) (history : List RingEntry) (book : Book) : Type 0 where
  pub put : (n : ℕ) → (words_at book n).put ≡ words_put n history
  pub heard : (n : ℕ) → (words_at book n).heard ≡ heard_words n history
  pub members : (n : ℕ) → IsMember net n → contains_key book n ≡ true
  pub others : (n : ℕ) → contains_key book n ≡ true → IsMember net n

-- The book that runs along.
abbrev pub book_put : Book → ℕ → LocalOp → Book
book_put book n (PutGlobal words) = with_put book n words
book_put book n _ = book

abbrev pub book_left : Book → ℕ → LeaveCause → Book
book_left book n Ended = book
book_left book n Spent = book
book_left book n (Down number) = with_passed (with_put book n []) n

abbrev pub book_step : Book → RingEntry → Book
book_step book (Local n id op result) = book_put book n op
book_step book (Pass n done words) = with_passed book n
book_step book (Leave n cause) = book_left book n cause
book_step book _ = book

-- Sizes and bounds of a node's part after so many entries.
pub record IsSoundNode (k : ℕ) (c : NodeIs) : Type 0 where
  pub tries : c.tries ≤ 2
  pub passes : c.passes ≤ k
  pub done_run : c.done_run ≤ k
  pub paths : length c.paths ≡ path_places
  pub waits : (p : ℕ) → passes_of (path_of c p).awaits ≤ k

pub record IsSoundRing (k : ℕ) (r : RingIs) : Type 0 where
  pub sent : r.sent ≤ k
  pub size : length r.nodes ≡ addresses
  pub each : (n : ℕ) → IsSoundNode k (ring_node r n)

-- The fields are the ring, the counters and the book that a legal history leads to.
pub record IsRingKept (net : NetPlan) (history : List RingEntry) (ring : RingIs)
    (stats : List StatsIs) (book : Book) : Type 0 where
  pub members : All (λ m. m < addresses) net.members
  pub fates : 0 < length net.fates
  pub legal : IsLegalRing net history
  pub state : ring ≡ ring_after net history
  pub sound : IsSoundRing (length history) ring
  pub counters : stats ≡ stats_after net history
  pub said : IsBook net history book
