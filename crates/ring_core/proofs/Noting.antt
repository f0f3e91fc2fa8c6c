-- Counters that run along the history, against the statistics from scratch.
use Rattle.std.proofs.Common.{◌≡◌, ℕ, zero, suc, ◌<◌, Bool, cond, List, [], ◌∷◌, length, set}
use Rattle.std.proofs.Common.{replicate, Contains, refl, sym, ap, ◌∙◌, subst, ⊎_elim, eq-eqb, arith}
use Rattle.std.proofs.lemmas.Bool.{cases_eq, ne_eqb}
use Rattle.std.proofs.lemmas.List.{length-set, length-replicate, get_or-set_same, get_or-set_other}
use Rattle.station_stats.specs.Counts.{StatsIs, cleared_counters, noted, running}
use Rattle.station_stats.proofs.Scratch.{from-scratch}
use Rattle.ring_core.specs.Words.{NetPlan, RingEntry}
use Rattle.ring_core.specs.Machine.{addresses, opening}
use Rattle.ring_core.specs.Scratch.{Note, notes_at, all_notes, station_counts}
use Rattle.ring_core.specs.Legal.{IsMember}
use Rattle.ring_core.specs.Kept.{stats_at, noted_at, noted_all, joined_stats, opening_stats}
use Rattle.ring_core.specs.Kept.{stats_after}

pub length-noted : (stats : List StatsIs) (notes : List Note)
    → length (noted_all stats notes) ≡ length stats
length-noted stats [] = refl
length-noted stats (note ∷ notes) = length-noted (noted_at stats note) notes
    ∙ length-set stats note.node _

one_note : (stats : List StatsIs) (note : Note) (notes : List Note) (n : ℕ) → n < length stats
    → running (stats_at (noted_at stats note) n) (notes_at n notes)
    ≡ running (stats_at stats n) (notes_at n (note ∷ notes))
one_note stats note notes n low = ⊎_elim
    (λ (e : n ≡ note.node).
    let same : stats_at (noted_at stats note) n ≡ noted (stats_at stats n) note.what =
    ap (λ (k : ℕ). stats_at (set stats k (noted (stats_at stats k) note.what)) n) (sym e)
    ∙ get_or-set_same stats n (noted (stats_at stats n) note.what) (cleared_counters 0) low in
    ap (λ (s : StatsIs). running s (notes_at n notes)) same ∙ ap
    (λ (b : Bool). running (stats_at stats n)
    (cond b (note.what ∷ notes_at n notes) (notes_at n notes))) (sym (eq-eqb note.node n (sym e))))
    (λ (no' : n ≡ note.node → ⊥).
    ap (λ (s : StatsIs). running s (notes_at n notes))
    (get_or-set_other stats note.node n (noted (stats_at stats note.node) note.what)
    (cleared_counters 0) no') ∙ ap (λ (b : Bool).
    running (stats_at stats n) (cond b (note.what ∷ notes_at n notes) (notes_at n notes)))
    (sym (ne_eqb note.node n (λ q. no' (sym q)))))
    (cases_eq n note.node)

noted-runs : (stats : List StatsIs) (notes : List Note) (n : ℕ) → n < length stats
    → stats_at (noted_all stats notes) n ≡ running (stats_at stats n) (notes_at n notes)
noted-runs stats [] n low = refl
noted-runs stats (note ∷ notes) n low =
    noted-runs (noted_at stats note) notes n (subst (λ (size : ℕ). n < size)
    (sym (length-set stats note.node _)) low) ∙ one_note stats note notes n low

length-joined : (stats : List StatsIs) (ms : List ℕ) → length (joined_stats stats ms) ≡ length stats
length-joined stats [] = refl
length-joined stats (m ∷ ms) = length-joined (set stats m (cleared_counters m)) ms
    ∙ length-set stats m (cleared_counters m)

stays-cleared : (stats : List StatsIs) (ms : List ℕ) (n : ℕ) → n < length stats → stats_at stats n
    ≡ cleared_counters n → stats_at (joined_stats stats ms) n ≡ cleared_counters n
stays-cleared stats [] n low is = is
stays-cleared stats (m ∷ ms) n low is = stays-cleared (set stats m (cleared_counters m)) ms n
    (subst (λ (size : ℕ). n < size) (sym (length-set stats m (cleared_counters m))) low) (⊎_elim
    (λ (e : n ≡ m). ap (λ (k : ℕ). stats_at (set stats k (cleared_counters k)) n) (sym e)
    ∙ get_or-set_same stats n (cleared_counters n) (cleared_counters 0) low)
    (λ (no' : n ≡ m → ⊥). get_or-set_other stats m n (cleared_counters m) (cleared_counters 0) no'
    ∙ is)
    (cases_eq n m))

member-cleared : (stats : List StatsIs) (ms : List ℕ) (n : ℕ) → n < length stats → Contains ms n
    → stats_at (joined_stats stats ms) n ≡ cleared_counters n
member-cleared stats [] n low member = absurd (omega (arith, member.1))
member-cleared stats (m ∷ ms) n low (zero, fits, is) =
    let there : n < length (set stats m (cleared_counters m)) =
    subst (λ (size : ℕ). n < size) (sym (length-set stats m (cleared_counters m))) low in
    stays-cleared (set stats m (cleared_counters m)) ms n there
    (ap (λ (k : ℕ). stats_at (set stats k (cleared_counters k)) n) is
    ∙ get_or-set_same stats n (cleared_counters n) (cleared_counters 0) low)
member-cleared stats (m ∷ ms) n low (suc k, fits, is) =
    member-cleared (set stats m (cleared_counters m)) ms n (subst (λ (size : ℕ). n < size)
    (sym (length-set stats m (cleared_counters m))) low) (k, omega (arith, fits), is)

-- a member's counters are its counts from scratch
pub stats-scratch : (net : NetPlan) (h : List RingEntry) (n : ℕ) → n < addresses → IsMember net n
    → stats_at (stats_after net h) n ≡ record { node = n; counts = station_counts net h n }
stats-scratch net h n low member =
    let first : List StatsIs = replicate addresses (cleared_counters 0) in
    let there : n < length (opening_stats net.members) = subst (λ (size : ℕ). n < size)
    (sym (length-joined first net.members ∙ length-replicate addresses (cleared_counters 0))) low in
    noted-runs (opening_stats net.members) (all_notes net (opening net) h) n there
    ∙ (ap (λ (s : StatsIs). running s (notes_at n (all_notes net (opening net) h)))
    (member-cleared first net.members n (subst (λ (size : ℕ). n < size)
    (sym (length-replicate addresses (cleared_counters 0))) low) member)
    ∙ from-scratch n (notes_at n (all_notes net (opening net) h)))

pub length-stats : (net : NetPlan) (h : List RingEntry) → length (stats_after net h) ≡ addresses
length-stats net h = length-noted (opening_stats net.members) (all_notes net (opening net) h)
    ∙ (length-joined (replicate addresses (cleared_counters 0)) net.members
    ∙ length-replicate addresses (cleared_counters 0))
