-- The fields after one more entry.
use Rattle.std.proofs.Common.{◌≡◌, ℕ, ◌<◌, List, [], ◌∷◌, ◌++◌, length, get_or, All, sym, ap, ◌∙◌}
use Rattle.std.proofs.Common.{false, subst}
use Rattle.std.proofs.lemmas.List.{length_push, get_or_read}
use Rattle.std.proofs.lemmas.List.Elements.{All-contains}
use Rattle.global_data.specs.Book.{Book, new_book}
use Rattle.station_stats.specs.Counts.{StatsIs, stats_words}
use Rattle.ring_core.proofs.Noting.{stats-scratch, length-stats}
use Rattle.ring_core.specs.Words.{NetPlan, RingEntry}
use Rattle.ring_core.specs.Machine.{NodeIs, RingIs, after, opening, addresses, least_from}
use Rattle.ring_core.specs.Machine.{ring_after, ring_node, fresh, opening_nodes}
use Rattle.ring_core.specs.Scratch.{ring_notes, heard_words, count_members, members_now}
use Rattle.ring_core.specs.Scratch.{station_counts, statistics}
use Rattle.ring_core.specs.Legal.{IsRingStep, IsMember}
use Rattle.ring_core.specs.Kept.{IsRingKept, IsSoundRing, IsBook}
use Rattle.ring_core.specs.Kept.{stats_at, noted_all, opening_stats, book_step}
use Rattle.ring_core.proofs.Runs.{IsLegal-push, after_all-push, stats_after-push}
use Rattle.ring_core.proofs.Sound.{after-sound, opening-sound}
use Rattle.ring_core.proofs.Books.{book-push, opening-book}

-- a member's address is low
pub member-low : (net : NetPlan) (n : ℕ) → All (λ m. m < addresses) net.members → IsMember net n
    → n < addresses
member-low net n all member = All-contains (λ m. m < addresses) net.members n all member

pub kept-push : (net : NetPlan) (h : List RingEntry) (r : RingIs) (s : List StatsIs) (b : Book)
    (e : RingEntry) → IsRingKept net h r s b
    → IsRingStep net h e → IsRingKept net (h ++ e ∷ []) (after net r e)
    (noted_all s (ring_notes net r e)) (book_step b e)
kept-push net h r s b e k step = record {
  members = k.members;
  fates = k.fates;
  legal = IsLegal-push net h e k.legal step;
  state = ap (λ (x : RingIs). after net x e) k.state ∙ sym (after_all-push net (opening net) h e);
  sound = subst (λ (n : ℕ). IsSoundRing n (after net r e)) (sym (length_push h e))
      (after-sound net (length h) r e k.sound);
  counters = (λ i. noted_all (k.counters i) (ring_notes net (k.state i) e))
      ∙ sym (stats_after-push net h e);
  said = book-push net h b e k.said step;
}

-- the same for a call, by what its fields are then
pub kept-call : (net : NetPlan) (h : List RingEntry) (r r' : RingIs) (s s' : List StatsIs)
    (b b' : Book) (e : RingEntry) → IsRingKept net h r s b → IsRingStep net h e
    → r' ≡ after net r e → s' ≡ noted_all s (ring_notes net r e) → b' ≡ book_step b e
    → IsRingKept net (h ++ e ∷ []) r' s' b'
kept-call net h r r' s s' b b' e k step ring stats book =
    subst (λ (x : Book). IsRingKept net (h ++ e ∷ []) r' s' x) (sym book)
    (subst (λ (x : List StatsIs). IsRingKept net (h ++ e ∷ []) r' x (book_step b e)) (sym stats)
    (subst (λ (x : RingIs). IsRingKept net (h ++ e ∷ []) x (noted_all s (ring_notes net r e))
    (book_step b e)) (sym ring) (kept-push net h r s b e k step)))

-- a member's part is there
pub within : (net : NetPlan) (h : List RingEntry) (r : RingIs) (s : List StatsIs) (b : Book)
    (n : ℕ) → IsRingKept net h r s b → IsMember net n → n < length r.nodes
within net h r s b n k m =
    subst (λ (size : ℕ). n < size) (sym k.sound.size) (member-low net n k.members m)

-- what was read at a place of the nodes
pub part : (net : NetPlan) (h : List RingEntry) (r : RingIs) (s : List StatsIs) (b : Book) (n : ℕ)
    (c : NodeIs) → IsRingKept net h r s b → IsMember net n → c ≡ get_or r.nodes n c
    → c ≡ ring_node r n
part net h r s b n c k m read =
    get_or_read r.nodes n c (within net h r s b n k m) read (fresh false)

-- a member's counters are there
pub counted : (net : NetPlan) (h : List RingEntry) (r : RingIs) (s : List StatsIs) (b : Book)
    (n : ℕ) → IsRingKept net h r s b → IsMember net n → n < length s
counted net h r s b n k m =
    subst (λ (size : ℕ). n < size) (sym (ap length k.counters ∙ length-stats net h))
    (member-low net n k.members m)

-- each node has its counters
pub stations : (net : NetPlan) (h : List RingEntry) (r : RingIs) (s : List StatsIs) (b : Book)
    → IsRingKept net h r s b → length r.nodes ≡ length s
stations net h r s b k = k.sound.size ∙ sym (ap length k.counters ∙ length-stats net h)

-- the statistics of a member
pub statistics-are : (net : NetPlan) (h : List RingEntry) (r : RingIs) (s : List StatsIs)
    (b : Book) (n members passed : ℕ) → IsRingKept net h r s b → IsMember net n
    → members ≡ count_members r.nodes → passed ≡ length (heard_words n h)
    → stats_words (stats_at s n) members passed ≡ statistics net h n
statistics-are net h r s b n members passed k m members_is passed_is =
    let counts : stats_at s n ≡ record { node = n; counts = station_counts net h n } =
    ap (λ (l : List StatsIs). stats_at l n) k.counters
    ∙ stats-scratch net h n (member-low net n k.members m) m in
    let here : members ≡ members_now (ring_after net h) = members_is ∙ ap members_now k.state in
    λ i. stats_words (counts i) (here i) (passed_is i)

-- a fresh ring
pub kept-opening : (net : NetPlan) (holder : ℕ) (nodes : List NodeIs)
    (stats : List StatsIs) (book : Book)
    → All (λ m. m < addresses) net.members → 0 < length net.fates
    → nodes ≡ opening_nodes net.members → holder ≡ least_from nodes 0
    → stats ≡ opening_stats net.members → book ≡ new_book net.members
    → IsRingKept net [] (record { holder = holder; sent = 0; nodes = nodes }) stats book
kept-opening net holder nodes stats book members fates nodes_is holder_is stats_is book_is =
    let first : holder ≡ least_from (opening_nodes net.members) 0 = holder_is
    ∙ ap (λ (l : List NodeIs). least_from l 0) nodes_is in
    let state : record { holder = holder; sent = 0; nodes = nodes } ≡ opening net =
    λ i. record { holder = first i; sent = 0; nodes = nodes_is i } in
    record {
      members = members;
      fates = fates;
      legal = tt;
      state = state;
      sound = subst (λ (r : RingIs). IsSoundRing 0 r) (sym state) (opening-sound net);
      counters = stats_is;
      said = subst (λ (x : Book). IsBook net [] x) (sym book_is) (opening-book net);
    }
