-- The fields after a transmission.
use Rattle.std.proofs.Common.{◌≡◌, ℕ, ◌+◌, ◌<◌, Bool, List, [], ◌∷◌, ◌++◌, length, get_or, set}
use Rattle.std.proofs.Common.{Option, Some, None, false, refl, sym, ap}
use Rattle.std.proofs.Common.{◌∙◌, subst}
use Rattle.std.proofs.lemmas.List.{length-set, get_or_read}
use Rattle.global_data.specs.Book.{Book}
use Rattle.station_stats.specs.Counts.{StatsIs}
use Rattle.ring_core.specs.Words.{NetPlan, RingEntry, Send, Frame}
use Rattle.ring_core.specs.Words.{Fate, Heard, Fell, is_onward}
use Rattle.ring_core.specs.Machine.{NodeIs, RingIs, ring_node, part_of, fresh, fate_at, heard_of}
use Rattle.ring_core.specs.Machine.{arrival, arrived, heard_by, sent_head, sent_one}
use Rattle.ring_core.specs.Machine.{ring_after, hears}
use Rattle.ring_core.specs.Refusals.{turn_no, empty_no, or_no}
use Rattle.ring_core.specs.Scratch.{counts, heard_event, arrival_notes, sent_notes, send_notes}
use Rattle.ring_core.specs.Scratch.{ring_notes}
use Rattle.ring_core.specs.Legal.{IsMember, IsFirst, IsHeard}
use Rattle.ring_core.specs.Kept.{IsRingKept, noted_at, noted_all}
use Rattle.ring_core.proofs.Runs.{noted_two}
use Rattle.ring_core.proofs.Keeping.{kept-call, within}

pub record Sends (net : NetPlan) (r : RingIs) (n : ℕ) (box : List Frame) (f : Frame) : Type 0 where
  pub lets : or_no (turn_no r n) (empty_no box) ≡ None
  pub next : sent_head net r n box ≡ sent_one net r n f
  pub notes : let fate = fate_at net.fates r.sent in
      send_notes net r n box ≡ sent_notes n f.to fate (arrival net r.nodes fate f)

-- what is told of the first frame of a box
is-heard : (net : NetPlan) (r : RingIs) (box : List Frame) (f : Frame) (h : Heard) → IsFirst box f
    → h ≡ heard_of (fate_at net.fates r.sent) (arrival net r.nodes (fate_at net.fates r.sent) f)
    → IsHeard net r box h
is-heard net r [] f h first heard = absurd first
is-heard net r (g ∷ gs) f h first heard = heard
    ∙ ap (λ (x : Frame). heard_of (fate_at net.fates r.sent)
    (arrival net r.nodes (fate_at net.fates r.sent) x)) (sym first)

-- the same by what was read of the fields
pub told-send : (net : NetPlan) (past : List RingEntry) (r : RingIs) (s : List StatsIs) (b : Book)
    (n : ℕ) (f : Frame) (h : Heard) (fate : Fate) (fall : Option Fell)
    → IsRingKept net past r s b → IsFirst (ring_node (ring_after net past) n).outbox f
    → fate ≡ fate_at net.fates r.sent → fall ≡ arrival net r.nodes fate f → h ≡ heard_of fate fall
    → IsHeard net (ring_after net past) (ring_node (ring_after net past) n).outbox h
told-send net past r s b n f h fate fall k first fate_is fall_is h_is =
    let fate' = fate_at net.fates r.sent in
    let heard : h ≡ heard_of fate' (arrival net r.nodes fate' f) =
    h_is
    ∙ (ap (heard_of fate) fall_is
    ∙ (λ i. heard_of (fate_is i) (arrival net r.nodes (fate_is i) f))) in
    subst (λ (x : RingIs). IsHeard net x (ring_node x n).outbox h) k.state
    (is-heard net r (ring_node r n).outbox f h
    (subst (λ (x : RingIs). IsFirst (ring_node x n).outbox f) (sym k.state) first) heard)

sends : (net : NetPlan) (r : RingIs) (n : ℕ) (box : List Frame) (f : Frame) → turn_no r n ≡ None
    → IsFirst box f → Sends net r n box f
sends net r n [] f turn first = absurd first
sends net r n (g ∷ gs) f turn first = record {
  lets = ap (λ o. or_no o None) turn;
  next = ap (sent_one net r n) first;
  notes = ap (λ (x : Frame). sent_notes n x.to (fate_at net.fates r.sent)
      (arrival net r.nodes (fate_at net.fates r.sent) x)) first;
}

length-arrived : (nodes : List NodeIs) (f : Frame) (fall : Option Fell)
    → length (arrived nodes f fall) ≡ length nodes
length-arrived nodes f None = refl
length-arrived nodes f (Some fall) = length-set nodes f.to _

pub kept-send : (net : NetPlan) (past : List RingEntry) (r : RingIs) (s s1 s2 : List StatsIs)
    (b : Book) (n : ℕ) (f : Frame) (h : Heard)
    (there : Bool) (fate : Fate) (fall : Option Fell) (ns : List NodeIs) (p q : NodeIs)
    → IsRingKept net past r s b → IsMember net n → turn_no (ring_after net past) n ≡ None
    → IsFirst (ring_node (ring_after net past) n).outbox f
    → fate ≡ fate_at net.fates r.sent → there ≡ hears net r.nodes f.to (is_onward f)
    → fall ≡ arrival net r.nodes fate f → h ≡ heard_of fate fall → ns ≡ arrived r.nodes f fall
    → p ≡ get_or ns n p → q ≡ heard_by p f.kind f.id there h
    → s1 ≡ noted_all s (arrival_notes f.to fall) → s2 ≡ noted_at s1 (counts n (heard_event h))
    → IsRingKept net (past ++ Send n h ∷ [])
    (record { holder = r.holder; sent = r.sent + 1; nodes = set ns n q }) s2 b
kept-send net past r s s1 s2 b n f h there fate fall ns p q k member turn first fate_is there_is
    fall_is h_is ns_is p_is q_is s1_is s2_is =
    let fate' = fate_at net.fates r.sent in
    let low : n < length ns = subst (λ (l : ℕ). n < l)
    (sym (ap length ns_is ∙ length-arrived r.nodes f fall)) (within net past r s b n k member) in
    let fell : fall ≡ arrival net r.nodes fate' f = fall_is
    ∙ ap (λ (t : Fate). arrival net r.nodes t f) fate_is in
    let heard : h ≡ heard_of fate' (arrival net r.nodes fate' f) = h_is
    ∙ (λ i. heard_of (fate_is i) (fell i)) in
    let nodes : ns ≡ arrived r.nodes f (arrival net r.nodes fate' f) = ns_is
    ∙ ap (arrived r.nodes f) fell in
    let part : p ≡ part_of (arrived r.nodes f (arrival net r.nodes fate' f)) n =
    get_or_read ns n p low p_is (fresh false)
    ∙ ap (λ (l : List NodeIs). part_of l n) nodes in
    let t = sends net r n (ring_node r n).outbox f
    (subst (λ (x : RingIs). turn_no x n ≡ None) (sym k.state) turn)
    (subst (λ (x : RingIs). IsFirst (ring_node x n).outbox f) (sym k.state) first) in
    let node : q ≡ heard_by (part_of (arrived r.nodes f (arrival net r.nodes fate' f)) n)
    f.kind f.id (hears net r.nodes f.to (is_onward f))
    (heard_of fate' (arrival net r.nodes fate' f)) = q_is
    ∙ (λ i. heard_by (part i) f.kind f.id (there_is i) (heard i)) in
    let next : record { holder = r.holder; sent = r.sent + 1; nodes = set ns n q }
    ≡ sent_one net r n f =
    λ i. record { holder = r.holder; sent = r.sent + 1; nodes = set (nodes i) n (node i) } in
    let noted : s2 ≡ noted_all s (arrival_notes f.to fall ++ counts n (heard_event h) ∷ []) = s2_is
    ∙ (ap (λ (l : List StatsIs). noted_at l (counts n (heard_event h))) s1_is
    ∙ noted_two s (arrival_notes f.to fall) (counts n (heard_event h))) in
    let notes : s2 ≡ noted_all s (ring_notes net r (Send n h)) = noted
    ∙ ((λ i. noted_all s (arrival_notes f.to (fell i) ++ counts n (heard_event (heard i)) ∷ []))
    ∙ ap (noted_all s) (sym t.notes)) in
    let lets : or_no (turn_no (ring_after net past) n)
    (empty_no (ring_node (ring_after net past) n).outbox) ≡ None =
    subst (λ (x : RingIs). or_no (turn_no x n) (empty_no (ring_node x n).outbox) ≡ None)
    k.state t.lets in
    let told = told-send net past r s b n f h fate fall k first fate_is fall_is h_is in
    kept-call net past r _ s s2 b b (Send n h) k (member, (lets, told))
    (next ∙ sym t.next) notes refl
