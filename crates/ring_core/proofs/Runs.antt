-- A history that goes on by one entry.
use Rattle.std.proofs.Common.{◌≡◌, ℕ, List, [], ◌∷◌, ◌++◌, refl, sym, ap, ◌∙◌, subst, append_assoc}
use Rattle.std.proofs.Common.{append-nil}
use Rattle.ring_core.specs.Words.{NetPlan, RingEntry}
use Rattle.ring_core.specs.Machine.{RingIs, after, after_all, opening, ring_after}
use Rattle.ring_core.specs.Scratch.{Note, ring_notes, all_notes, put_with, put_after, heard_in}
use Rattle.ring_core.specs.Scratch.{heard_after}
use Rattle.ring_core.specs.Legal.{IsRingStep, IsRun, IsLegalRing}
use Rattle.ring_core.specs.Kept.{noted_at, noted_all, stats_after, opening_stats}
use Rattle.station_stats.specs.Counts.{StatsIs}

pub after_all-push : (net : NetPlan) (r : RingIs) (es : List RingEntry) (e : RingEntry)
    → after_all net r (es ++ e ∷ []) ≡ after net (after_all net r es) e
after_all-push net r [] e = refl
after_all-push net r (f ∷ es) e = after_all-push net (after net r f) es e

IsRun-push : (net : NetPlan) (past es : List RingEntry) (e : RingEntry) → IsRun net past es
    → IsRingStep net (past ++ es) e → IsRun net past (es ++ e ∷ [])
IsRun-push net past [] e run step =
    (subst (λ (h : List RingEntry). IsRingStep net h e) (append-nil past) step, tt)
IsRun-push net past (f ∷ es) e run step = (
  run.0,
  IsRun-push net (past ++ f ∷ []) es e run.1 (subst (λ (h : List RingEntry). IsRingStep net h e)
      (sym (append_assoc past (f ∷ []) es)) step),
)

pub IsLegal-push : (net : NetPlan) (h : List RingEntry) (e : RingEntry) → IsLegalRing net h
    → IsRingStep net h e → IsLegalRing net (h ++ e ∷ [])
IsLegal-push net h e legal step = IsRun-push net [] h e legal step

all_notes-push : (net : NetPlan) (r : RingIs) (es : List RingEntry) (e : RingEntry)
    → all_notes net r (es ++ e ∷ []) ≡ all_notes net r es ++ ring_notes net (after_all net r es) e
all_notes-push net r [] e = append-nil (ring_notes net r e)
all_notes-push net r (f ∷ es) e =
    ap (λ (l : List Note). ring_notes net r f ++ l) (all_notes-push net (after net r f) es e)
    ∙ sym (append_assoc (ring_notes net r f) (all_notes net (after net r f) es)
    (ring_notes net (after_all net (after net r f) es) e))

noted_all-append : (stats : List StatsIs) (xs ys : List Note)
    → noted_all stats (xs ++ ys) ≡ noted_all (noted_all stats xs) ys
noted_all-append stats [] ys = refl
noted_all-append stats (x ∷ xs) ys = noted_all-append (noted_at stats x) xs ys

pub stats_after-push : (net : NetPlan) (h : List RingEntry) (e : RingEntry)
    → stats_after net (h ++ e ∷ [])
    ≡ noted_all (stats_after net h) (ring_notes net (ring_after net h) e)
stats_after-push net h e =
    ap (noted_all (opening_stats net.members)) (all_notes-push net (opening net) h e)
    ∙ noted_all-append (opening_stats net.members) (all_notes net (opening net) h)
    (ring_notes net (ring_after net h) e)

pub noted_two : (stats : List StatsIs) (xs : List Note) (y : Note)
    → noted_at (noted_all stats xs) y ≡ noted_all stats (xs ++ y ∷ [])
noted_two stats xs y = sym (noted_all-append stats xs (y ∷ []))

pub put_after-push : (n : ℕ) (put : List ℕ) (es : List RingEntry) (e : RingEntry)
    → put_after n put (es ++ e ∷ []) ≡ put_with n (put_after n put es) e
put_after-push n put [] e = refl
put_after-push n put (f ∷ es) e = put_after-push n (put_with n put f) es e

pub heard_after-push : (n : ℕ) (heard : List ℕ) (es : List RingEntry) (e : RingEntry)
    → heard_after n heard (es ++ e ∷ []) ≡ heard_in n (heard_after n heard es) e
heard_after-push n heard [] e = refl
heard_after-push n heard (f ∷ es) e = heard_after-push n (heard_in n heard f) es e
