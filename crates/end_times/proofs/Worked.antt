-- A read over a bridge, worked by hand: node 2 on one ring reads two registers of node 5 on
-- another, and the ends 9 and 12 of a bridge are in time with their nodes. No end accepts a
-- Request before its node took it, and none is gone before its node left for good. Inside the
-- bridge nothing is sent on before it was accepted, and nothing given back before the call ended.
use Rattle.std.proofs.Common.{◌≡◌, ℕ, ◌+◌, ◌≤◌, ◌&&◌, Bool, true, false, List, [], ◌∷◌, refl, subst}
use Rattle.std.proofs.Common.{arith}
use Rattle.std.proofs.Math.Dec.{leb}
use Rattle.std.proofs.lemmas.Bool.{and_parts, leb-true}
use Rattle.mstr_block.specs.declared.call.CallId.{CallId}
use Rattle.bridge_relay.specs.declared.entry.BridgeEntry.{BridgeEntry}
use Rattle.bridge_relay.specs.declared.entry.BridgeEntry.TheVariants.{Accept, Forward, Finish, Back}
use Rattle.bridge_relay.specs.declared.entry.BridgeEntry.TheVariants.{Gone}
use Rattle.bridge_relay.specs.declared.entry.RelayResult.TheVariants as results
use Rattle.ring_core.specs.declared.frame.Frame.{Frame}
use Rattle.ring_core.specs.declared.frame.FrameKind.{FrameKind}
use Rattle.ring_core.specs.declared.frame.FrameKind.TheVariants.{Request, Reply}
use Rattle.ring_core.specs.declared.entry.Heard.TheVariants.{Acked}
use Rattle.ring_core.specs.declared.entry.LeaveCause.TheVariants.{Ended, Down}
use Rattle.ring_core.specs.declared.entry.RingEntry.{RingEntry}
use Rattle.ring_core.specs.declared.entry.RingEntry.TheVariants.{Post, Send, Take, Pass, Leave}
use Rattle.one_order.specs.Merges.{Merged, AsNoted, AsDone, Runs, noted_of, deeds_of}
use Rattle.one_order.proofs.Merges.{end-fits}
use Rattle.end_times.specs.EndCauses.{EndNoted, EndDone, no_end_notes, no_end_deeds, end_note}
use Rattle.end_times.specs.EndCauses.{end_deed, AreEndCaused}
use Rattle.end_times.specs.EndTimes.{EndInTime, IsEndInTime}
use Rattle.end_times.specs.Inside.{noted_at_end, IsOrderedInside}
use Rattle.end_times.proofs.Counts.{none-caused}

-- ---- the conditions as tests
abbrev pub is-caused : EndNoted → EndDone → Bool
is-caused s d =
    leb s.accepted d.taken && (leb d.posted s.sent_on && (leb d.answered_port d.taken_port
    && (leb d.replies (s.given_back + d.answered_port)
    && (leb s.ended d.over && leb s.gone d.left))))

caused-by : (s : EndNoted) (d : EndDone) → is-caused s d ≡ true → AreEndCaused s d
caused-by s d is =
    let a = and_parts (leb s.accepted d.taken) _ is in
    let b = and_parts (leb d.posted s.sent_on) _ a.1 in
    let c = and_parts (leb d.answered_port d.taken_port) _ b.1 in
    let e = and_parts (leb d.replies (s.given_back + d.answered_port)) _ c.1 in
    let g = and_parts (leb s.ended d.over) _ e.1 in
    record {
      accepts = leb-true s.accepted d.taken a.0;
      posts = leb-true d.posted s.sent_on b.0;
      port_answers = leb-true d.answered_port d.taken_port c.0;
      replies = leb-true d.replies (s.given_back + d.answered_port) e.0;
      ends = leb-true s.ended d.over g.0;
      goes = leb-true s.gone d.left g.1;
    }

abbrev pub runs-test : EndNoted → EndDone → List (Merged BridgeEntry RingEntry) → Bool
runs-test s d [] = true
runs-test s d (AsNoted e ∷ w) = is-caused (end_note s e) d && runs-test (end_note s e) d w
runs-test s d (AsDone r ∷ w) = is-caused s (end_deed d r) && runs-test s (end_deed d r) w

pub runs-by : (s : EndNoted) (d : EndDone) (w : List (Merged BridgeEntry RingEntry))
    → runs-test s d w ≡ true → Runs end_note end_deed AreEndCaused s d w
runs-by s d [] is = tt
runs-by s d (AsNoted e ∷ w) is =
    let p = and_parts (is-caused (end_note s e) d) _ is in
    (caused-by (end_note s e) d p.0, runs-by (end_note s e) d w p.1)
runs-by s d (AsDone r ∷ w) is =
    let p = and_parts (is-caused s (end_deed d r)) _ is in
    (caused-by s (end_deed d r) p.0, runs-by s (end_deed d r) w p.1)

-- ---- a read over the bridge
abbrev own-name : CallId
own-name = record { node = 2; path = 1; seq = 1 }

abbrev onward-name : CallId
onward-name = record { node = 12; path = 1; seq = 1 }

abbrev reads : List ℕ
reads = 3 ∷ 0 ∷ 0 ∷ 0 ∷ 2 ∷ []

abbrev tells : List ℕ
tells = 3 ∷ 4 ∷ 0 ∷ 42 ∷ 0 ∷ 43 ∷ []

abbrev frame : FrameKind → ℕ → List ℕ → CallId → List ℕ → Frame
frame kind to rest name pdu = record { kind = kind; to = to; rest = rest; id = name; pdu = pdu }

abbrev bridge : List BridgeEntry
bridge =
    Accept 9 own-name (5 ∷ []) reads ∷ Forward 12 own-name onward-name (5 ∷ []) reads
    ∷ Finish 12 onward-name (results.Reply tells) ∷ Back 9 own-name tells
    ∷ Gone 12 ∷ Gone 9 ∷ []

abbrev near-ring : List RingEntry
near-ring =
    Post 2 (frame Request 9 (5 ∷ []) own-name reads) ∷ Send 2 Acked ∷ Pass 2 false []
    ∷ Take 9 (frame Request 9 (5 ∷ []) own-name reads) ∷ Pass 9 false [] ∷ Pass 2 false []
    ∷ Post 9 (frame Reply 2 [] own-name tells) ∷ Send 9 Acked ∷ Pass 9 true []
    ∷ Take 2 (frame Reply 2 [] own-name tells) ∷ Pass 2 true [] ∷ Leave 9 Ended ∷ Leave 2 Ended ∷ []

abbrev far-ring : List RingEntry
far-ring =
    Post 12 (frame Request 5 [] onward-name reads) ∷ Send 12 Acked ∷ Pass 12 false []
    ∷ Take 5 (frame Request 5 [] onward-name reads)
    ∷ Post 5 (frame Reply 12 [] onward-name tells) ∷ Send 5 Acked ∷ Pass 5 true []
    ∷ Take 12 (frame Reply 12 [] onward-name tells) ∷ Pass 12 true [] ∷ Leave 5 Ended
    ∷ Leave 12 Ended ∷ []

-- the end that the request comes to is in time
near-is-in-time : IsEndInTime 9 bridge near-ring
near-is-in-time =
    let w : List (Merged BridgeEntry RingEntry) =
    AsDone (Take 9 (frame Request 9 (5 ∷ []) own-name reads))
    ∷ AsNoted (Accept 9 own-name (5 ∷ []) reads) ∷ AsDone (Pass 9 false [])
    ∷ AsNoted (Back 9 own-name tells) ∷ AsDone (Post 9 (frame Reply 2 [] own-name tells))
    ∷ AsDone (Send 9 Acked) ∷ AsDone (Pass 9 true []) ∷ AsDone (Leave 9 Ended)
    ∷ AsNoted (Gone 9) ∷ [] in
    record { merge = w; noted = refl; done = refl; runs = runs-by no_end_notes no_end_deeds w refl }

-- so is the one that sends it on
far-is-in-time : IsEndInTime 12 bridge far-ring
far-is-in-time =
    let w : List (Merged BridgeEntry RingEntry) =
    AsNoted (Forward 12 own-name onward-name (5 ∷ []) reads)
    ∷ AsDone (Post 12 (frame Request 5 [] onward-name reads)) ∷ AsDone (Send 12 Acked)
    ∷ AsDone (Pass 12 false []) ∷ AsDone (Take 12 (frame Reply 12 [] onward-name tells))
    ∷ AsNoted (Finish 12 onward-name (results.Reply tells)) ∷ AsDone (Pass 12 true [])
    ∷ AsDone (Leave 12 Ended) ∷ AsNoted (Gone 12) ∷ [] in
    record { merge = w; noted = refl; done = refl; runs = runs-by no_end_notes no_end_deeds w refl }

-- ---- an end accepts a Request and then sends one on, and its node posts the latter before it
-- takes the former: the Accept stands before its Take
abbrev hasty : List BridgeEntry
hasty =
    Accept 9 own-name (5 ∷ []) reads
    ∷ Forward 9 onward-name (record { node = 9; path = 1; seq = 1 }) (2 ∷ []) reads ∷ []

abbrev hasty-did : List RingEntry
hasty-did =
    Post 9 (frame Request 2 [] (record { node = 9; path = 1; seq = 1 }) reads)
    ∷ Take 9 (frame Request 9 (5 ∷ []) own-name reads) ∷ []

hasty-is-not : EndInTime 9 hasty hasty-did → ⊥
hasty-is-not x = at x.merge x.noted x.done x.runs
  where
    at : (w : List (Merged BridgeEntry RingEntry)) → noted_of w ≡ hasty → deeds_of w ≡ hasty-did
        → Runs end_note end_deed AreEndCaused no_end_notes no_end_deeds w → ⊥
    at [] p q y = absurd (cc)
    at (AsNoted c ∷ w) p q y =
        let same : c ≡ Accept 9 own-name (5 ∷ []) reads = cc in
        let early : 1 ≤ 0 =
        (subst (λ (z : BridgeEntry). AreEndCaused (end_note no_end_notes z) no_end_deeds) same
        y.0).accepts in
        absurd (omega (arith, early))
    at (AsDone c ∷ w) p q y =
        let same : c
        ≡ Post 9 (frame Request 2 [] (record { node = 9; path = 1; seq = 1 }) reads) = cc in
        let early : 1 ≤ 0 =
        (subst (λ (z : RingEntry). AreEndCaused no_end_notes (end_deed no_end_deeds z)) same
        y.0).posts in
        absurd (omega (arith, early))

-- ---- an end is gone, and its node has left as power failed alone
gone-is-not : EndInTime 9 (Gone 9 ∷ []) (Leave 9 (Down 1) ∷ []) → ⊥
gone-is-not x =
    let early : 1 ≤ 0 =
    (end-fits end_note end_deed AreEndCaused no_end_notes no_end_deeds (Gone 9 ∷ [])
    (Leave 9 (Down 1) ∷ []) none-caused x).goes in
    absurd (omega (arith, early))

-- ---- inside the bridge each end is in order
near-is-ordered : IsOrderedInside (noted_at_end 9 bridge) (noted_at_end 12 bridge)
near-is-ordered = record { sends = omega arith; ends = omega arith; gives = omega arith }

far-is-ordered : IsOrderedInside (noted_at_end 12 bridge) (noted_at_end 9 bridge)
far-is-ordered = record { sends = omega arith; ends = omega arith; gives = omega arith }

-- a Request that was sent on before any was accepted is not
abbrev sent-first : List BridgeEntry
sent-first = Forward 12 own-name onward-name (5 ∷ []) reads ∷ []

sent-first-is-not : IsOrderedInside (noted_at_end 9 sent-first) (noted_at_end 12 sent-first) → ⊥
sent-first-is-not x = let early : 1 ≤ 0 = x.sends in absurd (omega (arith, early))

-- nor is a reply that is given back while the call is out
abbrev given-first : List BridgeEntry
given-first =
    Accept 9 own-name (5 ∷ []) reads ∷ Forward 12 own-name onward-name (5 ∷ []) reads
    ∷ Back 9 own-name tells ∷ []

given-first-is-not : IsOrderedInside (noted_at_end 9 given-first) (noted_at_end 12 given-first) → ⊥
given-first-is-not x = let early : 2 ≤ 1 = x.gives in absurd (omega (arith, early))
