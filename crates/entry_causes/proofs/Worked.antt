-- Journals, worked by hand: a read of two registers is in time; two nodes that each answer the
-- other before the scan in which they ask, each of whose requests is the other's cause, are not.
-- A node whose power fails lets a Request go by, leaves, and comes back; it does neither before
-- its time.
use Rattle.std.proofs.Common.{◌≡◌, ℕ, ◌≤◌, ◌&&◌, Bool, true, false, List, [], ◌∷◌, refl}
use Rattle.std.proofs.Common.{arith}
use Rattle.std.proofs.Math.Dec.{leb}
use Rattle.std.proofs.lemmas.Bool.{and_parts, leb-true}
use Rattle.mstr_block.specs.declared.call.CallId.{CallId}
use Rattle.mstr_block.specs.declared.call.MstrResult.TheVariants.{Good}
use Rattle.controller_core.specs.declared.call.CallKind.TheVariants.{Net}
use Rattle.controller_core.specs.declared.entry.Entry.{Entry}
use Rattle.controller_core.specs.declared.entry.Entry.TheVariants.{Begin, Solve, End, Collect}
use Rattle.controller_core.specs.declared.entry.Entry.TheVariants.{Peer, Fail, Off}
use Rattle.controller_core.specs.declared.entry.Entry.TheVariants.{Finish}
use Rattle.ring_core.specs.declared.frame.Frame.{Frame}
use Rattle.ring_core.specs.declared.frame.FrameKind.TheVariants.{Request, Reply}
use Rattle.ring_core.specs.declared.entry.Heard.TheVariants.{Acked}
use Rattle.ring_core.specs.declared.entry.LeaveCause.TheVariants.{Ended, Down}
use Rattle.ring_core.specs.declared.entry.RingEntry.{RingEntry}
use Rattle.ring_core.specs.declared.entry.RingEntry.TheVariants.{Post, Send, Take}
use Rattle.ring_core.specs.declared.entry.RingEntry.TheVariants.{Pass, Leave, Join}
use Rattle.one_order.specs.Merges.{Merged, AsNoted, AsDone, Runs}
use Rattle.one_order.proofs.Greedy.{neither-fits}
use Rattle.entry_causes.specs.Causes.{Noted, Done, no_notes, no_deeds, note_entry, deed, AreCaused}
use Rattle.entry_causes.specs.Causes.{ready}
use Rattle.entry_causes.specs.InTime.{InTime}
use Rattle.entry_causes.proofs.Counts.{both-of-entry}

-- ---- the conditions as tests
abbrev is-caused : Noted → Done → Bool
is-caused s d =
    leb d.posted s.asked && (leb d.worked_port s.asked_port && (leb s.served d.taken
    && (leb d.answered_port d.taken_port
    && (leb d.replies (ready d.requests s.answers d.answered_port)
    && (leb s.ended d.over && (leb d.down s.failed && leb d.joined s.returned))))))

caused-by : (s : Noted) (d : Done) → is-caused s d ≡ true → AreCaused s d
caused-by s d is =
    let may = ready d.requests s.answers d.answered_port in
    let a = and_parts (leb d.posted s.asked) _ is in
    let b = and_parts (leb d.worked_port s.asked_port) _ a.1 in
    let c = and_parts (leb s.served d.taken) _ b.1 in
    let e = and_parts (leb d.answered_port d.taken_port) _ c.1 in
    let g = and_parts (leb d.replies may) _ e.1 in
    let h = and_parts (leb s.ended d.over) _ g.1 in
    let k = and_parts (leb d.down s.failed) _ h.1 in
    record {
      posts = leb-true d.posted s.asked a.0;
      port_works = leb-true d.worked_port s.asked_port b.0;
      answers = leb-true s.served d.taken c.0;
      port_answers = leb-true d.answered_port d.taken_port e.0;
      replies = leb-true d.replies may g.0;
      ends = leb-true s.ended d.over h.0;
      downs = leb-true d.down s.failed k.0;
      joins = leb-true d.joined s.returned k.1;
    }

abbrev runs-test : Noted → Done → List (Merged Entry RingEntry) → Bool
runs-test s d [] = true
runs-test s d (AsNoted e ∷ w) = is-caused (note_entry s e) d && runs-test (note_entry s e) d w
runs-test s d (AsDone r ∷ w) = is-caused s (deed d r) && runs-test s (deed d r) w

runs-by : (s : Noted) (d : Done) (w : List (Merged Entry RingEntry)) → runs-test s d w ≡ true
    → Runs note_entry deed AreCaused s d w
runs-by s d [] is = tt
runs-by s d (AsNoted e ∷ w) is =
    let p = and_parts (is-caused (note_entry s e) d) _ is in
    (caused-by (note_entry s e) d p.0, runs-by (note_entry s e) d w p.1)
runs-by s d (AsDone r ∷ w) is =
    let p = and_parts (is-caused s (deed d r)) _ is in
    (caused-by s (deed d r) p.0, runs-by s (deed d r) w p.1)

-- ---- a read of two registers: node 2 asks, node 5 answers
abbrev id-of : ℕ → CallId
id-of n = record { node = n; path = 1; seq = 1 }

abbrev reads : List ℕ
reads = 3 ∷ 0 ∷ 0 ∷ 0 ∷ 2 ∷ []

abbrev tells : List ℕ
tells = 3 ∷ 4 ∷ 0 ∷ 42 ∷ 0 ∷ 43 ∷ []

abbrev request : ℕ → ℕ → Frame
request from to = record { kind = Request; to = to; rest = []; id = id-of from; pdu = reads }

abbrev reply : ℕ → Frame
reply to = record { kind = Reply; to = to; rest = []; id = id-of to; pdu = tells }

abbrev asks : ℕ → ℕ → Entry
asks n to = Collect (record { id = id-of n; kind = Net (to ∷ []) reads } ∷ [])

abbrev ends : ℕ → Entry
ends n = Finish (id-of n) (Good (42 ∷ 43 ∷ []))

abbrev reader : List Entry
reader = Begin ∷ Solve 1 ∷ End ∷ asks 2 5 ∷ ends 2 ∷ Begin ∷ Solve 1 ∷ End ∷ []

abbrev reader-did : List RingEntry
reader-did =
    Post 2 (request 2 5) ∷ Send 2 Acked ∷ Pass 2 false [] ∷ Take 2 (reply 2) ∷ Pass 2 false []
    ∷ Pass 2 true [] ∷ Leave 2 Ended ∷ []

reader-is-in-time : InTime reader reader-did
reader-is-in-time =
    let w : List (Merged Entry RingEntry) =
    AsNoted Begin ∷ AsNoted (Solve 1) ∷ AsNoted End ∷ AsNoted (asks 2 5) ∷ AsDone
    (Post 2 (request 2 5)) ∷ AsDone (Send 2 Acked) ∷ AsDone (Pass 2 false [])
    ∷ AsDone (Take 2 (reply 2)) ∷ AsNoted (ends 2) ∷ AsDone (Pass 2 false []) ∷ AsNoted Begin
    ∷ AsNoted (Solve 1) ∷ AsNoted End ∷ AsDone (Pass 2 true [])
    ∷ AsDone (Leave 2 Ended) ∷ [] in
    record { merge = w; noted = refl; done = refl; runs = runs-by no_notes no_deeds w refl }

abbrev target : List Entry
target = Begin ∷ Solve 1 ∷ End ∷ Peer (id-of 2) reads tells ∷ Begin ∷ Solve 1 ∷ End ∷ []

abbrev target-did : List RingEntry
target-did =
    Take 5 (request 2 5) ∷ Post 5 (reply 2) ∷ Send 5 Acked ∷ Pass 5 false [] ∷ Pass 5 false []
    ∷ Pass 5 true [] ∷ Leave 5 Ended ∷ []

target-is-in-time : InTime target target-did
target-is-in-time =
    let w : List (Merged Entry RingEntry) =
    AsNoted Begin ∷ AsNoted (Solve 1) ∷ AsNoted End ∷ AsDone (Take 5 (request 2 5)) ∷ AsNoted
    (Peer (id-of 2) reads tells) ∷ AsDone (Post 5 (reply 2))
    ∷ AsDone (Send 5 Acked) ∷ AsDone (Pass 5 false []) ∷ AsNoted Begin ∷ AsNoted (Solve 1)
    ∷ AsNoted End ∷ AsDone (Pass 5 false []) ∷ AsDone (Pass 5 true [])
    ∷ AsDone (Leave 5 Ended) ∷ [] in
    record { merge = w; noted = refl; done = refl; runs = runs-by no_notes no_deeds w refl }

-- ---- node 1 answers node 2 before the scan in which it asks, and node 2 answers node 1 before its
-- own: node 1 cannot have posted, and cannot have answered
abbrev crossed : List Entry
crossed = Peer (id-of 2) reads tells ∷ Begin ∷ Solve 1 ∷ End ∷ asks 1 2 ∷ ends 1 ∷ []

abbrev crossed-did : List RingEntry
crossed-did =
    Post 1 (request 1 2) ∷ Send 1 Acked ∷ Pass 1 false [] ∷ Take 1 (request 2 1) ∷ Post 1 (reply 2)
    ∷ Take 1 (reply 1) ∷ []

crossed-is-not : InTime crossed crossed-did → ⊥
crossed-is-not =
    neither-fits note_entry deed AreCaused both-of-entry no_notes no_deeds
    (Peer (id-of 2) reads tells) (Post 1 (request 1 2)) _ _
    (λ f. let no' : 1 ≤ 0 = f.answers in absurd (omega (arith, no')))
    (λ f. let no' : 1 ≤ 0 = f.posts in absurd (omega (arith, no')))

-- ---- power fails at node 5, in a scan that it had begun: a Request goes by, and the next one,
-- behind the power's return, is answered
abbrev next-of : Frame → Frame
next-of f = record f { id = record f.id { seq = 2 } }

abbrev failing : List Entry
failing =
    Begin ∷ Fail ∷ Off (id-of 2) reads ∷ Begin ∷ Peer (next-of (request 2 5)).id reads tells ∷ []

abbrev failing-did : List RingEntry
failing-did =
    Take 5 (request 2 5) ∷ Leave 5 (Down 1) ∷ Join 5 ∷ Take 5 (next-of (request 2 5))
    ∷ Post 5 (next-of (reply 2)) ∷ []

failing-is-in-time : InTime failing failing-did
failing-is-in-time =
    let w : List (Merged Entry RingEntry) =
    AsDone (Take 5 (request 2 5)) ∷ AsNoted Begin ∷ AsNoted Fail ∷ AsNoted (Off (id-of 2) reads)
    ∷ AsDone (Leave 5 (Down 1)) ∷ AsNoted Begin ∷ AsDone (Join 5)
    ∷ AsDone (Take 5 (next-of (request 2 5)))
    ∷ AsNoted (Peer (next-of (request 2 5)).id reads tells)
    ∷ AsDone (Post 5 (next-of (reply 2))) ∷ [] in
    record { merge = w; noted = refl; done = refl; runs = runs-by no_notes no_deeds w refl }

-- ---- a node that leaves before its power failed, as its list says that it took the Request
-- behind that
abbrev foreseen : List RingEntry
foreseen = Leave 5 (Down 1) ∷ Take 5 (request 2 5) ∷ []

foreseen-is-not : InTime (Off (id-of 2) reads ∷ Fail ∷ []) foreseen → ⊥
foreseen-is-not =
    neither-fits note_entry deed AreCaused both-of-entry no_notes no_deeds
    (Off (id-of 2) reads) (Leave 5 (Down 1)) _ _
    (λ f. let no' : 1 ≤ 0 = f.answers in absurd (omega (arith, no')))
    (λ f. let no' : 1 ≤ 0 = f.downs in absurd (omega (arith, no')))
