-- Steps of the judge.
use Rattle.std.proofs.Common.{◌≡◌, ℕ, ◌+◌, ◌≤◌, ◌<◌, Bool, true, false, List, [], ◌∷◌, ◌++◌, drop}
use Rattle.std.proofs.Common.{length, map, get_or, take, zero, suc, refl, sym, ap, ◌∙◌, subst}
use Rattle.std.proofs.Common.{arith, append-nil, append_assoc}
use Rattle.std.specs.List.{AllByRecursion as Each}
use Rattle.std.proofs.lemmas.List.{length-map, length-append}
use Rattle.ring_core.specs.Words.{maker}
use Rattle.ring_core.specs.declared.entry.RingEntry.{RingEntry}
use Rattle.one_order.specs.Merges.{tally}
use Rattle.one_order.specs.Fronts.{places_of, entries_at, next_of}
use Rattle.one_order.proofs.Fronts as fronts
use Rattle.entry_causes.specs.Causes.{StationEntry, ByController, ByHost, Noted, Done, Noting}
use Rattle.entry_causes.specs.Causes.{Asks, AsksPort, Serves, Declines, Ends, Fails, HasPower}
use Rattle.entry_causes.specs.Causes.{Doing, PostsRequest, WorksPort, TakesRequest, TakesForPort}
use Rattle.entry_causes.specs.Causes.{AnswersAtPort, PostsReply, IsOver, GoesDown, ComesBack}
use Rattle.entry_causes.specs.Causes.{no_notes, no_deeds, note, deed, noted_next, done_next}
use Rattle.entry_causes.specs.Causes.{notings, host_notings, doings, ready, AllAnswered, AreCaused}
use Rattle.one_order.specs.Orders.{own_of}
use Rattle.entry_causes.specs.InTime.{StationInTime}
use Rattle.entry_causes.proofs.Counts.{both, none-caused, note-grows}
use Rattle.time_judge.specs.declared.answering.Walk.{Walk}
use Rattle.time_judge.specs.declared.counts.DoneCounts.{DoneCounts}
use Rattle.time_judge.specs.declared.counts.NotedCounts.{NotedCounts}
use Rattle.time_judge.specs.Counts.{noted_is, done_is, no_entry, after_next, NotedAre, CountsAre}
use Rattle.time_judge.specs.Counts.{answers_next, requests_after, IsWalk}
use Rattle.time_judge.specs.Reaching.{CanNote, CanDo, after_noted, AreInTimeUpTo}

-- the answers go on whatever else was counted, and so do the Requests
noting-answers : (s t : Noted) (x : Noting) → s.answers ≡ t.answers
    → (noted_next s x).answers ≡ (noted_next t x).answers
noting-answers s t Asks is = is
noting-answers s t AsksPort is = is
noting-answers s t Serves is = ap (λ (l : List Bool). l ++ true ∷ []) is
noting-answers s t Declines is = ap (λ (l : List Bool). l ++ false ∷ []) is
noting-answers s t Ends is = is
noting-answers s t Fails is = is
noting-answers s t HasPower is = is

notings-answers : (s t : Noted) (xs : List Noting) → s.answers ≡ t.answers
    → (tally noted_next s xs).answers ≡ (tally noted_next t xs).answers
notings-answers s t [] is = is
notings-answers s t (x ∷ xs) is =
    notings-answers (noted_next s x) (noted_next t x) xs (noting-answers s t x is)

note-answers : (s t : Noted) (e : StationEntry) → s.answers ≡ t.answers
    → (note s e).answers ≡ (note t e).answers
note-answers s t (ByController e) is = notings-answers s t (notings e) is
note-answers s t (ByHost e) is = notings-answers s t (host_notings e) is

next-answers : (s : Noted) (left : List StationEntry)
    → answers_next s.answers left ≡ (after_noted s left).answers
next-answers s [] = refl
next-answers s (e ∷ left) = note-answers (record no_notes { answers = s.answers }) s e refl

doing-requests : (d q : Done) (x : Doing) → d.requests ≡ q.requests
    → (done_next d x).requests ≡ (done_next q x).requests
doing-requests d q PostsRequest is = is
doing-requests d q WorksPort is = is
doing-requests d q TakesRequest is = ap (λ (l : List Bool). l ++ true ∷ []) is
doing-requests d q TakesForPort is = ap (λ (l : List Bool). l ++ false ∷ []) is
doing-requests d q AnswersAtPort is = is
doing-requests d q PostsReply is = is
doing-requests d q IsOver is = is
doing-requests d q (GoesDown number) is = is
doing-requests d q ComesBack is = is

doings-requests : (d q : Done) (xs : List Doing) → d.requests ≡ q.requests
    → (tally done_next d xs).requests ≡ (tally done_next q xs).requests
doings-requests d q [] is = is
doings-requests d q (x ∷ xs) is =
    doings-requests (done_next d x) (done_next q x) xs (doing-requests d q x is)

next-requests : (d : Done) (due : List RingEntry)
    → requests_after d.requests due ≡ (after_next d due).requests
next-requests d [] = refl
next-requests d (e ∷ due) =
    doings-requests (record no_deeds { requests = d.requests }) d (doings e) refl

-- what was taken only grows, and what the port answered
record DoesMore (d q : Done) : Type 0 where
  more : List Bool
  requests : q.requests ≡ d.requests ++ more
  port : d.answered_port ≤ q.answered_port

same-requests : (d q : Done) → q.requests ≡ d.requests → d.answered_port ≤ q.answered_port
    → DoesMore d q
same-requests d q is port =
    record { more = []; requests = is ∙ sym (append-nil d.requests); port = port }

doing-more : (d : Done) (x : Doing) → DoesMore d (done_next d x)
doing-more d PostsRequest = same-requests d _ refl (omega arith)
doing-more d WorksPort = same-requests d _ refl (omega arith)
doing-more d TakesRequest = record { more = true ∷ []; requests = refl; port = omega arith }
doing-more d TakesForPort = record { more = false ∷ []; requests = refl; port = omega arith }
doing-more d AnswersAtPort = same-requests d _ refl (omega arith)
doing-more d PostsReply = same-requests d _ refl (omega arith)
doing-more d IsOver = same-requests d _ refl (omega arith)
doing-more d (GoesDown number) = same-requests d _ refl (omega arith)
doing-more d ComesBack = same-requests d _ refl (omega arith)

doings-more : (d : Done) (xs : List Doing) → DoesMore d (tally done_next d xs)
doings-more d [] = same-requests d d refl (omega arith)
doings-more d (x ∷ xs) =
    let g = doing-more d x in
    let h = doings-more (done_next d x) xs in
    record {
      more = g.more ++ h.more;
      requests = h.requests ∙ (ap (λ (l : List Bool). l ++ h.more) g.requests
          ∙ append_assoc d.requests g.more h.more);
      port = let a = g.port in let b = h.port in omega (arith, a, b);
    }

-- both lists have come so far
abbrev pub Stands : ℕ → List StationEntry → List RingEntry → List StationEntry → List ℕ → Noted
    → Done → Type 0
Stands n known ring left due s d =
    fronts.Stands maker note deed AreCaused both no_notes no_deeds n known ring left due s d

pub first : (n : ℕ) (known : List StationEntry) (ring : List RingEntry) (due : List ℕ) (s : Noted)
    (d : Done) → due ≡ places_of maker n ring → s ≡ no_notes → d ≡ no_deeds
    → Stands n known ring known due s d
first n known ring due s d p q r =
    subst (λ (l : List ℕ). Stands n known ring known l s d) (sym p)
    (subst (λ (t : Noted). Stands n known ring known (places_of maker n ring) t d) (sym q)
    (subst (λ (t : Done). Stands n known ring known (places_of maker n ring) no_notes t) (sym r)
    (fronts.stands-first maker note deed AreCaused both no_notes no_deeds n known ring)))

pub note-kept : {X : Type 0} (f : X → StationEntry) (n : ℕ) (known : List StationEntry)
    (ring : List RingEntry) (left now : List X) (due : List ℕ) (s t : Noted) (d : Done)
    → t ≡ after_noted s (map f left) → now ≡ drop 1 left → CanNote s d (map f left)
    → Stands n known ring (map f left) due s d → Stands n known ring (map f now) due t d
note-kept f n known ring [] now due s t d p q c k = absurd c
note-kept f n known ring (e ∷ left) now due s t d p q c k =
    subst (λ (l : List _). Stands n known ring (map f l) due t d) (sym q)
    (subst (λ (y : Noted). Stands n known ring (map f left) due y d) (sym p)
    (fronts.stands-noted maker note deed AreCaused both no_notes no_deeds n known ring (map f left)
    due s d (f e) c k))

deed-kept-by : (n : ℕ) (known : List StationEntry) (ring : List RingEntry)
    (left : List StationEntry) (due now : List ℕ) (s : Noted) (d t : Done)
    → t ≡ after_next d (entries_at no_entry ring due) → now ≡ drop 1 due
    → CanDo s d (entries_at no_entry ring due)
    → Stands n known ring left due s d → Stands n known ring left now s t
deed-kept-by n known ring left [] now s d t p q c k = absurd c
deed-kept-by n known ring left (place ∷ due) now s d t p q c k =
    subst (λ (l : List ℕ). Stands n known ring left l s t) (sym q)
    (subst (λ (y : Done). Stands n known ring left due s y) (sym p)
    (fronts.stands-done maker note deed AreCaused both no_notes no_deeds n known ring no_entry left
    place due s d c k))

-- a walk along lists that grew
take-front : {X : Type 0} (n : ℕ) (xs ys : List X) → n ≤ length xs → take n (xs ++ ys) ≡ take n xs
take-front zero xs ys le = refl
take-front (suc n) [] ys le = absurd (omega (arith, le))
take-front (suc n) (x ∷ xs) ys le = ap (λ l. x ∷ l) (take-front n xs ys (omega (arith, le)))

pub walk-grown : (w : Walk) (rs as' more others : List Bool) (p q : ℕ) → IsWalk w rs as' p → p ≤ q
    → IsWalk w (rs ++ more) (as' ++ others) q
walk-grown w rs as' more others p q k le =
    let r = take-front w.requests rs more k.requests_within in
    let a = take-front w.answers as' others k.answers_within in
    let x = length-append rs more in
    let y = length-append as' others in
    record {
      requests_within = let i = k.requests_within in omega (arith, i, x);
      answers_within = let i = k.answers_within in omega (arith, i, y);
      port_within = let i = k.port_within in omega (arith, i, le);
      answered = subst (λ l. AllAnswered l (take w.answers (as' ++ others)) w.port) (sym r)
          (subst (λ l. AllAnswered (take w.requests rs) l w.port) (sym a) k.answered);
      ready_is = k.ready_is ∙ (λ i. ready (sym r i) (sym a i) w.port);
      ready_within = k.ready_within;
    }

-- how far the judge has come
pub record Reaches (n : ℕ) (known : List StationEntry) (ring : List RingEntry)
    (left : List StationEntry) (due : List ℕ) (noted : NotedCounts) (done : DoneCounts)
    (answers requests : List Bool) (w : Walk) : Type 0 where
  pub stands : Stands n known ring left due (noted_is noted answers) (done_is done requests)
  pub caused : AreCaused (noted_is noted answers) (done_is done requests)
  pub walked : IsWalk w requests answers done.answered_port

pub reaches-first : (n : ℕ) (known : List StationEntry) (ring : List RingEntry) (due : List ℕ)
    (noted : NotedCounts) (done : DoneCounts) (answers requests : List Bool) (w : Walk)
    → due ≡ places_of maker n ring → noted_is noted [] ≡ no_notes → done_is done [] ≡ no_deeds
    → answers ≡ [] → requests ≡ [] → IsWalk w [] [] 0
    → Reaches n known ring known due noted done answers requests w
reaches-first n known ring due noted done answers requests w p q r a b k =
    let s = ap (noted_is noted) a ∙ q in
    let d = ap (done_is done) b ∙ r in
    record {
      stands = first n known ring due (noted_is noted answers) (done_is done requests) p s d;
      caused = subst (λ (t : Noted). AreCaused t (done_is done requests)) (sym s)
          (subst (λ (t : Done). AreCaused no_notes t) (sym d) none-caused);
      walked = subst (λ (l : List Bool). IsWalk w l answers done.answered_port) (sym b)
          (subst (λ (l : List Bool). IsWalk w [] l done.answered_port) (sym a)
          (subst (λ (x : ℕ). IsWalk w [] [] x) (sym (ap (λ (t : Done). t.answered_port) r)) k));
    }

note-walk : (w : Walk) (s : Noted) (e : StationEntry) (requests : List Bool) (port : ℕ)
    → IsWalk w requests s.answers port → IsWalk w requests (note s e).answers port
note-walk w s e requests port k =
    let g = note-grows s e in
    subst (λ (l : List Bool). IsWalk w requests l port) (sym g.answers)
    (subst (λ (l : List Bool). IsWalk w l (s.answers ++ g.more) port) (append-nil requests)
    (walk-grown w requests s.answers [] g.more port port k (omega arith)))

deed-walk : (w : Walk) (d : Done) (r : RingEntry) (answers : List Bool)
    → IsWalk w d.requests answers d.answered_port
    → IsWalk w (deed d r).requests answers (deed d r).answered_port
deed-walk w d r answers k =
    let g = doings-more d (doings r) in
    subst (λ (l : List Bool). IsWalk w l answers (deed d r).answered_port) (sym g.requests)
    (subst (λ (l : List Bool). IsWalk w (d.requests ++ g.more) l (deed d r).answered_port)
    (append-nil answers)
    (walk-grown w d.requests answers g.more [] d.answered_port (deed d r).answered_port k g.port))

pub reaches-noted : {X : Type 0} (f : X → StationEntry) (n : ℕ) (known : List StationEntry)
    (ring : List RingEntry) (left now : List X) (due : List ℕ) (noted next : NotedCounts)
    (done : DoneCounts) (answers moved requests : List Bool) (v w : Walk)
    → NotedAre (after_noted (noted_is noted answers) (map f left)) next
    → moved ≡ answers_next answers (map f left) → now ≡ drop 1 left
    → CanNote (noted_is noted answers) (done_is done requests) (map f left)
    → IsWalk w requests answers done.answered_port
    → Reaches n known ring (map f left) due noted done answers requests v
    → Reaches n known ring (map f now) due next done moved requests w
reaches-noted f n known ring [] now due noted next done answers moved requests v w is m q c walk k =
    absurd c
reaches-noted f n known ring (e ∷ left) now due noted next done answers moved requests v w is m q c
    walk k =
    let s = noted_is noted answers in
    let all : moved ≡ (note s (f e)).answers = m ∙ next-answers s (f e ∷ map f left) in
    let same : noted_is next moved ≡ note s (f e) = ap (noted_is next) all ∙ is in
    record {
      stands = note-kept f n known ring (e ∷ left) now due s (noted_is next moved)
          (done_is done requests) same q c k.stands;
      caused = subst (λ (t : Noted). AreCaused t (done_is done requests)) (sym same) c;
      walked = subst (λ (l : List Bool). IsWalk w requests l done.answered_port) (sym all)
          (note-walk w s (f e) requests done.answered_port walk);
    }

pub reaches-done : (n : ℕ) (known : List StationEntry) (ring : List RingEntry)
    (left : List StationEntry) (due now : List ℕ) (noted : NotedCounts) (done next : DoneCounts)
    (answers requests moved : List Bool) (v w : Walk)
    → CountsAre (after_next (done_is done requests) (entries_at no_entry ring due)) next
    → moved ≡ requests_after requests (entries_at no_entry ring due) → now ≡ drop 1 due
    → CanDo (noted_is noted answers) (done_is done requests) (entries_at no_entry ring due)
    → IsWalk w requests answers done.answered_port
    → Reaches n known ring left due noted done answers requests v
    → Reaches n known ring left now noted next answers moved w
reaches-done n known ring left [] now noted done next answers requests moved v w is m q c walk k =
    absurd c
reaches-done n known ring left (p ∷ due) now noted done next answers requests moved v w is m q c
    walk k =
    let d = done_is done requests in
    let r = get_or ring p no_entry in
    let all : moved ≡ (deed d r).requests = m
    ∙ next-requests d (r ∷ entries_at no_entry ring due) in
    let same : done_is next moved ≡ deed d r = ap (done_is next) all ∙ is in
    record {
      stands = deed-kept-by n known ring left (p ∷ due) now (noted_is noted answers) d
          (done_is next moved) same q c k.stands;
      caused = subst (λ (t : Done). AreCaused (noted_is noted answers) t) (sym same) c;
      walked = subst (λ (t : Done). IsWalk w t.requests answers t.answered_port) (sym same)
          (deed-walk w d r answers walk);
    }

pub due-within : (n : ℕ) (known : List StationEntry) (ring : List RingEntry)
    (left : List StationEntry) (due : List ℕ) (s : Noted) (d : Done)
    → Stands n known ring left due s d → Each (λ (p : ℕ). p < length ring) due
due-within n known ring left due s d k =
    fronts.stands-within maker note deed AreCaused both no_notes no_deeds n known ring no_entry
    left due s d k

pub left-within : {X : Type 0} (f : X → StationEntry) (n : ℕ) (all left : List X)
    (ring : List RingEntry) (due : List ℕ) (s : Noted) (d : Done)
    → Stands n (map f all) ring (map f left) due s d → length left ≤ length all
left-within f n all left ring due s d k =
    let a = ap length k.walk.known_is in
    let b = length-append k.before (map f left) in
    let c = length-map all f in
    let e = length-map left f in
    omega (arith, a, b, c, e)

pub still : {X : Type 0} (f : X → StationEntry) (n : ℕ) (all left : List X) (ring : List RingEntry)
    (due : List ℕ) (s : Noted) (d : Done) (entries place : ℕ)
    → entries + length left ≡ length all → place ≡ next_of (length ring) due
    → (CanNote s d (map f left) → ⊥) → (CanDo s d (entries_at no_entry ring due) → ⊥)
    → Stands n (map f all) ring (map f left) due s d
    → AreInTimeUpTo n (map f all) ring entries place
still f n all left ring due s d entries place sum is a b k =
    let c = length-map all f in
    let e = length-map left f in
    subst (λ (p : ℕ). AreInTimeUpTo n (map f all) ring entries p) (sym is)
    (fronts.stands-still maker note deed AreCaused both no_notes no_deeds n (map f all) ring
    no_entry (map f left) due s d entries (omega (arith, sum, c, e)) a b k)

-- where a station is in time, both lists go to their ends
pub not-whole : {X : Type 0} (f : X → StationEntry) (n : ℕ) (all : List X) (ring : List RingEntry)
    (entries place : ℕ) → AreInTimeUpTo n (map f all) ring entries place
    → StationInTime (map f all) (own_of maker n ring)
    → (entries ≡ length all) × (place ≡ length ring)
not-whole f n all ring entries place u x =
    let h = fronts.in-time-whole maker note deed AreCaused both no_notes no_deeds n (map f all)
    ring entries place u x in
    (h.0 ∙ length-map all f, h.1)
