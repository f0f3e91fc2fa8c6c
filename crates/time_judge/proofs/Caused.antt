-- What the judge tests is whether the next entry has its cause.
use Rattle.std.proofs.Common.{◌≡◌, ℕ, ◌+◌, ◌≤◌, ◌⊎◌, ◌==◌, Bool, true, false, List, [], ◌∷◌}
use Rattle.std.proofs.Common.{refl, ap, subst, inl, inr, arith, ◌∙◌}
use Rattle.std.specs.Prelude.{suc, length, get_or, map, ◌<◌}
use Rattle.std.specs.List.{AllByRecursion as Each}
use Rattle.std.proofs.lemmas.List.{get_or_default}
use Rattle.ring_core.specs.Statistics.{is_for_stats}
use Rattle.ring_core.specs.declared.frame.FrameKind.{FrameKind}
use Rattle.ring_core.specs.declared.frame.FrameKind.TheVariants.{Request, Reply}
use Rattle.ring_core.specs.declared.entry.LeaveCause.{LeaveCause}
use Rattle.ring_core.specs.declared.entry.LeaveCause.TheVariants.{Ended, Spent, Down}
use Rattle.ring_core.specs.declared.entry.RingEntry.{RingEntry}
use Rattle.ring_core.specs.declared.entry.RingEntry.TheVariants.{Post, Send, Take, Local, GiveUp}
use Rattle.ring_core.specs.declared.entry.RingEntry.TheVariants.{Pass, Leave, Join}
use Rattle.one_order.specs.Merges.{tally}
use Rattle.entry_causes.specs.Causes.{StationEntry, Noted, Done}
use Rattle.entry_causes.specs.Causes.{done_next, posting, taking, working}
use Rattle.entry_causes.specs.Causes.{leaving, doings, ready, note, deed, AreCaused}
use Rattle.entry_causes.proofs.Counts.{note-grows, still-ready}
use Rattle.entry_causes.proofs.Ready.{ready-requests, ready-port}
use Rattle.time_judge.specs.declared.counts.NotedCounts.{NotedCounts}
use Rattle.time_judge.specs.declared.counts.DoneCounts.{DoneCounts}
use Rattle.time_judge.specs.Counts.{noted_is, done_is, NotedAre, CountsAre, AreCausedWith}
use Rattle.time_judge.specs.Counts.{IsDoneAfter, after_next, no_entry}
use Rattle.time_judge.specs.Reaching.{MayPost, CanNote, CanDo, after_noted}
use Rattle.one_order.specs.Fronts.{entries_at}

-- ---- a station's entry
module _ (noted next : NotedCounts) (done : DoneCounts) (answers requests : List Bool) (may : ℕ)
    (m : MayPost noted done answers requests may) (t : Noted) (is : noted_is next t.answers ≡ t)
  where
    tested-note : AreCaused t (done_is done requests) → AreCausedWith may next done
    tested-note f =
        let a = ap (λ (x : Noted). x.asked) is in
        let b = ap (λ (x : Noted). x.asked_port) is in
        let c = ap (λ (x : Noted). x.served) is in
        let e = ap (λ (x : Noted). x.ended) is in
        let g = ap (λ (x : Noted). x.failed) is in
        let h = ap (λ (x : Noted). x.returned) is in
        record {
          posts = let x = f.posts in omega (arith, x, a);
          port_works = let x = f.port_works in omega (arith, x, b);
          answers = let x = f.answers in omega (arith, x, c);
          port_answers = f.port_answers;
          replies = let x = m.caused.replies in let y = m.may_is in omega (arith, x, y);
          ends = let x = f.ends in omega (arith, x, e);
          downs = let x = f.downs in omega (arith, x, g);
          joins = let x = f.joins in omega (arith, x, h);
        }

    note-tested : done.replies ≤ ready requests t.answers done.answered_port
        → AreCausedWith may next done → AreCaused t (done_is done requests)
    note-tested still f =
        let a = ap (λ (x : Noted). x.asked) is in
        let b = ap (λ (x : Noted). x.asked_port) is in
        let c = ap (λ (x : Noted). x.served) is in
        let e = ap (λ (x : Noted). x.ended) is in
        let g = ap (λ (x : Noted). x.failed) is in
        let h = ap (λ (x : Noted). x.returned) is in
        record {
          posts = let x = f.posts in omega (arith, x, a);
          port_works = let x = f.port_works in omega (arith, x, b);
          answers = let x = f.answers in omega (arith, x, c);
          port_answers = f.port_answers;
          replies = still;
          ends = let x = f.ends in omega (arith, x, e);
          downs = let x = f.downs in omega (arith, x, g);
          joins = let x = f.joins in omega (arith, x, h);
        }

pub note-can : (noted next : NotedCounts) (done : DoneCounts) (answers requests : List Bool)
    (may : ℕ) (e : StationEntry) → MayPost noted done answers requests may
    → NotedAre (note (noted_is noted answers) e) next → AreCausedWith may next done
    → AreCaused (note (noted_is noted answers) e) (done_is done requests)
note-can noted next done answers requests may e m is f =
    note-tested noted next done answers requests may m (note (noted_is noted answers) e) is
    (still-ready (noted_is noted answers) (note (noted_is noted answers) e) (done_is done requests)
    (note-grows (noted_is noted answers) e) m.caused.replies) f

-- ---- an entry of the ring: it makes no Reply wait, and posts none or makes none ready
record Moves (answers : List Bool) (d q : Done) : Type 0 where
  grows : ready d.requests answers d.answered_port ≤ ready q.requests answers q.answered_port
  kept : (q.replies ≡ d.replies)
      ⊎ (ready q.requests answers q.answered_port ≡ ready d.requests answers d.answered_port)

quiet : (answers : List Bool) (d q : Done) → q.requests ≡ d.requests
    → q.answered_port ≡ d.answered_port → Moves answers d q
quiet answers d q r p =
    let same : ready q.requests answers q.answered_port
    ≡ ready d.requests answers d.answered_port = λ i. ready (r i) answers (p i) in
    record { grows = omega (arith, same); kept = inr same }

post-moves : (answers : List Bool) (d : Done) (kind : FrameKind)
    → Moves answers d (tally done_next d (posting kind ∷ []))
post-moves answers d Request = quiet answers d _ refl refl
post-moves answers d Reply = quiet answers d _ refl refl

take-moves : (answers : List Bool) (d : Done) (kind : FrameKind) (stats : Bool)
    → Moves answers d (tally done_next d (taking kind stats ∷ []))
take-moves answers d Request true = record {
  grows = ready-requests d.requests (false ∷ []) answers d.answered_port;
  kept = inl refl;
}
take-moves answers d Request false = record {
  grows = ready-requests d.requests (true ∷ []) answers d.answered_port;
  kept = inl refl;
}
take-moves answers d Reply stats = quiet answers d _ refl refl

work-moves : (answers : List Bool) (d : Done) (own : Bool)
    → Moves answers d (tally done_next d (working own))
work-moves answers d true = quiet answers d _ refl refl
work-moves answers d false = record {
  grows = subst (λ n. ready d.requests answers d.answered_port ≤ ready d.requests answers n)
      (let one : suc d.answered_port ≡ d.answered_port + 1 = omega arith in one)
      (ready-port d.requests answers d.answered_port);
  kept = inl refl;
}

leave-moves : (answers : List Bool) (d : Done) (cause : LeaveCause)
    → Moves answers d (tally done_next d (leaving cause))
leave-moves answers d Ended = quiet answers d _ refl refl
leave-moves answers d Spent = quiet answers d _ refl refl
leave-moves answers d (Down number) = quiet answers d _ refl refl

deed-moves : (answers : List Bool) (d : Done) (r : RingEntry) → Moves answers d (deed d r)
deed-moves answers d (Post n f) = post-moves answers d f.kind
deed-moves answers d (Take n f) = take-moves answers d f.kind (is_for_stats f)
deed-moves answers d (Local n id op result) = work-moves answers d (id.node == n)
deed-moves answers d (GiveUp id word) = quiet answers d _ refl refl
deed-moves answers d (Send n heard) = quiet answers d _ refl refl
deed-moves answers d (Pass n done words) = quiet answers d _ refl refl
deed-moves answers d (Leave n cause) = leave-moves answers d cause
deed-moves answers d (Join n) = quiet answers d _ refl refl

pub deed-can : (noted : NotedCounts) (done next : DoneCounts) (answers requests : List Bool)
    (may : ℕ) (r : RingEntry) → MayPost noted done answers requests may
    → CountsAre (deed (done_is done requests) r) next → AreCausedWith may noted next
    → AreCaused (noted_is noted answers) (deed (done_is done requests) r)
deed-can noted done next answers requests may r m is f =
    let q = deed (done_is done requests) r in
    let moves = deed-moves answers (done_is done requests) r in
    let a = ap (λ (x : Done). x.posted) is in
    let b = ap (λ (x : Done). x.worked_port) is in
    let c = ap (λ (x : Done). x.taken) is in
    let e = ap (λ (x : Done). x.taken_port) is in
    let g = ap (λ (x : Done). x.answered_port) is in
    let h = ap (λ (x : Done). x.replies) is in
    let j = ap (λ (x : Done). x.over) is in
    let k = ap (λ (x : Done). x.down) is in
    let l = ap (λ (x : Done). x.joined) is in
    record {
      posts = let x = f.posts in omega (arith, x, a);
      port_works = let x = f.port_works in omega (arith, x, b);
      answers = let x = f.answers in omega (arith, x, c);
      port_answers = let x = f.port_answers in omega (arith, x, e, g);
      replies =
          let x = f.replies in let y = m.may_is in let z = moves.grows in omega (arith, x, h, y, z);
      ends = let x = f.ends in omega (arith, x, j);
      downs = let x = f.downs in omega (arith, x, k);
      joins = let x = f.joins in omega (arith, x, l);
    }

-- ---- where there is a next entry
pub noted-found : {X : Type 0} (f : X → StationEntry) (left : List X) (x : X) → 1 ≤ length left
    → x ≡ get_or left 0 x → (noted next : NotedCounts) (done : DoneCounts) (may : ℕ)
    → ((answers : List Bool) → NotedAre (note (noted_is noted answers) (f x)) next)
    → AreCausedWith may next done
    → (answers requests : List Bool) → MayPost noted done answers requests may
    → NotedAre (after_noted (noted_is noted answers) (map f left)) next
    × CanNote (noted_is noted answers) (done_is done requests) (map f left)
noted-found f [] x some is noted next done may counted caused answers requests m =
    absurd (omega (arith, some))
noted-found f (y ∷ left) x some is noted next done may counted caused answers requests m =
    let here : NotedAre (note (noted_is noted answers) (f y)) next = subst
    (λ z. NotedAre (note (noted_is noted answers) (f z)) next) is (counted answers) in
    (here, note-can noted next done answers requests may (f y) m here caused)

pub done-found : (ring : List RingEntry) (due : List ℕ) (e : RingEntry) → 1 ≤ length due
    → Each (λ place. place < length ring) due → e ≡ get_or ring (get_or due 0 0) e
    → (noted : NotedCounts) (done next : DoneCounts) (may : ℕ)
    → IsDoneAfter done (doings e) next → AreCausedWith may noted next
    → (answers requests : List Bool) → MayPost noted done answers requests may
    → CountsAre (after_next (done_is done requests) (entries_at no_entry ring due)) next
    × CanDo (noted_is noted answers) (done_is done requests) (entries_at no_entry ring due)
done-found ring [] e some within is noted done next may counted caused answers requests m =
    absurd (omega (arith, some))
done-found ring (q ∷ due) e some within is noted done next may counted caused answers requests m =
    let same : e ≡ get_or ring q no_entry = is ∙ get_or_default ring q e no_entry within.0 in
    let here : CountsAre (deed (done_is done requests) (get_or ring q no_entry)) next = subst
    (λ x. CountsAre (deed (done_is done requests) x) next) same (counted requests) in
    (here, deed-can noted done next answers requests may (get_or ring q no_entry) m here caused)
