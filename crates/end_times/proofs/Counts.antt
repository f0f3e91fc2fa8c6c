-- What an end's worker adds at once is due wherever nothing came before its cause.
use Rattle.std.proofs.Common.{◌≡◌, ℕ, ◌+◌, ◌≤◌, true, false, List, [], ◌∷◌, ◌++◌}
use Rattle.std.proofs.Common.{None, refl, sym, ap, subst, arith, append-nil}
use Rattle.mstr_block.specs.declared.call.CallId.{CallId}
use Rattle.mstr_block.specs.declared.call.MstrResult.{MstrResult}
use Rattle.bridge_relay.specs.declared.entry.BridgeEntry.{BridgeEntry}
use Rattle.bridge_relay.specs.declared.entry.BridgeEntry.TheVariants.{Accept, Forward, Finish}
use Rattle.bridge_relay.specs.declared.entry.BridgeEntry.TheVariants.{Back, Gone}
use Rattle.bridge_relay.specs.declared.entry.RelayResult.{RelayResult}
use Rattle.ring_core.specs.Statistics.{is_for_stats}
use Rattle.ring_core.specs.declared.frame.Frame.{Frame}
use Rattle.ring_core.specs.declared.frame.FrameKind.TheVariants.{Request, Reply}
use Rattle.ring_core.specs.declared.entry.LeaveCause.{LeaveCause}
use Rattle.ring_core.specs.declared.entry.LeaveCause.TheVariants.{Ended, Spent, Down}
use Rattle.ring_core.specs.declared.entry.LocalOp.{LocalOp}
use Rattle.ring_core.specs.declared.entry.RingEntry.{RingEntry}
use Rattle.ring_core.specs.declared.entry.RingEntry.TheVariants.{Post, Take, Local, Leave}
use Rattle.tied_lists.specs.Items.{down_in}
use Rattle.one_order.specs.Merges.{tally, IsDueWhere}
use Rattle.one_order.proofs.Merges.{nothing-due, noted-first, done-first, join, end-fits, due-join}
use Rattle.end_times.specs.EndCauses.{EndNoted, EndDone, no_end_notes, no_end_deeds, end_note}
use Rattle.end_times.specs.EndCauses.{end_deed, end_posts, end_takes, end_leaves, AreEndCaused}
use Rattle.end_times.specs.EndTimes.{EndInTimeAfter}

pub none-caused : AreEndCaused no_end_notes no_end_deeds
none-caused = record {
  accepts = omega arith;
  posts = omega arith;
  port_answers = omega arith;
  replies = omega arith;
  ends = omega arith;
  goes = omega arith;
}

-- due wherever the counts are good
abbrev pub IsDueIf : (EndNoted → EndDone → Type 0) → List BridgeEntry → List RingEntry → Type 0
IsDueIf Good noted done = IsDueWhere end_note end_deed AreEndCaused Good noted done

-- due anywhere
abbrev pub Anywhere : EndNoted → EndDone → Type 0
Anywhere s d = Unit {0}

abbrev pub IsDue : List BridgeEntry → List RingEntry → Type 0
IsDue noted done = IsDueIf Anywhere noted done

-- the node left more often than the end was gone
abbrev pub MayGo : EndNoted → EndDone → Type 0
MayGo s d = s.gone + 1 ≤ d.left

nothing : (s : EndNoted) (d : EndDone) → EndInTimeAfter s d [] []
nothing s d = nothing-due end_note end_deed AreEndCaused s d

noted-now : (s : EndNoted) (d : EndDone) (e : BridgeEntry) (noted : List BridgeEntry)
    (done : List RingEntry) → AreEndCaused (end_note s e) d
    → EndInTimeAfter (end_note s e) d noted done → EndInTimeAfter s d (e ∷ noted) done
noted-now s d e noted done f x = noted-first end_note end_deed AreEndCaused s d e noted done f x

-- an entry of the ring that makes these counts
done-now : (s : EndNoted) (d q : EndDone) (r : RingEntry) (noted : List BridgeEntry)
    (done : List RingEntry) → end_deed d r ≡ q → AreEndCaused s q
    → EndInTimeAfter s q noted done → EndInTimeAfter s d noted (r ∷ done)
done-now s d q r noted done is f x =
    done-first end_note end_deed AreEndCaused s d r noted done
    (subst (AreEndCaused s) (sym is) f)
    (subst (λ (t : EndDone). EndInTimeAfter s t noted done) (sym is) x)

pub none-due : (Good : EndNoted → EndDone → Type 0) → IsDueIf Good [] []
none-due Good s d f g = (nothing s d, g)

pub due-as : (Good : EndNoted → EndDone → Type 0) (noted noted' : List BridgeEntry)
    (done done' : List RingEntry) → noted ≡ noted' → done ≡ done' → IsDueIf Good noted' done'
    → IsDueIf Good noted done
due-as Good noted noted' done done' p q is =
    subst (λ (l : List BridgeEntry). IsDueIf Good l done) (sym p)
    (subst (λ (l : List RingEntry). IsDueIf Good noted' l) (sym q) is)

pub both-due : (Good : EndNoted → EndDone → Type 0) (noted more : List BridgeEntry)
    (done later : List RingEntry) → IsDueIf Good noted done → IsDueIf Good more later
    → IsDueIf Good (noted ++ more) (done ++ later)
both-due Good noted more done later x y =
    due-join end_note end_deed AreEndCaused Good noted more done later x y

-- ---- calls that end

over-caused : (s : EndNoted) (d : EndDone) → AreEndCaused s d
    → AreEndCaused s (record d { over = d.over + 1 })
over-caused s d f = record {
  accepts = f.accepts;
  posts = f.posts;
  port_answers = f.port_answers;
  replies = f.replies;
  ends = let h = f.ends in omega (arith, h);
  goes = f.goes;
}

ended-caused : (s : EndNoted) (d : EndDone) → AreEndCaused s d
    → AreEndCaused (record s { ended = s.ended + 1 }) (record d { over = d.over + 1 })
ended-caused s d f = record {
  accepts = f.accepts;
  posts = f.posts;
  port_answers = f.port_answers;
  replies = f.replies;
  ends = let h = f.ends in omega (arith, h);
  goes = f.goes;
}

-- ends of calls leave counts good
abbrev pub EndsKeep : (EndNoted → EndDone → Type 0) → Type 0
EndsKeep Good = (s : EndNoted) (d : EndDone) → Good s d
    → Good (record s { ended = s.ended + 1 }) (record d { over = d.over + 1 })

-- a call is over, and ends
pub ends-due : (Good : EndNoted → EndDone → Type 0) → EndsKeep Good → (n : ℕ) (id : CallId)
    (result : RelayResult) (r : RingEntry)
    → ((d : EndDone) → end_deed d r ≡ record d { over = d.over + 1 })
    → IsDueIf Good (Finish n id result ∷ []) (r ∷ [])
ends-due Good keeps n id result r is s d f g =
    let q : EndDone = record d { over = d.over + 1 } in
    let t : EndNoted = record s { ended = s.ended + 1 } in (
      done-now s d q r (Finish n id result ∷ []) [] (is d) (over-caused s d f)
          (noted-now s q (Finish n id result) [] [] (ended-caused s d f) (nothing t q)),
      subst (Good t) (sym (is d)) (keeps s d g),
    )

-- ---- what is posted and taken

posts-reply : (n : ℕ) (f : Frame) (d : EndDone) → f.kind ≡ Reply
    → end_deed d (Post n f) ≡ record d { replies = d.replies + 1 }
posts-reply n f d p = ap (end_posts d) p

posts-request : (n : ℕ) (f : Frame) (d : EndDone) → f.kind ≡ Request
    → end_deed d (Post n f) ≡ record d { posted = d.posted + 1 }
posts-request n f d p = ap (end_posts d) p

pub takes-reply : (n : ℕ) (f : Frame) (d : EndDone) → f.kind ≡ Reply
    → end_deed d (Take n f) ≡ record d { over = d.over + 1 }
takes-reply n f d p = ap (λ k. end_takes d k (is_for_stats f)) p

takes-request : (n : ℕ) (f : Frame) (d : EndDone) → f.kind ≡ Request → is_for_stats f ≡ false
    → end_deed d (Take n f) ≡ record d { taken = d.taken + 1 }
takes-request n f d p q = λ i. end_takes d (p i) (q i)

takes-for-port : (n : ℕ) (f : Frame) (d : EndDone) → f.kind ≡ Request → is_for_stats f ≡ true
    → end_deed d (Take n f) ≡ record d { taken_port = d.taken_port + 1 }
takes-for-port n f d p q = λ i. end_takes d (p i) (q i)

-- a Request is taken, and accepted
pub accepts-due : (n : ℕ) (id : CallId) (route request : List ℕ) (f : Frame) → f.kind ≡ Request
    → is_for_stats f ≡ false → IsDue (Accept n id route request ∷ []) (Take n f ∷ [])
accepts-due n id route request f p other s d c g =
    let q : EndDone = record d { taken = d.taken + 1 } in
    let e : BridgeEntry = Accept n id route request in (
      done-now s d q (Take n f) (e ∷ []) [] (takes-request n f d p other) (record {
        accepts = let h = c.accepts in omega (arith, h);
        posts = c.posts;
        port_answers = c.port_answers;
        replies = c.replies;
        ends = c.ends;
        goes = c.goes;
      }) (noted-now s q e [] [] (record {
        accepts = let h = c.accepts in omega (arith, h);
        posts = c.posts;
        port_answers = c.port_answers;
        replies = c.replies;
        ends = c.ends;
        goes = c.goes;
      }) (nothing (end_note s e) q)),
      tt,
    )

-- a Request is taken for the port, which answers it
pub tells-due : (n : ℕ) (f reply : Frame) (id : CallId) (op : LocalOp) (result : MstrResult)
    → f.kind ≡ Request → is_for_stats f ≡ true → reply.kind ≡ Reply
    → IsDue [] (Take n f ∷ Local n id op result ∷ Post n reply ∷ [])
tells-due n f reply id op result p stats r s d c g =
    let q : EndDone = record d { taken_port = d.taken_port + 1 } in
    let t : EndDone = record q { answered_port = q.answered_port + 1 } in
    let u : EndDone = record t { replies = t.replies + 1 } in (
      done-now s d q (Take n f) [] (Local n id op result ∷ Post n reply ∷ [])
          (takes-for-port n f d p stats) (record {
            accepts = c.accepts;
            posts = c.posts;
            port_answers = let h = c.port_answers in omega (arith, h);
            replies = c.replies;
            ends = c.ends;
            goes = c.goes;
          }) (done-now s q t (Local n id op result) [] (Post n reply ∷ []) refl (record {
            accepts = c.accepts;
            posts = c.posts;
            port_answers = let h = c.port_answers in omega (arith, h);
            replies = let h = c.replies in omega (arith, h);
            ends = c.ends;
            goes = c.goes;
          }) (done-now s t u (Post n reply) [] [] (posts-reply n reply t r) (record {
            accepts = c.accepts;
            posts = c.posts;
            port_answers = let h = c.port_answers in omega (arith, h);
            replies = let h = c.replies in omega (arith, h);
            ends = c.ends;
            goes = c.goes;
          }) (nothing s u))),
      tt,
    )

-- a reply is given back, and posted
pub backs-due : (side n : ℕ) (id : CallId) (reply : List ℕ) (f : Frame) → f.kind ≡ Reply
    → IsDue (Back side id reply ∷ []) (Post n f ∷ [])
backs-due side n id reply f p s d c g =
    let e : BridgeEntry = Back side id reply in
    let t : EndNoted = record s { given_back = s.given_back + 1 } in
    let q : EndDone = record d { replies = d.replies + 1 } in (
      noted-now s d e [] (Post n f ∷ []) (record {
        accepts = c.accepts;
        posts = c.posts;
        port_answers = c.port_answers;
        replies = let h = c.replies in omega (arith, h);
        ends = c.ends;
        goes = c.goes;
      }) (done-now t d q (Post n f) [] [] (posts-reply n f d p) (record {
        accepts = c.accepts;
        posts = c.posts;
        port_answers = c.port_answers;
        replies = let h = c.replies in omega (arith, h);
        ends = c.ends;
        goes = c.goes;
      }) (nothing t q)),
      tt,
    )

-- a Request is sent on, and posted
pub forwards-due : (side n : ℕ) (old id : CallId) (route request : List ℕ) (f : Frame)
    → f.kind ≡ Request → IsDue (Forward side old id route request ∷ []) (Post n f ∷ [])
forwards-due side n old id route request f p s d c g =
    let e : BridgeEntry = Forward side old id route request in
    let t : EndNoted = record s { sent_on = s.sent_on + 1 } in
    let q : EndDone = record d { posted = d.posted + 1 } in (
      noted-now s d e [] (Post n f ∷ []) (record {
        accepts = c.accepts;
        posts = let h = c.posts in omega (arith, h);
        port_answers = c.port_answers;
        replies = c.replies;
        ends = c.ends;
        goes = c.goes;
      }) (done-now t d q (Post n f) [] [] (posts-request n f d p) (record {
        accepts = c.accepts;
        posts = let h = c.posts in omega (arith, h);
        port_answers = c.port_answers;
        replies = c.replies;
        ends = c.ends;
        goes = c.goes;
      }) (nothing t q)),
      tt,
    )

-- ---- what is neither cause nor caused, and the end of an end

pub still-due : (Good : EndNoted → EndDone → Type 0) (r : RingEntry)
    → ((d : EndDone) → end_deed d r ≡ d) → IsDueIf Good [] (r ∷ [])
still-due Good r is s d c g =
    (done-now s d d r [] [] (is d) c (nothing s d), subst (Good s) (sym (is d)) g)

leaves-is : (d : EndDone) (why : LeaveCause) → down_in why ≡ None
    → end_leaves d why ≡ record d { left = d.left + 1 }
leaves-is d Ended is = refl
leaves-is d Spent is = refl
leaves-is d (Down number) is = absurd (cc)

left-caused : (s : EndNoted) (d : EndDone) → AreEndCaused s d
    → AreEndCaused s (record d { left = d.left + 1 })
left-caused s d c = record {
  accepts = c.accepts;
  posts = c.posts;
  port_answers = c.port_answers;
  replies = c.replies;
  ends = c.ends;
  goes = let h = c.goes in omega (arith, h);
}

gone-caused : (s : EndNoted) (d : EndDone) → AreEndCaused s d → MayGo s d
    → AreEndCaused (record s { gone = s.gone + 1 }) d
gone-caused s d c may = record {
  accepts = c.accepts;
  posts = c.posts;
  port_answers = c.port_answers;
  replies = c.replies;
  ends = c.ends;
  goes = may;
}

-- a node leaves for good, its calls end, and the end is gone
pub goes-due : (n : ℕ) (why : LeaveCause) (noted : List BridgeEntry) (done : List RingEntry)
    → down_in why ≡ None → IsDueIf MayGo noted done
    → IsDue (noted ++ Gone n ∷ []) (Leave n why ∷ done)
goes-due n why noted done quiet due s d c g =
    let q : EndDone = record d { left = d.left + 1 } in
    let first = due s q (left-caused s d c) (let h = c.goes in omega (arith, h)) in
    let t = tally end_note s noted in
    let u = tally end_deed q done in
    let fits : AreEndCaused t u =
    end-fits end_note end_deed AreEndCaused s q noted done (left-caused s d c) first.0 in (
      done-now s d q (Leave n why) (noted ++ Gone n ∷ []) done (leaves-is d why quiet)
          (left-caused s d c)
          (subst (λ (l : List RingEntry). EndInTimeAfter s q (noted ++ Gone n ∷ []) l)
          (append-nil done)
          (join end_note end_deed AreEndCaused s q noted (Gone n ∷ []) done [] first.0
          (noted-now t u (Gone n) [] [] (gone-caused t u fits first.1)
          (nothing (end_note t (Gone n)) u)))),
      tt,
    )
