-- What a worker adds at once is due wherever each Request that was taken has its Reply: for lists
-- of entries of any sort, by their rows of the table.
use Rattle.std.proofs.Common.{◌≡◌, ℕ, suc, ◌+◌, ◌≤◌, Bool, true, false, List, [], ◌∷◌, ◌++◌, refl}
use Rattle.std.proofs.Common.{sym, ◌∙◌, subst, arith}
use Rattle.ring_core.specs.declared.entry.RingEntry.{RingEntry}
use Rattle.one_order.specs.Merges.{tally, InTimeFrom, IsDueWhere}
use Rattle.one_order.proofs.Merges.{nothing-due, noted-first, done-first, due-join}
use Rattle.entry_causes.specs.Causes.{Noting, Asks, Serves, Declines, Ends, Doing, PostsRequest}
use Rattle.entry_causes.specs.Causes.{TakesRequest, TakesForPort, AnswersAtPort, PostsReply, IsOver}
use Rattle.entry_causes.specs.Causes.{GoesDown, ComesBack, AllAnswered, ready}
use Rattle.entry_causes.specs.Causes.{Noted, Done, noted_next, done_next, doings, deed, AreCaused}
use Rattle.entry_causes.proofs.Ready.{ready-requests, station-ready, port-ready}
use Rattle.time_laws.specs.InTime.{OwesNoReply}

-- ---- counts
-- with other counts of calls asked, of calls of the own port, and of calls ended
pub asks-caused : (s : Noted) (d : Done) (asked posted : ℕ) → AreCaused s d → posted ≤ asked
    → AreCaused (record s { asked = asked }) (record d { posted = posted })
asks-caused s d asked posted f h = record {
  posts = h;
  port_works = f.port_works;
  answers = f.answers;
  port_answers = f.port_answers;
  replies = f.replies;
  ends = f.ends;
  downs = f.downs;
  joins = f.joins;
}

pub works-caused : (s : Noted) (d : Done) (asked worked : ℕ) → AreCaused s d → worked ≤ asked
    → AreCaused (record s { asked_port = asked }) (record d { worked_port = worked })
works-caused s d asked worked f h = record {
  posts = f.posts;
  port_works = h;
  answers = f.answers;
  port_answers = f.port_answers;
  replies = f.replies;
  ends = f.ends;
  downs = f.downs;
  joins = f.joins;
}

pub ends-caused : (s : Noted) (d : Done) (ended over : ℕ) → AreCaused s d → ended ≤ over
    → AreCaused (record s { ended = ended }) (record d { over = over })
ends-caused s d ended over f h = record {
  posts = f.posts;
  port_works = f.port_works;
  answers = f.answers;
  port_answers = f.port_answers;
  replies = f.replies;
  ends = h;
  downs = f.downs;
  joins = f.joins;
}

pub over-caused : (s : Noted) (d : Done) → AreCaused s d → AreCaused s (done_next d IsOver)
over-caused s d f = ends-caused s d s.ended (d.over + 1) f (let h = f.ends in omega (arith, h))

pub ended-caused : (s : Noted) (d : Done) → AreCaused s d
    → AreCaused (noted_next s Ends) (done_next d IsOver)
ended-caused s d f =
    ends-caused s d (s.ended + 1) (d.over + 1) f (let h = f.ends in omega (arith, h))

pub asked-caused : (s : Noted) (d : Done) → AreCaused s d → AreCaused (noted_next s Asks) d
asked-caused s d f = asks-caused s d (s.asked + 1) d.posted f (let h = f.posts in omega (arith, h))

pub posted-caused : (s : Noted) (d : Done) → AreCaused s d
    → AreCaused (noted_next s Asks) (done_next d PostsRequest)
posted-caused s d f =
    asks-caused s d (s.asked + 1) (d.posted + 1) f (let h = f.posts in omega (arith, h))

-- with other counts of what came, and of answers and Replies to it
record AreAnswered (served : ℕ) (answers : List Bool) (d : Done) : Type 0 where
  station : served ≤ d.taken
  port : d.answered_port ≤ d.taken_port
  replies : d.replies ≤ ready d.requests answers d.answered_port

serves-caused : (s : Noted) (d q : Done) (served : ℕ) (answers : List Bool) → AreCaused s d
    → q.posted ≡ d.posted → q.worked_port ≡ d.worked_port → q.over ≡ d.over → q.down ≡ d.down
    → q.joined ≡ d.joined → AreAnswered served answers q
    → AreCaused (record s { served = served; answers = answers }) q
serves-caused s d q served answers f a b c e h g = record {
  posts = let k = f.posts in omega (arith, k, a);
  port_works = let k = f.port_works in omega (arith, k, b);
  answers = g.station;
  port_answers = g.port;
  replies = g.replies;
  ends = let k = f.ends in omega (arith, k, c);
  downs = let k = f.downs in omega (arith, k, e);
  joins = let k = f.joins in omega (arith, k, h);
}

plus-one : (m : ℕ) → suc m ≡ m + 1
plus-one m = omega arith

-- what was replied to still is, where neither Requests nor answers came
pub replied-as : (s t : Noted) (d q : Done) → t.answers ≡ s.answers → q.requests ≡ d.requests
    → q.answered_port ≡ d.answered_port → q.replies ≡ d.replies → OwesNoReply s d → OwesNoReply t q
replied-as s t d q a b c e g = record {
  answered = subst (λ (l : List Bool). AllAnswered q.requests l q.answered_port) (sym a)
      (subst (λ (l : List Bool). AllAnswered l s.answers q.answered_port) (sym b)
      (subst (λ (k : ℕ). AllAnswered d.requests s.answers k) (sym c) g.answered));
  posted = e ∙ (g.posted ∙ (λ i. ready (sym b i) (sym a i) (sym c i)));
}

module _ {E : Type 0} (rows : E → List Noting) where
  abbrev pub noting : Noted → E → Noted
  noting s e = tally noted_next s (rows e)

  abbrev pub Timely : Noted → Done → List E → List RingEntry → Type 0
  Timely s d known own = InTimeFrom noting deed AreCaused s d known own

  abbrev pub IsDue : List E → List RingEntry → Type 0
  IsDue noted done = IsDueWhere noting deed AreCaused OwesNoReply noted done

  -- due after these counts
  abbrev pub IsDueAt : Noted → Done → List E → List RingEntry → Type 0
  IsDueAt s d noted done =
      Timely s d noted done × OwesNoReply (tally noting s noted) (tally deed d done)

  pub none-due : IsDue [] []
  none-due s d f g = (nothing-due noting deed AreCaused s d, g)

  pub due-as : (noted noted' : List E) (done done' : List RingEntry) → noted ≡ noted' → done ≡ done'
      → IsDue noted' done' → IsDue noted done
  due-as noted noted' done done' p q is =
      subst (λ (l : List E). IsDue l done) (sym p)
      (subst (λ (l : List RingEntry). IsDue noted' l) (sym q) is)

  pub both-due : (noted more : List E) (done later : List RingEntry) → IsDue noted done
      → IsDue more later
      → IsDue (noted ++ more) (done ++ later)
  both-due noted more done later x y = due-join noting deed AreCaused OwesNoReply noted more
      done later x y

  -- an entry by its row
  pub done-as : (s : Noted) (d : Done) (r : RingEntry) (row : List Doing) (known : List E)
      (own : List RingEntry) → doings r ≡ row
      → AreCaused s (tally done_next d row) → Timely s (tally done_next d row) known own
      → Timely s d known (r ∷ own)
  done-as s d r row known own is f x =
      done-first noting deed AreCaused s d r known own
      (subst (λ (t : List Doing). AreCaused s (tally done_next d t)) (sym is) f)
      (subst (λ (t : List Doing). Timely s (tally done_next d t) known own) (sym is) x)

  pub noted-as : (s : Noted) (d : Done) (e : E) (row : List Noting) (known : List E)
      (own : List RingEntry) → rows e ≡ row
      → AreCaused (tally noted_next s row) d → Timely (tally noted_next s row) d known own
      → Timely s d (e ∷ known) own
  noted-as s d e row known own is f x =
      noted-first noting deed AreCaused s d e known own
      (subst (λ (t : List Noting). AreCaused (tally noted_next s t) d) (sym is) f)
      (subst (λ (t : List Noting). Timely (tally noted_next s t) d known own) (sym is) x)

  -- a row's end
  row-replied : (s : Noted) (d : Done) (e : E) (row : List Noting) → rows e ≡ row
      → OwesNoReply (tally noted_next s row) d → OwesNoReply (noting s e) d
  row-replied s d e row is g =
      subst (λ (t : List Noting). OwesNoReply (tally noted_next s t) d) (sym is) g

  done-replied : (s : Noted) (d : Done) (r : RingEntry) (row : List Doing) → doings r ≡ row
      → OwesNoReply s (tally done_next d row) → OwesNoReply s (deed d r)
  done-replied s d r row is g =
      subst (λ (t : List Doing). OwesNoReply s (tally done_next d t)) (sym is) g

  -- a call is over, and ends
  pub ends-due : (e : E) (r : RingEntry) → rows e ≡ Ends ∷ [] → doings r ≡ IsOver ∷ []
      → IsDue (e ∷ []) (r ∷ [])
  ends-due e r p q s d f g = (
    done-as s d r (IsOver ∷ []) (e ∷ []) [] q (over-caused s d f)
        (noted-as s (done_next d IsOver) e (Ends ∷ []) [] [] p (ended-caused s d f)
        (nothing-due noting deed AreCaused _ _)),
    row-replied s (deed d r) e (Ends ∷ []) p (done-replied (noted_next s Ends) d r (IsOver ∷ []) q
        (replied-as s (noted_next s Ends) d (done_next d IsOver) refl refl refl refl g)),
  )

  -- a Request is taken, and served by the station
  pub serves-due : (e : E) (take post : RingEntry) → rows e ≡ Serves ∷ []
      → doings take ≡ TakesRequest ∷ [] → doings post ≡ PostsReply ∷ []
      → IsDue (e ∷ []) (take ∷ post ∷ [])
  serves-due e take post p q r s d f g =
      let t : Done = done_next d TakesRequest in
      let next = station-ready d.requests s.answers d.answered_port true g.answered in
      let more = ready-requests d.requests (true ∷ []) s.answers d.answered_port in
      let came = serves-caused s d t s.served s.answers f refl refl refl refl refl (record {
        station = let h = f.answers in omega (arith, h);
        port = f.port_answers;
        replies = let h = f.replies in omega (arith, h, more);
      }) in
      let served = serves-caused s d t (s.served + 1) (s.answers ++ true ∷ []) f refl refl refl refl
      refl (record {
        station = let h = f.answers in omega (arith, h);
        port = f.port_answers;
        replies = let h = f.replies in let k = next.0 in omega (arith, h, k);
      }) in
      let replied = serves-caused s d (done_next t PostsReply) (s.served + 1)
      (s.answers ++ true ∷ []) f refl refl refl refl refl (record {
        station = let h = f.answers in omega (arith, h);
        port = f.port_answers;
        replies = let h = g.posted in let k = next.0 in omega (arith, h, k);
      }) in (
        done-as s d take (TakesRequest ∷ []) (e ∷ []) (post ∷ []) q came
            (noted-as s t e (Serves ∷ []) [] (post ∷ []) p served
            (done-as (noted_next s Serves) t post (PostsReply ∷ []) [] [] r replied
            (nothing-due noting deed AreCaused _ _))),
        row-replied s (deed (deed d take) post) e (Serves ∷ []) p
            (subst (λ (row : List Doing).
            OwesNoReply (noted_next s Serves) (deed (tally done_next d row) post)) (sym q)
            (done-replied (noted_next s Serves) t post (PostsReply ∷ []) r (record {
              answered = next.1;
              posted = let h = g.posted in let k = next.0 in omega (arith, h, k);
            }))),
      )

  -- or goes by without power
  pub declines-due : (e : E) (take : RingEntry) → rows e ≡ Declines ∷ []
      → doings take ≡ TakesRequest ∷ [] → IsDue (e ∷ []) (take ∷ [])
  declines-due e take p q s d f g =
      let t : Done = done_next d TakesRequest in
      let next = station-ready d.requests s.answers d.answered_port false g.answered in
      let more = ready-requests d.requests (true ∷ []) s.answers d.answered_port in
      let came = serves-caused s d t s.served s.answers f refl refl refl refl refl (record {
        station = let h = f.answers in omega (arith, h);
        port = f.port_answers;
        replies = let h = f.replies in omega (arith, h, more);
      }) in
      let declined = serves-caused s d t (s.served + 1) (s.answers ++ false ∷ []) f refl refl refl
      refl refl (record {
        station = let h = f.answers in omega (arith, h);
        port = f.port_answers;
        replies = let h = f.replies in let k = next.0 in omega (arith, h, k);
      }) in (
        done-as s d take (TakesRequest ∷ []) (e ∷ []) [] q came
            (noted-as s t e (Declines ∷ []) [] [] p declined
            (nothing-due noting deed AreCaused _ _)),
        row-replied s (deed d take) e (Declines ∷ []) p
            (done-replied (noted_next s Declines) d take (TakesRequest ∷ []) q (record {
              answered = next.1;
              posted = let h = g.posted in let k = next.0 in omega (arith, h, k);
            })),
      )

  -- or answered by the port
  pub tells-due : (take here post : RingEntry) → doings take ≡ TakesForPort ∷ []
      → doings here ≡ AnswersAtPort ∷ [] → doings post ≡ PostsReply ∷ []
      → IsDue [] (take ∷ here ∷ post ∷ [])
  tells-due take here post p q r s d f g =
      let t : Done = done_next d TakesForPort in
      let o : Done = done_next t AnswersAtPort in
      let requests = d.requests ++ false ∷ [] in
      let next = subst (λ (k : ℕ). (ready requests s.answers k
      ≡ ready d.requests s.answers d.answered_port + 1) × AllAnswered requests s.answers k)
      (plus-one d.answered_port) (port-ready d.requests s.answers d.answered_port g.answered) in
      let more = ready-requests d.requests (false ∷ []) s.answers d.answered_port in
      let came = serves-caused s d t s.served s.answers f refl refl refl refl refl (record {
        station = f.answers;
        port = let h = f.port_answers in omega (arith, h);
        replies = let h = f.replies in omega (arith, h, more);
      }) in
      let told = serves-caused s d o s.served s.answers f refl refl refl refl refl (record {
        station = f.answers;
        port = let h = f.port_answers in omega (arith, h);
        replies = let h = f.replies in let k = next.0 in omega (arith, h, k);
      }) in
      let replied = serves-caused s d (done_next o PostsReply) s.served s.answers f refl refl refl
      refl refl (record {
        station = f.answers;
        port = let h = f.port_answers in omega (arith, h);
        replies = let h = g.posted in let k = next.0 in omega (arith, h, k);
      }) in (
        done-as s d take (TakesForPort ∷ []) [] (here ∷ post ∷ []) p came
            (done-as s t here (AnswersAtPort ∷ []) [] (post ∷ []) q told
            (done-as s o post (PostsReply ∷ []) [] [] r replied
            (nothing-due noting deed AreCaused _ _))),
        subst (λ (row : List Doing). OwesNoReply s (deed (deed (tally done_next d row) here) post))
            (sym p)
            (subst (λ (row : List Doing). OwesNoReply s (deed (tally done_next t row) post)) (sym q)
            (done-replied s o post (PostsReply ∷ []) r (record {
              answered = next.1;
              posted = let h = g.posted in let k = next.0 in omega (arith, h, k);
            }))),
      )

  -- a call is asked, and its Request posted
  pub asks-due : (e : E) (post : RingEntry) → rows e ≡ Asks ∷ [] → doings post ≡ PostsRequest ∷ []
      → IsDue (e ∷ []) (post ∷ [])
  asks-due e post p q s d f g = (
    noted-as s d e (Asks ∷ []) [] (post ∷ []) p (asked-caused s d f)
        (done-as (noted_next s Asks) d post (PostsRequest ∷ []) [] [] q (posted-caused s d f)
        (nothing-due noting deed AreCaused _ _)),
    row-replied s (deed d post) e (Asks ∷ []) p
        (done-replied (noted_next s Asks) d post (PostsRequest ∷ []) q
        (replied-as s (noted_next s Asks) d (done_next d PostsRequest) refl refl refl refl g)),
  )

  -- what is neither cause nor caused
  pub still-due : (r : RingEntry) → doings r ≡ [] → IsDue [] (r ∷ [])
  still-due r q s d f g = (
    done-as s d r [] [] [] q f (nothing-due noting deed AreCaused s d),
    done-replied s d r [] q g,
  )

  -- the node leaves as power failed so often
  pub down-due : (s : Noted) (d : Done) (r : RingEntry) (k : ℕ) → doings r ≡ GoesDown k ∷ []
      → k ≤ s.failed → AreCaused s d → OwesNoReply s d → IsDueAt s d [] (r ∷ [])
  down-due s d r k q few f g = (
    done-as s d r (GoesDown k ∷ []) [] [] q (record {
      posts = f.posts;
      port_works = f.port_works;
      answers = f.answers;
      port_answers = f.port_answers;
      replies = f.replies;
      ends = f.ends;
      downs = few;
      joins = f.joins;
    }) (nothing-due noting deed AreCaused _ _),
    done-replied s d r (GoesDown k ∷ []) q
        (replied-as s s d (done_next d (GoesDown k)) refl refl refl refl g),
  )

  -- it comes back as there is power again
  pub back-due : (s : Noted) (d : Done) (r : RingEntry) → doings r ≡ ComesBack ∷ []
      → s.failed ≤ s.returned → AreCaused s d → OwesNoReply s d → IsDueAt s d [] (r ∷ [])
  back-due s d r q power f g = (
    done-as s d r (ComesBack ∷ []) [] [] q (record {
      posts = f.posts;
      port_works = f.port_works;
      answers = f.answers;
      port_answers = f.port_answers;
      replies = f.replies;
      ends = f.ends;
      downs = f.downs;
      joins = let h = f.downs in omega (arith, h, power);
    }) (nothing-due noting deed AreCaused _ _),
    done-replied s d r (ComesBack ∷ []) q
        (replied-as s s d (done_next d ComesBack) refl refl refl refl g),
  )
