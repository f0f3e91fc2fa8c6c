-- What one list allows the other only grows, so what both may put next they may put together.
use Rattle.std.proofs.Common.{◌≡◌, ◌≤◌, Bool, true, false, List, [], ◌∷◌, ◌++◌, refl, sym, ap}
use Rattle.std.proofs.Common.{◌∙◌, subst, arith, append-nil, append_assoc}
use Rattle.std.proofs.Math.Nat.{le-max_left}
use Rattle.controller_core.specs.declared.entry.Entry.{Entry}
use Rattle.ring_core.specs.declared.entry.RingEntry.{RingEntry}
use Rattle.one_order.specs.Merges.{tally}
use Rattle.entry_causes.specs.Causes.{StationEntry, ByController, ByHost, Noting, Asks, AsksPort}
use Rattle.entry_causes.specs.Causes.{Serves, Declines, Ends, Fails, HasPower}
use Rattle.entry_causes.specs.Causes.{Doing, PostsRequest, WorksPort, TakesRequest, TakesForPort}
use Rattle.entry_causes.specs.Causes.{AnswersAtPort, PostsReply, IsOver, GoesDown, ComesBack}
use Rattle.entry_causes.specs.Causes.{Noted, Done, no_notes, no_deeds, noted_next, done_next}
use Rattle.entry_causes.specs.Causes.{notings, host_notings, doings, ready}
use Rattle.entry_causes.specs.Causes.{note, note_entry, deed, AreCaused}
use Rattle.entry_causes.proofs.Ready.{ready-answers}

pub none-caused : AreCaused no_notes no_deeds
none-caused = record {
  posts = omega arith;
  port_works = omega arith;
  answers = omega arith;
  port_answers = omega arith;
  replies = omega arith;
  ends = omega arith;
  downs = omega arith;
  joins = omega arith;
}

-- a list's counts, and those after more of it
pub record Grows (s t : Noted) : Type 0 where
  pub asked : s.asked ≤ t.asked
  pub asked_port : s.asked_port ≤ t.asked_port
  pub more : List Bool
  pub answers : t.answers ≡ s.answers ++ more
  pub failed : s.failed ≤ t.failed
  pub returned : s.returned ≤ t.returned

record DoesMore (d q : Done) : Type 0 where
  taken : d.taken ≤ q.taken
  over : d.over ≤ q.over

-- the counts that this note leaves
same-answers : (s : Noted) → s.answers ≡ s.answers ++ []
same-answers s = sym (append-nil s.answers)

noting-grows : (s : Noted) (x : Noting) → Grows s (noted_next s x)
noting-grows s Asks = record {
  asked = omega arith;
  asked_port = omega arith;
  more = [];
  answers = same-answers s;
  failed = omega arith;
  returned = omega arith;
}
noting-grows s AsksPort = record {
  asked = omega arith;
  asked_port = omega arith;
  more = [];
  answers = same-answers s;
  failed = omega arith;
  returned = omega arith;
}
noting-grows s Serves = record {
  asked = omega arith;
  asked_port = omega arith;
  more = true ∷ [];
  answers = refl;
  failed = omega arith;
  returned = omega arith;
}
noting-grows s Declines = record {
  asked = omega arith;
  asked_port = omega arith;
  more = false ∷ [];
  answers = refl;
  failed = omega arith;
  returned = omega arith;
}
noting-grows s Ends = record {
  asked = omega arith;
  asked_port = omega arith;
  more = [];
  answers = same-answers s;
  failed = omega arith;
  returned = omega arith;
}
noting-grows s Fails = record {
  asked = omega arith;
  asked_port = omega arith;
  more = [];
  answers = same-answers s;
  failed = omega arith;
  returned = omega arith;
}
noting-grows s HasPower = record {
  asked = omega arith;
  asked_port = omega arith;
  more = [];
  answers = same-answers s;
  failed = omega arith;
  returned = le-max_left s.returned s.failed;
}

notings-grow : (s : Noted) (xs : List Noting) → Grows s (tally noted_next s xs)
notings-grow s [] = record {
  asked = omega arith;
  asked_port = omega arith;
  more = [];
  answers = same-answers s;
  failed = omega arith;
  returned = omega arith;
}
notings-grow s (x ∷ xs) =
    let g = noting-grows s x in
    let h = notings-grow (noted_next s x) xs in
    record {
      asked = let a = g.asked in let b = h.asked in omega (arith, a, b);
      asked_port = let a = g.asked_port in let b = h.asked_port in omega (arith, a, b);
      more = g.more ++ h.more;
      answers = h.answers ∙ (ap (λ l. l ++ h.more) g.answers
          ∙ append_assoc s.answers g.more h.more);
      failed = let a = g.failed in let b = h.failed in omega (arith, a, b);
      returned = let a = g.returned in let b = h.returned in omega (arith, a, b);
    }

doing-more : (d : Done) (x : Doing) → DoesMore d (done_next d x)
doing-more d PostsRequest = record { taken = omega arith; over = omega arith }
doing-more d WorksPort = record { taken = omega arith; over = omega arith }
doing-more d TakesRequest = record { taken = omega arith; over = omega arith }
doing-more d TakesForPort = record { taken = omega arith; over = omega arith }
doing-more d AnswersAtPort = record { taken = omega arith; over = omega arith }
doing-more d PostsReply = record { taken = omega arith; over = omega arith }
doing-more d IsOver = record { taken = omega arith; over = omega arith }
doing-more d (GoesDown number) = record { taken = omega arith; over = omega arith }
doing-more d ComesBack = record { taken = omega arith; over = omega arith }

doings-more : (d : Done) (xs : List Doing) → DoesMore d (tally done_next d xs)
doings-more d [] = record { taken = omega arith; over = omega arith }
doings-more d (x ∷ xs) =
    let g = doing-more d x in
    let h = doings-more (done_next d x) xs in
    record {
      taken = let a = g.taken in let b = h.taken in omega (arith, a, b);
      over = let a = g.over in let b = h.over in omega (arith, a, b);
    }

pub still-ready : (s t : Noted) (q : Done) → Grows s t
    → q.replies ≤ ready q.requests s.answers q.answered_port
    → q.replies ≤ ready q.requests t.answers q.answered_port
still-ready s t q g k = subst (λ l. q.replies ≤ ready q.requests l q.answered_port) (sym g.answers)
    (let m = ready-answers q.requests s.answers g.more q.answered_port in omega (arith, k, m))

both-caused : (s t : Noted) (d q : Done) → Grows s t → DoesMore d q → AreCaused t d → AreCaused s q
    → AreCaused t q
both-caused s t d q g h f k = record {
  posts = let a = g.asked in let b = k.posts in omega (arith, a, b);
  port_works = let a = g.asked_port in let b = k.port_works in omega (arith, a, b);
  answers = let a = h.taken in let b = f.answers in omega (arith, a, b);
  port_answers = k.port_answers;
  replies = still-ready s t q g k.replies;
  ends = let a = h.over in let b = f.ends in omega (arith, a, b);
  downs = let a = g.failed in let b = k.downs in omega (arith, a, b);
  joins = let a = g.returned in let b = k.joins in omega (arith, a, b);
}

pub note-grows : (s : Noted) (e : StationEntry) → Grows s (note s e)
note-grows s (ByController e) = notings-grow s (notings e)
note-grows s (ByHost e) = notings-grow s (host_notings e)

pub both : (s : Noted) (d : Done) (e : StationEntry) (r : RingEntry) → AreCaused (note s e) d
    → AreCaused s (deed d r)
    → AreCaused (note s e) (deed d r)
both s d e r f k =
    both-caused s (note s e) d (deed d r) (note-grows s e) (doings-more d (doings r)) f k

pub both-of-entry : (s : Noted) (d : Done) (e : Entry) (r : RingEntry)
    → AreCaused (note_entry s e) d → AreCaused s (deed d r)
    → AreCaused (note_entry s e) (deed d r)
both-of-entry s d e r f k = both s d (ByController e) r f k
