-- The book of global words after one more entry.
use Rattle.std.proofs.Common.{◌≡◌, ℕ, zero, suc, ◌==◌, Bool, true, false, cond, List, [], ◌∷◌, ◌++◌}
use Rattle.std.proofs.Common.{Option, Some, is_some, unwrap_or, Contains, refl, sym, ap, ◌∙◌, subst}
use Rattle.std.proofs.Common.{inl, inr, ◌⊎◌, ⊎_elim, eq-eqb, arith, nat_cmp}
use Rattle.std.proofs.lemmas.Bool.{cases_eq, ne_eqb}
use Rattle.std.specs.Cmp.{nat_cmp_total, unsigned_tied}
use Rattle.std.specs.FinMap.{get, insert, contains_key, get-insert, get-empty}
use Rattle.global_data.specs.Book.{Book, GlobalIs, no_words, words_at, with_put, with_passed}
use Rattle.global_data.specs.Book.{new_book}
use Rattle.ring_core.specs.Words.{NetPlan, RingEntry, Post, Send, Take, Local, GiveUp, Pass, Leave}
use Rattle.ring_core.specs.Words.{GetStats, ClearStats, PutGlobal, GetGlobal, RemoteGet}
use Rattle.ring_core.specs.Words.{RemoteClear, CallId, MstrResult, Join, Ended, Spent, Down}
use Rattle.ring_core.specs.Scratch.{words_put, heard_words, put_with, heard_in}
use Rattle.ring_core.specs.Legal.{IsMember, IsRingStep}
use Rattle.ring_core.specs.Kept.{IsBook, book_left, book_step}
use Rattle.ring_core.proofs.Runs.{put_after-push, heard_after-push}

got_own : (b : Book) (m : ℕ) (w : GlobalIs) → get (insert b m w) m ≡ Some w
got_own b m w = get-insert nat_cmp_total b m w m
    ∙ ap (λ (t : Bool). cond t (Some w) (get b m)) (unsigned_tied m m ∙ eq-eqb m m refl)

got_other : (b : Book) (m n : ℕ) (w : GlobalIs) → (n ≡ m → ⊥) → get (insert b m w) n ≡ get b n
got_other b m n w no' = get-insert nat_cmp_total b m w n
    ∙ ap (λ (t : Bool). cond t (Some w) (get b n)) (unsigned_tied n m ∙ ne_eqb n m no')

-- what holds of each node's words after those of one are new
at_each : (P : ℕ → Option GlobalIs → Type 0) (b : Book) (m : ℕ) (w : GlobalIs)
    → ((n : ℕ) → (n ≡ m → ⊥) → P n (get b n)) → P m (Some w) → (n : ℕ)
    → P n (get (insert b m w) n)
at_each P b m w others it n = ⊎_elim
    (λ (e : n ≡ m). subst (λ (k : ℕ). P k (get (insert b m w) k)) (sym e)
    (subst (P m) (sym (got_own b m w)) it))
    (λ (no' : n ≡ m → ⊥). subst (P n) (sym (got_other b m n w no')) (others n no'))
    (cases_eq n m)

-- a choice by two addresses
chosen : (n m : ℕ) (xs ys : List ℕ) → n ≡ m → cond (m == n) xs ys ≡ xs
chosen n m xs ys e = ap (λ (b : Bool). cond b xs ys) (eq-eqb m n (sym e))

passed_by : (n m : ℕ) (xs ys : List ℕ) → (n ≡ m → ⊥) → cond (m == n) xs ys ≡ ys
passed_by n m xs ys no' = ap (λ (b : Bool). cond b xs ys) (ne_eqb m n (λ q. no' (sym q)))

put-book : (net : NetPlan) (h : List RingEntry) (b : Book) (m : ℕ) (id : CallId) (words : List ℕ)
    (result : MstrResult) → IsBook net h b
    → IsMember net m
    → IsBook net (h ++ Local m id (PutGlobal words) result ∷ []) (with_put b m words)
put-book net h b m id words result k member =
    let e = Local m id (PutGlobal words) result in
    let w : GlobalIs = record { put = words; heard = (words_at b m).heard } in
    record {
      put = at_each (λ n o. (unwrap_or o no_words).put ≡ words_put n (h ++ e ∷ [])) b m w
          (λ n no'. k.put n
          ∙ sym (put_after-push n [] h e ∙ passed_by n m words (words_put n h) no'))
          (sym (put_after-push m [] h e ∙ chosen m m words (words_put m h) refl));
      heard = at_each (λ n o. (unwrap_or o no_words).heard ≡ heard_words n (h ++ e ∷ [])) b m w
          (λ n no'. k.heard n ∙ sym (heard_after-push n [] h e))
          (k.heard m ∙ sym (heard_after-push m [] h e));
      members = at_each (λ n o. IsMember net n → is_some o ≡ true) b m w
          (λ n no'. k.members n) (λ _. refl);
      others = at_each (λ n o. is_some o ≡ true → IsMember net n) b m w (λ n no'. k.others n)
          (λ _. member);
    }

pass-book : (net : NetPlan) (h : List RingEntry) (b : Book) (m : ℕ) (done : Bool) (words : List ℕ)
    → IsBook net h b
    → IsMember net m → words ≡ words_put m h
    → IsBook net (h ++ Pass m done words ∷ []) (with_passed b m)
pass-book net h b m done words k member is =
    let e = Pass m done words in
    let w : GlobalIs = record { put = (words_at b m).put; heard = (words_at b m).put } in
    record {
      put = at_each (λ n o. (unwrap_or o no_words).put ≡ words_put n (h ++ e ∷ [])) b m w
          (λ n no'. k.put n ∙ sym (put_after-push n [] h e))
          (k.put m ∙ sym (put_after-push m [] h e));
      heard = at_each (λ n o. (unwrap_or o no_words).heard ≡ heard_words n (h ++ e ∷ [])) b m w
          (λ n no'. k.heard n
          ∙ sym (heard_after-push n [] h e ∙ passed_by n m words (heard_words n h) no'))
          (k.put m
          ∙ (sym is ∙ sym (heard_after-push m [] h e ∙ chosen m m words (heard_words m h) refl)));
      members = at_each (λ n o. IsMember net n → is_some o ≡ true) b m w
          (λ n no'. k.members n) (λ _. refl);
      others = at_each (λ n o. is_some o ≡ true → IsMember net n) b m w (λ n no'. k.others n)
          (λ _. member);
    }

-- who leaves as its power fails has no words
down-book : (net : NetPlan) (h : List RingEntry) (b : Book) (m number : ℕ) → IsBook net h b
    → IsMember net m
    → IsBook net (h ++ Leave m (Down number) ∷ []) (book_left b m (Down number))
down-book net h b m number k member =
    let e = Leave m (Down number) in
    let cleared = with_put b m [] in
    let none : (words_at cleared m).put ≡ [] =
    ap (λ (o : Option GlobalIs). (unwrap_or o no_words).put) (got_own b m _) in
    let w : GlobalIs =
    record { put = (words_at cleared m).put; heard = (words_at cleared m).put } in
    let other : (n : ℕ) → (n ≡ m → ⊥) → get cleared n ≡ get b n =
    λ n no'. got_other b m n _ no' in
    record {
      put = at_each (λ n o. (unwrap_or o no_words).put ≡ words_put n (h ++ e ∷ [])) cleared m w
          (λ n no'. ap (λ (o : Option GlobalIs). (unwrap_or o no_words).put) (other n no')
          ∙ (k.put n ∙ sym (put_after-push n [] h e ∙ passed_by n m [] (words_put n h) no')))
          (none ∙ sym (put_after-push m [] h e ∙ chosen m m [] (words_put m h) refl));
      heard = at_each (λ n o. (unwrap_or o no_words).heard ≡ heard_words n (h ++ e ∷ []))
          cleared m w
          (λ n no'. ap (λ (o : Option GlobalIs). (unwrap_or o no_words).heard) (other n no')
          ∙ (k.heard n ∙ sym (heard_after-push n [] h e ∙ passed_by n m [] (heard_words n h) no')))
          (none ∙ sym (heard_after-push m [] h e ∙ chosen m m [] (heard_words m h) refl));
      members = at_each (λ n o. IsMember net n → is_some o ≡ true) cleared m w
          (λ n no' is. ap is_some (other n no') ∙ k.members n is) (λ _. refl);
      others = at_each (λ n o. is_some o ≡ true → IsMember net n) cleared m w
          (λ n no' there. k.others n (sym (ap is_some (other n no')) ∙ there)) (λ _. member);
    }

-- an entry that neither puts words nor passes them
quiet-book : (net : NetPlan) (h : List RingEntry) (b : Book) (e : RingEntry) → IsBook net h b
    → ((n : ℕ) → put_with n (words_put n h) e ≡ words_put n h)
    → ((n : ℕ) → heard_in n (heard_words n h) e ≡ heard_words n h) → IsBook net (h ++ e ∷ []) b
quiet-book net h b e k put heard = record {
  put = λ n. k.put n ∙ sym (put_after-push n [] h e ∙ put n);
  heard = λ n. k.heard n ∙ sym (heard_after-push n [] h e ∙ heard n);
  members = k.members;
  others = k.others;
}

pub book-push : (net : NetPlan) (h : List RingEntry) (b : Book) (e : RingEntry) → IsBook net h b
    → IsRingStep net h e → IsBook net (h ++ e ∷ []) (book_step b e)
book-push net h b (Post n f) k step = quiet-book net h b (Post n f) k (λ _. refl) (λ _. refl)
book-push net h b (Send n heard) k step =
    quiet-book net h b (Send n heard) k (λ _. refl) (λ _. refl)
book-push net h b (Take n f) k step = quiet-book net h b (Take n f) k (λ _. refl) (λ _. refl)
book-push net h b (Local n id (PutGlobal words) result) k step =
    put-book net h b n id words result k step.0.0
book-push net h b (Local n id GetStats result) k step =
    quiet-book net h b (Local n id GetStats result) k (λ _. refl) (λ _. refl)
book-push net h b (Local n id ClearStats result) k step =
    quiet-book net h b (Local n id ClearStats result) k (λ _. refl) (λ _. refl)
book-push net h b (Local n id (GetGlobal node size) result) k step =
    quiet-book net h b (Local n id (GetGlobal node size) result) k (λ _. refl) (λ _. refl)
book-push net h b (Local n id RemoteGet result) k step =
    quiet-book net h b (Local n id RemoteGet result) k (λ _. refl) (λ _. refl)
book-push net h b (Local n id RemoteClear result) k step =
    quiet-book net h b (Local n id RemoteClear result) k (λ _. refl) (λ _. refl)
book-push net h b (GiveUp id word) k step =
    quiet-book net h b (GiveUp id word) k (λ _. refl) (λ _. refl)
book-push net h b (Pass n done words) k step = pass-book net h b n done words k step.0 step.1.1
book-push net h b (Leave n Ended) k step =
    quiet-book net h b (Leave n Ended) k (λ _. refl) (λ _. refl)
book-push net h b (Leave n Spent) k step =
    quiet-book net h b (Leave n Spent) k (λ _. refl) (λ _. refl)
book-push net h b (Leave n (Down number)) k step = down-book net h b n number k step.0
book-push net h b (Join n) k step = quiet-book net h b (Join n) k (λ _. refl) (λ _. refl)

-- at first nobody has words
first-words : (ms : List ℕ) (n : ℕ) → words_at (new_book ms) n ≡ no_words
first-words [] n = ap (λ (o : Option GlobalIs). unwrap_or o no_words) (get-empty nat_cmp n)
first-words (m ∷ ms) n = at_each (λ k o. unwrap_or o no_words ≡ no_words) (new_book ms) m no_words
    (λ k no'. first-words ms k) refl n

-- who is in the book stays in it
pub stays_in : (b : Book) (m n : ℕ) (w : GlobalIs) → contains_key b n ≡ true
    → contains_key (insert b m w) n ≡ true
stays_in b m n w there = at_each (λ k o. contains_key b k ≡ true → is_some o ≡ true) b m w
    (λ k no' was. was) (λ _. refl) n there

got_in : (ms : List ℕ) (n : ℕ) → Contains ms n → contains_key (new_book ms) n ≡ true
got_in [] n member = absurd (omega (arith, member.1))
got_in (m ∷ ms) n (zero, low, is) =
    subst (λ (k : ℕ). contains_key (insert (new_book ms) m no_words) k ≡ true) is
    (ap is_some (got_own (new_book ms) m no_words))
got_in (m ∷ ms) n (suc k, low, is) =
    stays_in (new_book ms) m n no_words (got_in ms n (k, omega (arith, low), is))

-- who is in the book after one is added was in it before or is that one
is_one : (b : Book) (m n : ℕ) (w : GlobalIs) → contains_key (insert b m w) n ≡ true
    → (contains_key b n ≡ true) ⊎ (n ≡ m)
is_one b m n w there = at_each (λ k o. is_some o ≡ true → (contains_key b k ≡ true) ⊎ (k ≡ m)) b m w
    (λ k no' was. inl was) (λ _. inr refl) n there

only_in : (ms : List ℕ) (n : ℕ) → contains_key (new_book ms) n ≡ true → Contains ms n
only_in [] n there =
    absurd (let no' : false ≡ true = sym (ap is_some (get-empty nat_cmp n)) ∙ there in cc)
only_in (m ∷ ms) n there = ⊎_elim
    (λ (old : contains_key (new_book ms) n ≡ true).
    let later = only_in ms n old in (suc later.0, omega (arith, later.1), later.2))
    (λ (same : n ≡ m). (0, omega arith, sym same))
    (is_one (new_book ms) m n no_words there)

pub opening-book : (net : NetPlan) → IsBook net [] (new_book net.members)
opening-book net = record {
  put = λ n. ap (λ (w : GlobalIs). w.put) (first-words net.members n);
  heard = λ n. ap (λ (w : GlobalIs). w.heard) (first-words net.members n);
  members = got_in net.members;
  others = only_in net.members;
}
