-- How far Requests are answered, and how many Replies may be posted.
use Rattle.std.proofs.Common.{◌≡◌, ℕ, zero, suc, ◌+◌, ◌-◌, ◌≤◌, ◌<◌}
use Rattle.std.proofs.Common.{Bool, true, false, cond, List, []}
use Rattle.std.proofs.Common.{◌∷◌, ◌++◌, length, take, drop, Option}
use Rattle.std.proofs.Common.{Some, None, refl, sym, ap, subst}
use Rattle.std.proofs.Common.{◌∙◌, arith, nat_lt}
use Rattle.std.specs.Prelude.{slice_get}
use Rattle.std.proofs.lemmas.List.{take-append-drop}
use Rattle.entry_causes.specs.Causes.{ready, AllAnswered}
use Rattle.entry_causes.proofs.Ready.{station-ready, port-ready}
use Rattle.time_judge.specs.Counts.{IsWalk, IsWholeWalk, walked_on, station_step, walk_step}
use Rattle.time_judge.specs.declared.answering.Walk.{Walk}

-- an element of a list parts it
record Cut {X : Type 0} (xs : List X) (i : ℕ) (x : X) : Type 0 where
  within : i < length xs
  front : take (i + 1) xs ≡ take i xs ++ x ∷ []
  behind : drop i xs ≡ x ∷ drop (i + 1) xs

cut : {X : Type 0} (xs : List X) (i : ℕ) (x : X) → slice_get xs i ≡ Some x → Cut xs i x
cut [] i x is = absurd (let no' : None ≡ Some x = is in cc)
cut (y ∷ xs) zero x is =
    let same : y ≡ x = cc in
    record {
      within = omega arith;
      front = ap (λ z. z ∷ []) same;
      behind = ap (λ z. z ∷ xs) same;
    }
cut (y ∷ xs) (suc i) x is =
    let c = cut xs i x is in
    let next : suc i + 1 ≡ suc (i + 1) = omega arith in
    record {
      within = let w = c.within in omega (arith, w);
      front = ap (λ k. take k (y ∷ xs)) next ∙ ap (λ l. y ∷ l) c.front;
      behind = c.behind ∙ ap (λ k. x ∷ drop k (y ∷ xs)) (sym next);
    }

none-behind : {X : Type 0} (xs : List X) (i : ℕ) → slice_get xs i ≡ None → drop i xs ≡ []
none-behind [] zero is = refl
none-behind [] (suc i) is = refl
none-behind (x ∷ xs) zero is = absurd (let no' : Some x ≡ None = is in cc)
none-behind (x ∷ xs) (suc i) is = none-behind xs i is

-- where the first are answered, the others make the rest
ready-split : (r s a b : List Bool) (p q : ℕ) → AllAnswered r a p
    → ready (r ++ s) (a ++ b) (p + q) ≡ ready r a p + ready s b q
ready-split [] s [] b zero q all =
    let none : 0 + q ≡ q = omega arith in ap (ready s b) none ∙ omega arith
ready-split [] s [] b (suc p) q all = absurd all
ready-split [] s (x ∷ a) b p q all = absurd all
ready-split (true ∷ r) s [] b p q all = absurd all
ready-split (true ∷ r) s (true ∷ a) b p q all =
    let h = ready-split r s a b p q all in omega (arith, h)
ready-split (true ∷ r) s (false ∷ a) b p q all = ready-split r s a b p q all
ready-split (false ∷ r) s a b zero q all = absurd all
ready-split (false ∷ r) s a b (suc p) q all =
    let h = ready-split r s a b p q all in
    let next : suc p + q ≡ suc (p + q) = omega arith in
    ap (ready (false ∷ (r ++ s)) (a ++ b)) next ∙ omega (arith, h)

-- a step further
pub record Further (w next : Walk) (requests answers : List Bool) (port : ℕ) : Type 0 where
  pub walk : IsWalk next requests answers port
  pub within : w.requests < length requests
  pub more : next.requests ≡ w.requests + 1

some-walk : (one two : Walk) → Some one ≡ Some two → one ≡ two
some-walk one two is = cc

if-reply : (b : Bool) → cond {A = ℕ} b 1 0 ≤ 1
if-reply true = omega arith
if-reply false = omega arith

station-further : (w : Walk) (rs as' : List Bool) (port : ℕ) (with_reply : Bool)
    → IsWalk w rs as' port → slice_get rs w.requests ≡ Some true
    → slice_get as' w.answers ≡ Some with_reply
    → Further w (walked_on w 1 0 (cond with_reply 1 0)) rs as' port
station-further w rs as' port with_reply k one two =
    let r = cut rs w.requests true one in
    let a = cut as' w.answers with_reply two in
    let s = station-ready (take w.requests rs) (take w.answers as') w.port with_reply k.answered in
    let still : w.port + 0 ≡ w.port = omega arith in
    let most = if-reply with_reply in
    record {
      walk = record {
        requests_within = let x = r.within in omega (arith, x);
        answers_within = let x = a.within in omega (arith, x);
        port_within = let x = k.port_within in omega (arith, x);
        answered = subst (AllAnswered (take (w.requests + 1) rs) (take (w.answers + 1) as'))
            (sym still) (subst (λ l. AllAnswered l (take (w.answers + 1) as') w.port) (sym r.front)
            (subst (λ l. AllAnswered (take w.requests rs ++ true ∷ []) l w.port)
            (sym a.front) s.1));
        ready_is = ap (λ n. n + cond with_reply 1 0) k.ready_is
            ∙ (sym s.0 ∙ (λ i. ready (sym r.front i) (sym a.front i) (sym still i)));
        ready_within = let x = k.ready_within in omega (arith, x, most);
      };
      within = r.within;
      more = refl;
    }

port-further : (w : Walk) (rs as' : List Bool) (port : ℕ)
    → IsWalk w rs as' port → slice_get rs w.requests ≡ Some false → w.port < port
    → Further w (walked_on w 0 1 1) rs as' port
port-further w rs as' port k one below =
    let r = cut rs w.requests false one in
    let s = port-ready (take w.requests rs) (take w.answers as') w.port k.answered in
    let still : w.answers + 0 ≡ w.answers = omega arith in
    let next : w.port + 1 ≡ suc w.port = omega arith in
    record {
      walk = record {
        requests_within = let x = r.within in omega (arith, x);
        answers_within = let x = k.answers_within in omega (arith, x);
        port_within = omega (arith, below);
        answered = subst (AllAnswered (take (w.requests + 1) rs) (take (w.answers + 0) as'))
            (sym next) (subst (λ l. AllAnswered l (take (w.answers + 0) as') (suc w.port))
            (sym r.front) (subst (λ n. AllAnswered (take w.requests rs ++ false ∷ [])
            (take n as') (suc w.port)) (sym still) s.1));
        ready_is = ap (λ n. n + 1) k.ready_is
            ∙ (sym s.0 ∙ (λ i. ready (sym r.front i) (take (sym still i) as') (sym next i)));
        ready_within = let x = k.ready_within in omega (arith, x);
      };
      within = r.within;
      more = refl;
    }

pub walk-on : (w next : Walk) (rs as' : List Bool) (port : ℕ) → IsWalk w rs as' port
    → walk_step w (slice_get rs w.requests) as' port ≡ Some next → Further w next rs as' port
walk-on w next rs as' port k is = at (slice_get rs w.requests) refl is
  where
    by-port : slice_get rs w.requests ≡ Some false → (b : Bool) → nat_lt w.port port ≡ b
        → cond b (Some (walked_on w 0 1 1)) None ≡ Some next → Further w next rs as' port
    by-port one true below e = subst (λ (x : Walk). Further w x rs as' port)
        (some-walk (walked_on w 0 1 1) next e)
        (port-further w rs as' port k one (let b = below in grind arith))
    by-port one false below e = absurd (let no' : None ≡ Some next = e in cc)

    by-station : slice_get rs w.requests ≡ Some true → (o : Option Bool)
        → slice_get as' w.answers ≡ o → station_step w o ≡ Some next → Further w next rs as' port
    by-station one None two e = absurd (let no' : None ≡ Some next = e in cc)
    by-station one (Some with_reply) two e = subst (λ (x : Walk). Further w x rs as' port)
        (some-walk (walked_on w 1 0 (cond with_reply 1 0)) next e)
        (station-further w rs as' port with_reply k one two)

    at : (o : Option Bool) → slice_get rs w.requests ≡ o → walk_step w o as' port ≡ Some next
        → Further w next rs as' port
    at None one e = absurd (let no' : None ≡ Some next = e in cc)
    at (Some true) one e = by-station one (slice_get as' w.answers) refl e
    at (Some false) one e = by-port one (nat_lt w.port port) refl e

-- the end of it
pub walk-end : (w : Walk) (rs as' : List Bool) (port : ℕ) → IsWalk w rs as' port
    → walk_step w (slice_get rs w.requests) as' port ≡ None → IsWholeWalk w rs as' port
walk-end w rs as' port k is = record {
  walk = k;
  all_ready =
      let rest : w.port + (port - w.port) ≡ port = let p = k.port_within in omega (arith, p) in
      let split = ready-split (take w.requests rs) (drop w.requests rs) (take w.answers as')
      (drop w.answers as') w.port (port - w.port) k.answered in
      let whole : ready rs as' port ≡ w.ready + ready (drop w.requests rs) (drop w.answers as')
      (port - w.port)
      = (λ i. ready (sym (take-append-drop w.requests rs) i)
      (sym (take-append-drop w.answers as') i) (sym rest i))
      ∙ (split ∙ ap (λ n. n + ready (drop w.requests rs) (drop w.answers as') (port - w.port))
      (sym k.ready_is)) in
      let none = at (slice_get rs w.requests) refl is in
      omega (arith, whole, none);
}
  where
    left : ℕ
    left = ready (drop w.requests rs) (drop w.answers as') (port - w.port)

    by-port : slice_get rs w.requests ≡ Some false → (b : Bool) → nat_lt w.port port ≡ b
        → cond b (Some (walked_on w 0 1 1)) None ≡ None → left ≡ 0
    by-port one true below e = absurd (let no' : Some (walked_on w 0 1 1) ≡ None = e in cc)
    by-port one false below e =
        let over : port - w.port ≡ 0 = let b = below in grind arith in
        (λ i. ready ((cut rs w.requests false one).behind i) (drop w.answers as') (over i))

    by-station : slice_get rs w.requests ≡ Some true → (o : Option Bool)
        → slice_get as' w.answers ≡ o → station_step w o ≡ None → left ≡ 0
    by-station one None two e = (λ i. ready ((cut rs w.requests true one).behind i)
        (none-behind as' w.answers two i) (port - w.port))
    by-station one (Some with_reply) two e =
        absurd (let no' : Some (walked_on w 1 0 (cond with_reply 1 0)) ≡ None = e in cc)

    at : (o : Option Bool) → slice_get rs w.requests ≡ o → walk_step w o as' port ≡ None
        → left ≡ 0
    at None one e =
        ap (λ l. ready l (drop w.answers as') (port - w.port)) (none-behind rs w.requests one)
    at (Some true) one e = by-station one (slice_get as' w.answers) refl e
    at (Some false) one e = by-port one (nat_lt w.port port) refl e

-- the lists that it is of
pub whole-as : (w : Walk) (rs now as' told : List Bool) (port : ℕ) → rs ≡ now → as' ≡ told
    → IsWholeWalk w rs as' port → IsWholeWalk w now told port
whole-as w rs now as' told port r a k =
    subst (λ l. IsWholeWalk w l told port) r (subst (λ l. IsWholeWalk w rs l port) a k)
