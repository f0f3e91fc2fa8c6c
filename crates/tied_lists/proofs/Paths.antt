-- What the paths and boxes of a node follow: its own list.
use Rattle.std.proofs.Common.{◌≡◌, ◌≢◌, ℕ, zero, suc, ◌<◌, ◌≤◌, ◌==◌, ◌&&◌, Bool, true}
use Rattle.std.proofs.Common.{false, cond, not, List, [], ◌∷◌, ◌++◌, get_or, set, map, drop, length}
use Rattle.std.proofs.Common.{count_by, Option, Some, None, refl, sym, ap, ◌∙◌, subst}
use Rattle.std.proofs.Common.{⊎_elim, arith, get_or-set_same, get_or-set_other}
use Rattle.std.specs.List.{AllByRecursion as Each}
use Rattle.std.proofs.lemmas.Bool.{eqb-true, eq-eqb, ne_eqb, cases_eq}
use Rattle.std.proofs.lemmas.Bool.{cond-true, cond-false}
use Rattle.std.proofs.lemmas.List.{length-set}
use Rattle.ring_core.specs.declared.path.Await.{Await}
use Rattle.ring_core.specs.declared.path.Await.TheVariants.{Nothing, Out, Arrived, Failed}
use Rattle.ring_core.specs.declared.path.Path.{Path}
use Rattle.ring_core.specs.Words.{asks, is_onward, is_same_call, asks_for}
use Rattle.ring_core.specs.Machine.{NodeIs, no_path, path_of, path_places, waits_for, awaiting}
use Rattle.ring_core.specs.Machine.{aged, aged_await, gave_up}
use Rattle.ring_core.specs.Machine.{awaited_number}
use Rattle.ring_core.specs.Legal.{IsPath}
use Rattle.tied_lists.specs.Words.{CallId, FrameKind, Request, Reply, Frame, RingEntry, Post}
use Rattle.tied_lists.specs.Words.{Take, GiveUp, Pass}
use Rattle.tied_lists.specs.Waits.{waits_next, waits_after, waiting, waits_posted, waits_taken}
use Rattle.tied_lists.specs.Waits.{number_next, number_after, last_number, number_posted, IsAsk}
use Rattle.tied_lists.specs.Waits.{AwaitsThis}
use Rattle.tied_lists.proofs.Boxes.{each-push, each-drop, each-filter, one-if, none-if}
use Rattle.tied_lists.proofs.Boxes.{at-most-one, count-cons, count-push, count-drop, count-filter}
use Rattle.tied_lists.proofs.Boxes.{asks_on, replies_on, OutOn, CameOn, IsSent, HasCome, is_out}
use Rattle.tied_lists.proofs.Boxes.{has_arrived, waits-out, out-not-arrived, arrived-not-out}
use Rattle.tied_lists.proofs.Boxes.{sent-apart, come-apart, sent-rest, come-rest, none-out, none-in}
use Rattle.tied_lists.proofs.Boxes.{out-apart, each-map, count-each}

-- one more own entry
waits-push : (p : ℕ) (now : Option Frame) (b : List RingEntry) (e : RingEntry)
    → waits_after p now (b ++ e ∷ []) ≡ waits_next p (waits_after p now b) e
waits-push p now [] e = refl
waits-push p now (x ∷ b) e = waits-push p (waits_next p now x) b e

pub waiting-push : (p : ℕ) (b : List RingEntry) (e : RingEntry)
    → waiting p (b ++ e ∷ []) ≡ waits_next p (waiting p b) e
waiting-push p b e = waits-push p None b e

numbers-push : (p now : ℕ) (b : List RingEntry) (e : RingEntry)
    → number_after p now (b ++ e ∷ []) ≡ number_next p (number_after p now b) e
numbers-push p now [] e = refl
numbers-push p now (x ∷ b) e = numbers-push p (number_next p now x) b e

pub number-push : (p : ℕ) (b : List RingEntry) (e : RingEntry)
    → last_number p (b ++ e ∷ []) ≡ number_next p (last_number p b) e
number-push p b e = numbers-push p 0 b e

-- what a node's paths, boxes and tries follow, its own list being b
pub record Follows (n : ℕ) (b : List RingEntry) (ps : List Path) (out box : List Frame)
    (tries : ℕ) : Type 0 where
  pub size : length ps ≡ path_places
  pub paths : (p : ℕ) → AwaitsThis (get_or ps p no_path).awaits (waiting p b)
  pub asks : (p : ℕ) (f : Frame) → waiting p b ≡ Some f → IsAsk n p f
  pub numbers : (p : ℕ) → p < path_places → (get_or ps p no_path).posted ≡ last_number p b
  pub outs : Each (IsSent ps) out
  pub once_out : (q : ℕ) → count_by (asks_on q) out ≤ 1
  pub comes : Each (HasCome n ps) box
  pub once_in : (q : ℕ) → count_by (replies_on q) box ≤ 1
  pub tries_few : tries ≤ 2

-- a path of the paths after a write, where the others stay
paths-set : (ps : List Path) (q : ℕ) (v : Path) (w w' : ℕ → Option Frame)
    → ((p : ℕ) → AwaitsThis (get_or ps p no_path).awaits (w p))
    → q < length ps → AwaitsThis v.awaits (w' q) → ((p : ℕ) → (p ≡ q → ⊥) → w' p ≡ w p) → (p : ℕ)
    → AwaitsThis (get_or (set ps q v) p no_path).awaits (w' p)
paths-set ps q v w w' all range here others p = ⊎_elim
    (λ (e : p ≡ q).
    subst (λ (k : ℕ). AwaitsThis (get_or (set ps q v) k no_path).awaits (w' k)) (sym e)
    (subst (λ (x : Path). AwaitsThis x.awaits (w' q))
    (sym (get_or-set_same ps q v no_path range)) here))
    (λ (o : p ≡ q → ⊥). subst (λ (x : Path). AwaitsThis x.awaits (w' p))
    (sym (get_or-set_other ps q p v no_path o))
    (subst (AwaitsThis (get_or ps p no_path).awaits) (sym (others p o)) (all p)))
    (cases_eq p q)

numbers-set : (ps : List Path) (q : ℕ) (v : Path) (m m' : ℕ → ℕ)
    → ((p : ℕ) → p < 5 → (get_or ps p no_path).posted ≡ m p)
    → q < length ps → v.posted ≡ m' q → ((p : ℕ) → (p ≡ q → ⊥) → m' p ≡ m p) → (p : ℕ) → p < 5
    → (get_or (set ps q v) p no_path).posted ≡ m' p
numbers-set ps q v m m' all range here others p low = ⊎_elim
    (λ (e : p ≡ q). subst (λ (k : ℕ). (get_or (set ps q v) k no_path).posted ≡ m' k) (sym e)
    (ap (λ (x : Path). x.posted)
    (get_or-set_same ps q v no_path range) ∙ here))
    (λ (o : p ≡ q → ⊥). ap (λ (x : Path). x.posted) (get_or-set_other ps q p v no_path o)
    ∙ (all p low ∙ sym (others p o)))
    (cases_eq p q)

-- the same paths, where the own list says the same of them
pub follows-same : (n : ℕ) (b b' : List RingEntry)
    (ps : List Path) (out box : List Frame) (tries : ℕ) → ((p : ℕ) → waiting p b' ≡ waiting p b)
    → ((p : ℕ) → last_number p b' ≡ last_number p b)
    → Follows n b ps out box tries → Follows n b' ps out box tries
follows-same n b b' ps out box tries w m i = record {
  size = i.size;
  paths = λ p. subst (AwaitsThis (get_or ps p no_path).awaits) (sym (w p)) (i.paths p);
  asks = λ p f is. i.asks p f (sym (w p) ∙ is);
  numbers = λ p low. i.numbers p low ∙ sym (m p);
  outs = i.outs;
  once_out = i.once_out;
  comes = i.comes;
  once_in = i.once_in;
  tries_few = i.tries_few;
}

-- boxes that are as good
pub follows-boxes : (n : ℕ) (b : List RingEntry) (ps : List Path) (out out' box box' : List Frame)
    (tries tries' : ℕ) → Each
    (IsSent ps) out' → ((q : ℕ) → count_by (asks_on q) out' ≤ 1)
    → Each (HasCome n ps) box' → ((q : ℕ) → count_by (replies_on q) box' ≤ 1) → tries' ≤ 2
    → Follows n b ps out box tries → Follows n b ps out' box' tries'
follows-boxes n b ps out out' box box' tries tries' outs once_out comes once_in few i = record {
  size = i.size;
  paths = i.paths;
  asks = i.asks;
  numbers = i.numbers;
  outs = outs;
  once_out = once_out;
  comes = comes;
  once_in = once_in;
  tries_few = few;
}

-- a path changes, and the own list says so
pub follows-set : (n : ℕ) (b b' : List RingEntry) (ps : List Path) (q : ℕ) (v : Path)
    (out out' box box' : List Frame) (tries tries' : ℕ) → q < path_places
    → AwaitsThis v.awaits (waiting q b') → ((p : ℕ) → (p ≡ q → ⊥) → waiting p b' ≡ waiting p b)
    → ((f : Frame) → waiting q b' ≡ Some f → IsAsk n q f)
    → v.posted ≡ last_number q b' → ((p : ℕ) → (p ≡ q → ⊥) → last_number p b' ≡ last_number p b)
    → Each (IsSent (set ps q v)) out' → ((k : ℕ) → count_by (asks_on k) out' ≤ 1)
    → Each (HasCome n (set ps q v)) box' → ((k : ℕ)
    → count_by (replies_on k) box' ≤ 1) → tries' ≤ 2
    → Follows n b ps out box tries → Follows n b' (set ps q v) out' box' tries'
follows-set n b b' ps q v out out' box box' tries tries' low here others ask number numbers outs
    once_out comes once_in few i =
    let range : q < length ps = let s = i.size in omega (arith, s, low) in
    record {
      size = length-set _ _ _ ∙ i.size;
      paths = paths-set ps q v (λ p. waiting p b) (λ p. waiting p b') i.paths range here others;
      asks = λ p f is. ⊎_elim (λ (e : p ≡ q). subst (λ (k : ℕ). IsAsk n k f) (sym e)
          (ask f (ap (λ (k : ℕ). waiting k b') (sym e) ∙ is)))
          (λ (o : p ≡ q → ⊥). i.asks p f (sym (others p o) ∙ is)) (cases_eq p q);
      numbers = numbers-set ps q v (λ p. last_number p b) (λ p. last_number p b') i.numbers range
          number numbers;
      outs = outs;
      once_out = once_out;
      comes = comes;
      once_in = once_in;
      tries_few = few;
    }

-- Post of a Request
posted-here : (p : ℕ) (now : Option Frame) (f : Frame) → f.id.path ≡ p
    → (cond (f.id.path == p) (Some f) now) ≡ Some f
posted-here p now f e = cond-true (f.id.path == p) _ _ (eq-eqb f.id.path p e)

some-same : (f g : Frame) → Some f ≡ Some g → f ≡ g
some-same f g e = cc

pub post-request : (n : ℕ) (b : List RingEntry) (ps : List Path) (out box : List Frame) (tries : ℕ)
    (f : Frame) → f.kind ≡ Request
    → f.id.node ≡ n → f.to ≢ n → IsPath f.id.path
    → (get_or ps f.id.path no_path).awaits ≡ Nothing
    → (get_or ps f.id.path no_path).posted < f.id.seq → Follows n b ps out box tries
    → Follows n (b ++ Post n f ∷ []) (set ps f.id.path
    (record { awaits = Out f.id.seq f.to (is_onward f) 0; posted = f.id.seq }))
    (out ++ f ∷ []) box tries
post-request n b ps out box tries f kind own to path free above i =
    let q = f.id.path in
    let v : Path = record { awaits = Out f.id.seq f.to (is_onward f) 0; posted = f.id.seq } in
    let e = Post n f in
    let low : q < path_places = let k = path.1 in omega (arith, k) in
    let range : q < length ps = let s = i.size in omega (arith, s, low) in
    let w : (p : ℕ) → waiting p (b ++ e ∷ []) ≡ cond (q == p) (Some f) (waiting p b) =
    λ p. waiting-push p b e ∙ ap (λ (k : FrameKind). waits_posted p (waiting p b) k f) kind in
    let m : (p : ℕ) → last_number p (b ++ e ∷ []) ≡ cond (q == p) f.id.seq (last_number p b) =
    λ p. number-push p b e ∙ ap (λ (k : FrameKind). number_posted p (last_number p b) k f) kind in
    let here : waiting q (b ++ e ∷ []) ≡ Some f = w q ∙ posted-here q (waiting q b) f refl in
    let not_out : is_out (get_or ps q no_path).awaits ≡ false = ap is_out free in
    let not_in : has_arrived (get_or ps q no_path).awaits ≡ false = ap has_arrived free in
    let new : Path = v in
    let out_now : waits_for (get_or (set ps q v) q no_path).awaits f.id.seq ≡ true =
    ap (λ (x : Path). waits_for x.awaits
    f.id.seq) (get_or-set_same ps q v no_path range) ∙ eq-eqb f.id.seq f.id.seq refl in
    follows-set n b (b ++ e ∷ []) ps q v out (out ++ f ∷ []) box box tries tries low
    (subst (AwaitsThis v.awaits) (sym here) refl)
    (λ p o. w p ∙ cond-false (q == p) _ _ (ne_eqb q p (λ x. o (sym x))))
    (λ g is. subst (IsAsk n q) (some-same f g (sym here ∙ is)) (record {
      kind = kind;
      node = own;
      path = refl;
      is_path = path;
      number = omega (arith, above);
      to = to;
    }))
    (sym (m q ∙ cond-true (q == q) _ _ (eq-eqb q q refl)))
    (λ p o. m p ∙ cond-false (q == p) _ _ (ne_eqb q p (λ x. o (sym x))))
    (each-push _ out f (sent-apart ps q v out not_out i.outs)
    (subst (λ (k : FrameKind). OutOn (set ps q v) k f.id) (sym kind) out_now))
    (λ k. let c = count-push (asks_on k) out f in ⊎_elim
    (λ (x : q ≡ k). let z = none-out ps q out not_out i.outs in
    let z' : count_by (asks_on k) out ≡ 0 = subst (λ (y : ℕ). count_by (asks_on y) out ≡ 0) x z in
    let o = at-most-one (asks_on k f) in omega (arith, c, z', o))
    (λ (x : q ≡ k → ⊥). let z : asks_on k f ≡ false = ap (λ (y : FrameKind). asks y && q == k) kind
    ∙ ne_eqb q k x in let o =
    none-if (asks_on k f) z in let l = i.once_out k in omega (arith, c, o, l))
    (cases_eq q k))
    (come-apart n ps q v box not_in i.comes) i.once_in i.tries_few i

-- Post of a Reply
pub post-reply : (n : ℕ) (b : List RingEntry) (ps : List Path) (out box : List Frame) (tries : ℕ)
    (f : Frame) → f.kind ≡ Reply → Follows n b ps out box tries
    → Follows n (b ++ Post n f ∷ []) ps (out ++ f ∷ []) box tries
post-reply n b ps out box tries f kind i =
    let e = Post n f in
    follows-boxes n _ ps out (out ++ f ∷ []) box box tries tries
    (each-push _ out f i.outs (subst (λ (k : FrameKind). OutOn ps k f.id) (sym kind) tt))
    (λ k. let c = count-push (asks_on k) out f in let z : asks_on k f ≡ false =
    ap (λ (y : FrameKind). asks y && f.id.path == k)
    kind in let o = none-if (asks_on k f) z in let l = i.once_out k in omega (arith, c, o, l))
    i.comes i.once_in i.tries_few
    (follows-same n b (b ++ e ∷ []) ps out box tries
    (λ p. waiting-push p b e ∙ ap (λ (k : FrameKind). waits_posted p (waiting p b) k f) kind)
    (λ p. number-push p b e ∙ ap (λ (k : FrameKind). number_posted p (last_number p b) k f) kind) i)

-- an own entry that changes no path of the list
pub quiet-own : (n : ℕ) (b : List RingEntry) (ps : List Path) (out box : List Frame) (tries : ℕ)
    (e : RingEntry) → ((p : ℕ) (now : Option Frame) → waits_next p now e ≡ now)
    → ((p now : ℕ) → number_next p now e ≡ now)
    → Follows n b ps out box tries → Follows n (b ++ e ∷ []) ps out box tries
quiet-own n b ps out box tries e w m i =
    follows-same n b (b ++ e ∷ []) ps out box tries (λ p. waiting-push p b e ∙ w p (waiting p
    b)) (λ p. number-push p b e ∙ m p (last_number p b)) i

-- Take
pub take-request : (n : ℕ) (b : List RingEntry) (ps : List Path) (out box : List Frame) (tries : ℕ)
    (f : Frame) → f.kind ≡ Request
    → Follows n b ps out box tries
    → Follows n (b ++ Take n f ∷ []) ps out (drop 1 box) tries
take-request n b ps out box tries f kind i =
    follows-boxes n _ ps out out box (drop 1 box) tries tries i.outs i.once_out
    (each-drop _ box i.comes) (λ k. let c = count-drop
    (replies_on k) box in let l = i.once_in k in omega (arith, c, l)) i.tries_few
    (quiet-own n b ps out box tries (Take n f)
    (λ p now. ap (λ (k : FrameKind). waits_taken p now k f) kind) (λ p now. refl) i)

pub take-reply : (n : ℕ) (b : List RingEntry) (ps : List Path) (out : List Frame) (f : Frame)
    (fs : List Frame) (tries : ℕ) (c : NodeIs) → c.paths ≡ ps → f.kind ≡ Reply
    → f.id.path < path_places → Follows n b ps out (f ∷ fs) tries
    → Follows n (b ++ Take n f ∷ []) (awaiting c f.id.path Nothing) out fs tries
take-reply n b ps out f fs tries c same kind low i =
    let q = f.id.path in
    let v : Path = record { awaits = Nothing; posted = (get_or ps q no_path).posted } in
    let e = Take n f in
    let w : (p : ℕ) → waiting p (b ++ e ∷ []) ≡ cond (q == p) None (waiting p b) =
    λ p. waiting-push p b e ∙ ap (λ (k : FrameKind). waits_taken p (waiting p b) k f) kind in
    let here : waiting q (b ++ e ∷ []) ≡ None = w q ∙ cond-true (q == q) _ _ (eq-eqb q q refl) in
    let came : CameOn n ps Reply f.id =
    subst (λ (k : FrameKind). CameOn n ps k f.id) kind i.comes.0 in
    let not_out : is_out (get_or ps q no_path).awaits ≡ false =
    arrived-not-out _ (ap has_arrived came.0) in
    let one : count_by (replies_on q) fs ≡ 0 =
    let k = count-cons (replies_on q) f fs in let l = i.once_in q in
    let o = one-if (replies_on q f) (ap (λ (y : FrameKind). not (asks y) && q == q) kind
    ∙ eq-eqb q q refl) in omega (arith, k, l, o) in
    subst (λ (xs : List Path). Follows n (b ++ e ∷ []) (set xs q
    (record { awaits = Nothing; posted = (get_or xs q no_path).posted })) out fs tries) (sym same)
    (follows-set n b (b ++ e ∷ []) ps q v out out (f ∷ fs) fs tries tries low
    (subst (AwaitsThis Nothing) (sym here) tt)
    (λ p o. w p ∙ cond-false (q == p) _ _ (ne_eqb q p (λ x. o (sym x))))
    (λ g is. absurd (let no' : None ≡ Some g = sym here ∙ is in cc))
    (i.numbers q low ∙ sym (number-push q b e))
    (λ p o. number-push p b e)
    (sent-apart ps q v out not_out i.outs) i.once_out (come-rest n ps q v fs one i.comes.1)
    (λ k. let c = count-cons (replies_on k) f fs in let l = i.once_in k in omega (arith, c, l))
    i.tries_few i)

-- GiveUp
others-kept : (n q seq : ℕ) (ps : List Path) (v : Path) (kind : FrameKind) (g : CallId)
    (id : CallId) → id.node ≡ n → id.path ≡ q
    → awaited_number (get_or ps q no_path).awaits ≡ id.seq
    → (kind ≡ Request → g.node ≡ n) → not (asks kind && is_same_call g id) ≡ true → OutOn ps kind g
    → OutOn (set ps q v) kind g
others-kept n q seq ps v Reply g id own path number mine other o = tt
others-kept n q seq ps v Request g id own path number mine other o = out-apart ps q v Request g
    (λ _ same.
    let out : waits_for (get_or ps q no_path).awaits g.seq ≡ true =
    subst (λ (k : ℕ). waits_for (get_or ps k no_path).awaits g.seq ≡ true) same o in
    let seq_is : awaited_number (get_or ps q no_path).awaits ≡ g.seq =
    out-number (get_or ps q no_path).awaits g.seq out in
    let same_call : is_same_call g id ≡ true = three g.node id.node g.path id.path g.seq id.seq
    (mine refl ∙ sym own) (same ∙ sym path) (sym seq_is ∙ number) in
    let no' : not (is_same_call g id) ≡ false = ap not same_call in
    let yes' : not (is_same_call g id) ≡ true = other in cc) o
  where
    out-number : (a : Await) (s : ℕ) → waits_for a s ≡ true → awaited_number a ≡ s
    out-number Nothing s w = absurd (let no' : false ≡ true = w in cc)
    out-number (Out out to onward passes) s w = eqb-true out s w
    out-number (Arrived out) s w = absurd (let no' : false ≡ true = w in cc)
    out-number (Failed out word) s w = absurd (let no' : false ≡ true = w in cc)

    three : (a a' b b' c c' : ℕ) → a ≡ a' → b ≡ b' → c ≡ c'
        → ((a == a') && ((b == b') && (c == c'))) ≡ true
    three a a' b b' c c' x y z = λ i. eq-eqb a a' x i && (eq-eqb b b' y i && eq-eqb c c' z i)

pub few-tries : (b : Bool) (tries : ℕ) → tries ≤ 2 → cond b 0 tries ≤ 2
few-tries true tries low = omega arith
few-tries false tries low = low

pub give-up : (n : ℕ) (b : List RingEntry) (c : NodeIs) (box' : List Frame) (id : CallId) (word : ℕ)
    → id.node ≡ n → IsPath
    id.path → awaited_number (path_of c id.path).awaits ≡ id.seq
    → Each (λ (g : Frame). g.kind ≡ Request → g.id.node ≡ n) c.outbox
    → Each (HasCome n (awaiting c id.path Nothing)) box'
    → ((q : ℕ) → count_by (replies_on q) box' ≤ 1)
    → Follows n b c.paths c.outbox c.inbox c.tries
    → Follows n (b ++ GiveUp id word ∷ []) (awaiting c id.path Nothing) (gave_up c id).outbox box'
    (gave_up c id).tries
give-up n b c box' id word own path number mine comes once_in i =
    let q = id.path in
    let ps = c.paths in
    let v : Path = record { awaits = Nothing; posted = (get_or ps q no_path).posted } in
    let e = GiveUp id word in
    let low : q < path_places = let k = path.1 in omega (arith, k) in
    let w : (p : ℕ) → waiting p (b ++ e ∷ []) ≡ cond (q == p) None (waiting p b) =
    λ p. waiting-push p b e in
    let here : waiting q (b ++ e ∷ []) ≡ None = w q ∙ cond-true (q == q) _ _ (eq-eqb q q refl) in
    follows-set n b (b ++ e ∷ []) ps q v c.outbox _ c.inbox box' c.tries _ low
    (subst (AwaitsThis Nothing) (sym here) tt)
    (λ p o. w p ∙ cond-false (q == p) _ _ (ne_eqb q p (λ x. o (sym x))))
    (λ g is. absurd (let no' : None ≡ Some g = sym here ∙ is in cc))
    (i.numbers q low ∙ sym (number-push q b e))
    (λ p o. number-push p b e)
    (each-filter (λ g. IsSent ps g × (g.kind ≡ Request → g.id.node ≡ n)) (IsSent (set ps q v))
    (λ g. not (asks_for id g)) c.outbox
    (λ g other o. others-kept n q id.seq ps v g.kind g.id id own refl number o.1 other o.0)
    (each-both (IsSent ps) (λ (g : Frame).
    g.kind ≡ Request → g.id.node ≡ n) c.outbox i.outs mine))
    (λ k. let a = count-filter (asks_on k) (λ g. not (asks_for id g)) c.outbox in
    let l = i.once_out k in omega (arith, a, l))
    comes once_in (few-tries _ c.tries i.tries_few) i
  where
    each-both : {X : Type 0} (P Q : X → Type 0) (xs : List X) → Each P xs → Each Q xs
        → Each (λ x. P x × Q x) xs
    each-both P Q [] a b = tt
    each-both P Q (x ∷ xs) a b = ((a.0, b.0), each-both P Q xs a.1 b.1)

-- the first frame of the outbox has failed
pub fail-request : (n : ℕ) (b : List RingEntry) (c : NodeIs) (f : Frame) (fs box : List Frame)
    (tries tries' : ℕ) (word : ℕ) → f.kind ≡ Request → f.id.path < path_places → tries' ≤ 2
    → Follows n b c.paths (f ∷ fs) box tries
    → Follows n b (awaiting c f.id.path (Failed f.id.seq word)) fs box tries'
fail-request n b c f fs box tries tries' word kind low few i =
    let q = f.id.path in
    let ps = c.paths in
    let v : Path =
    record { awaits = Failed f.id.seq word; posted = (get_or ps q no_path).posted } in
    let out : waits_for (get_or ps q no_path).awaits f.id.seq ≡ true =
    subst (λ (k : FrameKind). OutOn ps k f.id) kind i.outs.0 in
    let not_in : has_arrived (get_or ps q no_path).awaits ≡ false =
    out-not-arrived _ (waits-out _ f.id.seq out) in
    let one : count_by (asks_on q) fs ≡ 0 =
    let k = count-cons (asks_on q) f fs in let l = i.once_out q in
    let o = one-if (asks_on q f)
    (ap (λ (y : FrameKind). asks y && q == q) kind ∙ eq-eqb q q refl) in omega (arith, k, l, o) in
    follows-set n b b ps q v (f ∷ fs) fs box box tries tries' low
    (failed-awaits (get_or ps q no_path).awaits f.id.seq (waiting q b) out (i.paths q))
    (λ p o. refl) (λ g is. i.asks q g is) (i.numbers q low) (λ p o. refl)
    (sent-rest ps q v fs one i.outs.1)
    (λ k. let d = count-cons (asks_on k) f fs in let l = i.once_out k in omega (arith, d, l))
    (come-apart n ps q v box not_in i.comes) i.once_in few i
  where
    failed-awaits : (a : Await) (s : ℕ) (w : Option Frame) → waits_for a s ≡ true → AwaitsThis a w
        → AwaitsThis (Failed s word) w
    failed-awaits Nothing s w o k = absurd (let no' : false ≡ true = o in cc)
    failed-awaits (Out out to onward passes) s None o k = absurd k
    failed-awaits (Out out to onward passes) s (Some g) o k = sym (eqb-true out s o) ∙ k
    failed-awaits (Arrived out) s w o k = absurd (let no' : false ≡ true = o in cc)
    failed-awaits (Failed out x) s w o k = absurd (let no' : false ≡ true = o in cc)

pub drop-first : (n : ℕ) (b : List RingEntry) (ps : List Path) (f : Frame) (fs box : List Frame)
    (tries tries' : ℕ) → tries' ≤ 2 → Follows n b ps (f ∷ fs) box tries
    → Follows n b ps fs box tries'
drop-first n b ps f fs box tries tries' few i =
    follows-boxes n b ps (f ∷ fs) fs box box tries tries' i.outs.1
    (λ k. let c = count-cons (asks_on k) f fs in let l = i.once_out
    k in omega (arith, c, l)) i.comes i.once_in few i

-- a frame comes in
pub come-request : (n : ℕ) (b : List RingEntry) (ps : List Path) (out box : List Frame) (tries : ℕ)
    (f : Frame) → f.kind ≡ Request
    → f.id.node ≢ n → Follows n b ps out box tries → Follows n b ps out (box ++ f ∷ []) tries
come-request n b ps out box tries f kind other i =
    follows-boxes n b ps out out box (box ++ f ∷ []) tries tries i.outs i.once_out
    (each-push _ box f i.comes (subst (λ (k : FrameKind). CameOn n ps k f.id) (sym kind) other))
    (λ k. let c = count-push (replies_on k) box f in let z : replies_on k f ≡ false =
    ap (λ (y : FrameKind). not (asks y) &&
    f.id.path == k) kind
    in let o = none-if (replies_on k f) z in let l = i.once_in k in omega (arith, c, o, l))
    i.tries_few i

-- no Request
abbrev pub NotAsked : Frame → Type 0
NotAsked f = asks f.kind ≡ false

none-asked : (q : ℕ) (out : List Frame) → Each NotAsked out → count_by (asks_on q) out ≡ 0
none-asked q out none = count-each (asks_on q) out
    (each-map NotAsked (λ f. asks_on q f ≡ false) out
    (λ f (no' : asks f.kind ≡ false). ap (λ (b : Bool). b && f.id.path == q) no') none)

pub come-reply : (n : ℕ) (b : List RingEntry) (c : NodeIs) (sent box : List Frame) (tries : ℕ)
    (f : Frame) → f.kind ≡ Reply → f.id.node
    ≡ n → f.id.path < path_places → waits_for (path_of c f.id.path).awaits f.id.seq ≡ true
    → Each NotAsked sent → Follows n b c.paths sent box tries
    → Follows n b (awaiting c f.id.path (Arrived f.id.seq)) sent (box ++ f ∷ []) tries
come-reply n b c sent box tries f kind own low out none i =
    let q = f.id.path in
    let ps = c.paths in
    let v : Path = record { awaits = Arrived f.id.seq; posted = (get_or ps q no_path).posted } in
    let range : q < length ps = let s = i.size in omega (arith, s, low) in
    let not_in : has_arrived (get_or ps q no_path).awaits ≡ false =
    out-not-arrived _ (waits-out _ f.id.seq out) in
    let now : (get_or (set ps q v) q no_path).awaits ≡ Arrived f.id.seq =
    ap (λ (x : Path). x.awaits) (get_or-set_same ps q v no_path range) in
    follows-set n b b ps q v sent sent box (box ++ f ∷ []) tries tries low
    (arrived-awaits (get_or ps q no_path).awaits f.id.seq (waiting q b) out (i.paths q))
    (λ p o. refl) (λ g is. i.asks q g is) (i.numbers q low) (λ p o. refl)
    (sent-rest ps q v sent (none-asked q sent none) i.outs) i.once_out
    (each-push _ box f (come-apart n ps q v box not_in i.comes)
    (subst (λ (k : FrameKind). CameOn n (set ps q v) k f.id) (sym kind) (now, own)))
    (λ k. let d = count-push (replies_on k) box f in ⊎_elim
    (λ (x : q ≡ k). let z = none-in n ps q box not_in i.comes in
    let z' : count_by (replies_on k) box ≡ 0 = subst (λ (y : ℕ).
    count_by (replies_on y) box ≡ 0) x z in
    let o = at-most-one (replies_on k f) in omega (arith, d, z', o))
    (λ (x : q ≡ k → ⊥). let z : replies_on k f ≡ false =
    ap (λ (y : FrameKind). not (asks y) && q == k) kind ∙ ne_eqb q k x in let
    o = none-if (replies_on k f) z in let l = i.once_in k in omega (arith, d, o, l))
    (cases_eq q k))
    i.tries_few i
  where
    arrived-awaits : (a : Await) (s : ℕ) (w : Option Frame) → waits_for a s ≡ true → AwaitsThis a w
        → AwaitsThis (Arrived s) w
    arrived-awaits Nothing s w o k = absurd (let no' : false ≡ true = o in cc)
    arrived-awaits (Out o' to onward passes) s None o k = absurd k
    arrived-awaits (Out o' to onward passes) s (Some g) o k = sym (eqb-true o' s o) ∙ k
    arrived-awaits (Arrived o') s w o k = absurd (let no' : false ≡ true = o in cc)
    arrived-awaits (Failed o' x) s w o k = absurd (let no' : false ≡ true = o in cc)

-- Pass
aged-at : (ps : List Path) (p : ℕ) → get_or (map aged ps) p no_path ≡ aged (get_or ps p no_path)
aged-at [] p = refl
aged-at (x ∷ xs) zero = refl
aged-at (x ∷ xs) (suc p) = aged-at xs p

length-aged : (ps : List Path) → length (map aged ps) ≡ length ps
length-aged [] = refl
length-aged (x ∷ xs) = ap suc (length-aged xs)

aged-awaits : (a : Await) (w : Option Frame) → AwaitsThis a w → AwaitsThis (aged_await a) w
aged-awaits Nothing None k = tt
aged-awaits Nothing (Some f) k = absurd k
aged-awaits (Out s to onward passes) None k = absurd k
aged-awaits (Out s to onward passes) (Some f) k = k
aged-awaits (Arrived s) None k = absurd k
aged-awaits (Arrived s) (Some f) k = k
aged-awaits (Failed s word) None k = absurd k
aged-awaits (Failed s word) (Some f) k = k

pub pass-on : (n : ℕ) (b : List RingEntry) (ps : List Path) (tries : ℕ) (done : Bool)
    (words : List ℕ) → Follows n b ps [] []
    tries → Follows n (b ++ Pass n done words ∷ []) (map aged ps) [] [] tries
pass-on n b ps tries done words i' =
    let i = quiet-own n b ps [] [] tries (Pass n done words) (λ p now. refl) (λ p now. refl) i' in
    record {
      size = length-aged ps ∙ i.size;
      paths = λ p. subst (λ (x : Path). AwaitsThis x.awaits (waiting p
          (b ++ Pass n done words ∷ []))) (sym (aged-at ps p)) (aged-awaits _ _ (i.paths p));
      asks = i.asks;
      numbers = λ p low. ap (λ (x : Path). x.posted) (aged-at ps p) ∙ i.numbers p low;
      outs = tt;
      once_out = i.once_out;
      comes = tt;
      once_in = i.once_in;
      tries_few = i.tries_few;
    }

-- an empty inbox
pub empty-box : (n : ℕ) (b : List RingEntry) (ps : List Path) (out box : List Frame) (tries : ℕ)
    → Follows n b ps out box tries → Follows n b ps out [] tries
empty-box n b ps out box tries i = follows-boxes n b ps out out box [] tries tries i.outs i.once_out
    tt (λ k. omega arith) i.tries_few i
