-- What holds of a node's part through entries of a sort.
use Rattle.std.proofs.Common.{◌≡◌, ℕ, zero, suc, ◌+◌, ◌<◌, Bool, true, false, cond, List, [], ◌∷◌}
use Rattle.std.proofs.Common.{◌++◌, get_or, set, filter, map}
use Rattle.std.proofs.Common.{refl, sym, ap, ◌∙◌, subst, ⊎_elim, arith, append-nil, append_assoc}
use Rattle.std.proofs.Common.{eq-eqb, get_or-set_other}
use Rattle.std.specs.List.{AllByRecursion as Each}
use Rattle.std.proofs.lemmas.Bool.{cases_Bool, cases_eq, cond_both, eqb-true}
use Rattle.plant_types.specs.declared.net.NetPlan.{NetPlan}
use Rattle.mstr_block.specs.declared.call.CallId.{CallId}
use Rattle.ring_core.specs.declared.frame.FrameKind.{FrameKind}
use Rattle.ring_core.specs.declared.frame.FrameKind.TheVariants.{Request, Reply}
use Rattle.ring_core.specs.declared.frame.Frame.{Frame}
use Rattle.ring_core.specs.declared.path.Await.{Await}
use Rattle.ring_core.specs.declared.path.Await.TheVariants.{Nothing, Out, Arrived, Failed}
use Rattle.ring_core.specs.declared.path.Path.{Path}
use Rattle.ring_core.specs.declared.entry.RingEntry.{RingEntry}
use Rattle.ring_core.specs.declared.entry.RingEntry.TheVariants.{Post, Send, Take, Local, GiveUp}
use Rattle.ring_core.specs.declared.entry.RingEntry.TheVariants.{Pass, Leave, Join}
use Rattle.ring_core.specs.declared.entry.LeaveCause.{LeaveCause}
use Rattle.ring_core.specs.declared.entry.LeaveCause.TheVariants.{Ended, Spent, Down}
use Rattle.ring_core.specs.Words.{maker, asks_for, is_onward}
use Rattle.ring_core.specs.Machine.{NodeIs, RingIs, addresses, fresh, no_path, part_of, path_of}
use Rattle.ring_core.specs.Machine.{took, gave_up, after, aged, aged_await, admitted, is_held}
use Rattle.ring_core.specs.Machine.{gone_by}
use Rattle.ring_core.proofs.Stability.{admitted-part}
use Rattle.ring_core.specs.Machine.{asked, ring_after, ring_node, with_frame, fell, is_repeat}
use Rattle.ring_core.specs.Machine.{is_full, waits_for, fate_at, arrival, arrived, sent_head}
use Rattle.ring_core.specs.Machine.{passes_of}
use Rattle.ring_core.specs.declared.refusal.RingNo.{RingNo}
use Rattle.ring_core.specs.Refusals.{or_no, taken_no, path_no, free_no}
use Rattle.std.proofs.lemmas.List.Elements.{All-contains}
use Rattle.std.proofs.Common.{not, length, Option, Some, None}
use Rattle.ring_core.specs.Legal.{IsLegalRing, IsRingStep, IsFrom}
use Rattle.tied_lists.specs.Own.{is_of, own, Adds}
use Rattle.tied_lists.specs.Waits.{IsOnRing, IsFree}
use Rattle.tied_lists.proofs.Boxes.{each-push}
use Rattle.tied_lists.proofs.Histories.{own-mine, legal-follows, at-same, arrived-part}
use Rattle.tied_lists.proofs.Turns.{found-at, legal-parts, next-ring, Moved, after-post, after-take}
use Rattle.tied_lists.proofs.Turns.{after-local}
use Rattle.comm_port.specs.Giving.{part_at, is_chosen, AsksAreOn, HasFailed, NoneFailed}
use Rattle.comm_port.specs.Giving.{each_path, IsAtRest}
use Rattle.comm_port.specs.Order.{IsServing, IsCalling}
use Rattle.comm_port.proofs.RingTurns.{NotPost, on-push, on-quiet}

-- a path of the paths after a write
pub paths-put : (P : Await → Type 0) (ps : List Path) (p q : ℕ) (v : Path) → P v.awaits
    → P (get_or ps q no_path).awaits → P (get_or (set ps p v) q no_path).awaits
paths-put P [] p q v new old = old
paths-put P (x ∷ ps) zero zero v new old = new
paths-put P (x ∷ ps) zero (suc q) v new old = old
paths-put P (x ∷ ps) (suc p) zero v new old = old
paths-put P (x ∷ ps) (suc p) (suc q) v new old = paths-put P ps p q v new old

abbrev pub NotFailed : Await → Type 0
NotFailed a = HasFailed a → ⊥

pub not-failed-put : (ps : List Path) (p q : ℕ) (v : Path) → NotFailed v.awaits
    → NotFailed (get_or ps q no_path).awaits → NotFailed (get_or (set ps p v) q no_path).awaits
not-failed-put ps p q v new old = paths-put NotFailed ps p q v new old

pub nothing-not-failed : NotFailed Nothing
nothing-not-failed f = f

pub out-not-failed : (s to : ℕ) (onward : Bool) (k : ℕ) → NotFailed (Out s to onward k)
out-not-failed s to onward k f = f

pub arrived-not-failed : (s : ℕ) → NotFailed (Arrived s)
arrived-not-failed s f = f

-- a node's own entry, whatever is known before it
pub own-moves : (net : NetPlan) (n : ℕ) (past : List RingEntry) (e : RingEntry) → maker e ≡ n
    → IsOnRing net past n → IsFree net past n → IsRingStep
    net past e → Moved net n past e (past ++ e ∷ [])
own-moves net n past e mine on free step = record {
  past = past;
  found = record { free = free; holds = λ h. h; part_is = refl; own_is = refl };
  on = on;
  step = step;
  ring_is = next-ring net past e;
  own_is = own-mine n past e mine;
}

abbrev pub Keeps : NetPlan → ℕ → (RingEntry → Type 0) → (NodeIs → Type 0) → Type 0
Keeps net n Sort Q = (past after' : List RingEntry) (e : RingEntry) → maker e ≡ n
    → Moved net n past e after' → Sort e → Q (part_at net n past)
    → IsFree net after' n × Q (part_at net n after')

run-through : (net : NetPlan) (n : ℕ) (Sort : RingEntry → Type 0) (Q : NodeIs → Type 0)
    → Keeps net n Sort Q → (past more : List RingEntry)
    → IsOnRing net past n → IsLegalRing net (past ++ more) → Each Sort (own n more)
    → IsFree net past n
    → Q (part_at net n past) → Q (part_at net n (past ++ more))
run-through net n Sort Q keeps past [] on legal sorts free it = subst
    (λ (l : List RingEntry). Q (part_at net n l)) (sym (append-nil past)) it
run-through net n Sort Q keeps past (e ∷ es) on legal sorts free it =
    let join = append_assoc past (e ∷ []) es in
    let run = (legal-parts net past (e ∷ es) legal).1 in
    let legal' : IsLegalRing net ((past ++ e ∷ []) ++ es) = subst (IsLegalRing net)
    (sym join) legal in
    let near = (legal-parts net (past ++ e ∷ []) es legal').0 in
    let on' : IsOnRing net (past ++ e ∷ []) n = on-push net n past e on near free in
    subst (λ (l : List RingEntry). Q (part_at net n l)) join
    (⊎_elim
    (λ (mine : is_of n e ≡ true).
    let sorts' : Each Sort (e ∷ own n es) = subst
    (λ (b : Bool). Each Sort (cond b (e ∷ own n es) (own n es))) mine sorts in
    let k = keeps past (past ++ e ∷ []) e (eqb-true (maker e) n mine) (own-moves net n past e
    (eqb-true (maker e) n mine) on free run.0) sorts'.0 it in
    run-through net n Sort Q keeps (past ++ e ∷ []) es on' legal' sorts'.1 k.0 k.1)
    (λ (other : is_of n e ≡ false).
    let sorts' : Each Sort (own n es) = subst
    (λ (b : Bool). Each Sort (cond b (e ∷ own n es) (own n es))) other sorts in
    let none : own n (e ∷ []) ≡ [] = ap (λ (b : Bool). cond b (e ∷ []) []) other in
    let f = found-at net n past (e ∷ []) near none free in
    run-through net n Sort Q keeps (past ++ e ∷ []) es on' legal' sorts' f.free
    (subst Q (sym f.part_is) it))
    (cases_Bool (is_of n e)))

pub through : (alone : Bool) (net : NetPlan) (n : ℕ) (Sort : RingEntry → Type 0)
    (Q : NodeIs → Type 0) (ring ring' : List RingEntry) → Keeps net n Sort Q
    → IsOnRing net ring n → IsLegalRing net ring' → IsFree net ring n
    → Adds alone (is_of n) Sort ring ring' → Q (part_at net n ring) → Q (part_at net n ring')
through alone net n Sort Q ring ring' keeps on legal free adds it =
    let g = adds.grew in
    subst (λ (l : List RingEntry). Q (part_at net n l)) (sym g.after_is)
    (run-through net n Sort Q keeps ring g.more on (subst (IsLegalRing net) g.after_is legal)
    (subst (Each Sort) (sym g.ours_are) adds.sort) free it)

-- ---- serving leaves no Request in the outbox and no path failed

abbrev pub NoAsks : NodeIs → Type 0
NoAsks c = NoneFailed each_path c × Each (λ (f : Frame). f.kind ≡ Reply) c.outbox

take-none : (c : NodeIs) (kind : FrameKind) (id : CallId) → NoAsks c → NoAsks (took c kind id)
take-none c Request id q = q
take-none c Reply id q = (
  λ p on. not-failed-put c.paths id.path p
      (record { awaits = Nothing; posted = (path_of c id.path).posted }) nothing-not-failed
      (q.0 p on),
  q.1,
)

post-none : (c : NodeIs) (f : Frame) (kind : FrameKind) → f.kind ≡ kind → kind ≡ Reply → NoAsks c
    → NoneFailed each_path
    (record c { paths = asked c kind f; outbox = c.outbox ++ f ∷ [] })
    × Each (λ (f : Frame). f.kind ≡ Reply) (c.outbox ++ f ∷ [])
post-none c f Request is reply q = absurd (let bad : Request ≡ Reply = reply in cc)
post-none c f Reply is reply q = (q.0, each-push (λ (g : Frame). g.kind ≡ Reply) c.outbox f q.1 is)

pub serving-keeps : (net : NetPlan) (n : ℕ) → Keeps net n (IsServing n) NoAsks
serving-keeps net n past after' (Take m f) mine move sort q =
    let w = after-take net n past f after'
    (subst (λ (k : ℕ). Moved net n past (Take k f) after') mine move) in
    (w.free, subst NoAsks (sym w.part_is) (take-none (part_at net n past) f.kind f.id q))
serving-keeps net n past after' (Local m id op result) mine move sort q =
    let w = after-local net n past id op result after'
    (subst (λ (k : ℕ). Moved net n past (Local k id op result) after') mine move) in
    (w.free, subst NoAsks (sym w.part_is) q)
serving-keeps net n past after' (Post m f) mine move sort q =
    let w = after-post net n past f after'
    (subst (λ (k : ℕ). Moved net n past (Post k f) after') mine move) in
    (w.free, subst NoAsks (sym w.part_is) (post-none (part_at net n past) f f.kind refl sort q))
serving-keeps net n past after' (Send m heard) mine move sort q = absurd sort
serving-keeps net n past after' (GiveUp id word) mine move sort q = absurd sort
serving-keeps net n past after' (Pass m done words) mine move sort q = absurd sort
serving-keeps net n past after' (Leave m cause) mine move sort q = absurd sort
serving-keeps net n past after' (Join m) mine move sort q = absurd sort

-- ---- calling posts Requests on free paths alone

-- these paths alone may be asked on; each of the others awaits something
pub record Asks (chosen : List Bool) (answer : ℕ) (c : NodeIs) : Type 0 where
  pub none_failed : NoneFailed each_path c
  pub young : (path : ℕ) → is_chosen chosen path ≡ true → passes_of (path_of c path).awaits < answer
  pub asks : AsksAreOn chosen c.outbox
  pub taken : (path : ℕ) → path < 5 → is_chosen chosen path ≡ false
      → (path_of c path).awaits ≡ Nothing → ⊥

taken-free : (a : Await) → taken_no a ≡ None → a ≡ Nothing
taken-free Nothing e = refl
taken-free (Out seq to onward passes) e = absurd (cc)
taken-free (Arrived seq) e = absurd (cc)
taken-free (Failed seq word) e = absurd (cc)

after-none : (a b : Option RingNo) → or_no a b ≡ None → b ≡ None
after-none None b e = e
after-none (Some x) b e = absurd (cc)

young-put : (answer : ℕ) (ps : List Path) (p q : ℕ) (v : Path) → passes_of v.awaits < answer
    → passes_of (get_or ps q no_path).awaits < answer →
    passes_of (get_or (set ps p v) q no_path).awaits < answer
young-put answer ps p q v new old = paths-put (λ (a : Await). passes_of a < answer) ps p q v new old

calls-more : (chosen : List Bool) (answer n : ℕ) (c : NodeIs) (f : Frame) (kind : FrameKind)
    → 0 < answer → f.kind ≡ kind → kind ≡ Request → IsFrom n kind f
    → path_no c kind f.id.path ≡ None → Asks chosen answer c
    → Asks chosen answer (record c {
      paths = asked c kind f;
      outbox = c.outbox ++ f
          ∷ [];
    })
calls-more chosen answer n c f Reply wait is ask from free q = absurd
    (let bad : Reply ≡ Request = ask in cc)
calls-more chosen answer n c f Request wait is ask from free q =
    let p = f.id.path in
    let v : Path = record { awaits = Out f.id.seq f.to (is_onward f) 0; posted = f.id.seq } in
    let none : (path_of c p).awaits ≡ Nothing = taken-free (path_of c p).awaits free in
    let low : p < 5 = let k = from.2.1 in omega (arith, k) in
    let on : is_chosen chosen p ≡ true = ⊎_elim (λ (y : is_chosen chosen p ≡ true). y)
    (λ (off : is_chosen chosen p ≡ false). absurd
    (q.taken p low off none)) (cases_Bool (is_chosen chosen p)) in
    record {
      none_failed = λ k each. not-failed-put c.paths p k v
          (out-not-failed f.id.seq f.to (is_onward f) 0) (q.none_failed k each);
      young = λ k y. young-put answer c.paths p k v wait (q.young k y);
      asks = each-push (λ (g : Frame). g.kind ≡ Request → is_chosen chosen g.id.path ≡ true)
          c.outbox f q.asks (λ _. on);
      taken = λ k below off is'. ⊎_elim
          (λ (e : k ≡ p). let bad : true ≡ false = sym on ∙ (ap (is_chosen chosen) (sym e) ∙ off) in
          absurd cc)
          (λ (o : k ≡ p → ⊥). q.taken k below off
          (sym (ap (λ (x : Path). x.awaits) (get_or-set_other c.paths p k v no_path o)) ∙ is'))
          (cases_eq k p);
    }

pub calling-keeps : (net : NetPlan) (n : ℕ) (chosen : List Bool) → 0 < net.answer
    → Keeps net n (IsCalling n) (Asks chosen net.answer)
calling-keeps net n chosen wait past after' (Post m f) mine move sort q =
    let move' = subst (λ (k : ℕ). Moved net n past (Post k f) after') mine move in
    let w = after-post net n past f after' move' in
    let free = subst (λ (c : NodeIs). path_no c f.kind f.id.path ≡ None) move'.found.part_is
    (after-none (free_no (ring_after net move'.past) n)
    (path_no (part_at net n move'.past) f.kind f.id.path) move'.step.1.1) in (
      w.free,
      subst (Asks chosen net.answer) (sym w.part_is)
          (calls-more chosen net.answer n (part_at net n past) f f.kind wait refl sort
          move'.step.0.1
          free q),
    )
calling-keeps net n chosen wait past after' (Local m id op result) mine move sort q =
    let w = after-local net n past id op result after'
    (subst (λ (k : ℕ). Moved net n past (Local k id op result) after') mine move) in
    (w.free, subst (Asks chosen net.answer) (sym w.part_is) q)
calling-keeps net n chosen wait past after' (Take m f) mine move sort q = absurd sort
calling-keeps net n chosen wait past after' (Send m heard) mine move sort q = absurd sort
calling-keeps net n chosen wait past after' (GiveUp id word) mine move sort q = absurd sort
calling-keeps net n chosen wait past after' (Pass m done words) mine move sort q = absurd sort
calling-keeps net n chosen wait past after' (Leave m cause) mine move sort q = absurd sort
calling-keeps net n chosen wait past after' (Join m) mine move sort q = absurd sort

-- ---- what is at rest stays so while others go on

abbrev pub RestsIn : NodeIs → Type 0
RestsIn c = (c.outbox ≡ []) × NoneFailed each_path c

rest-came : (c : NodeIs) (f : Frame) (kind : FrameKind) → RestsIn c
    → RestsIn (with_frame c (fell c kind f.id) f)
rest-came c f Request q = cond_both (is_repeat c f.id) _ _ (λ x. RestsIn (with_frame c x f))
    (λ _. q)
    (λ _. cond_both (is_full c) _ _ (λ x. RestsIn (with_frame c x f)) (λ _. q) (λ _. q))
rest-came c f Reply q = cond_both (waits_for (path_of c f.id.path).awaits f.id.seq) _ _
    (λ x. RestsIn (with_frame c x f))
    (λ _. (
      q.0,
      λ p on. not-failed-put c.paths f.id.path p (record {
        awaits = Arrived f.id.seq;
        posted = (path_of c f.id.path).posted;
      }) (arrived-not-failed f.id.seq) (q.1 p on),
    )) (λ _. q)

at-other : (nodes : List NodeIs) (m n : ℕ) (c : NodeIs) → (m ≡ n → ⊥)
    → part_of (set nodes m c) n ≡ part_of nodes n
at-other nodes m n c other = get_or-set_other nodes m n c (fresh false) (λ e. other (sym e))

abbrev If : ℕ → ℕ → NodeIs → Type 0
If n k c = k ≡ n → RestsIn c

rest-sent : (net : NetPlan) (n m : ℕ) (r : RingIs) (box : List Frame) → (m ≡ n → ⊥)
    → RestsIn (ring_node r n) → RestsIn (ring_node (sent_head net r m box) n)
rest-sent net n m r [] other q = q
rest-sent net n m r (f ∷ fs) other q =
    let fate = fate_at net.fates r.sent in
    let nodes = arrived r.nodes f (arrival net r.nodes fate f) in
    let mine : If n n (part_of nodes n) = arrived-part net r.nodes f fate (If n)
    (λ k e. subst (λ (x : ℕ). RestsIn (part_of r.nodes x)) (sym e) q)
    (λ here e. rest-came (part_of r.nodes f.to) f f.kind
    (subst (λ (x : ℕ). RestsIn (part_of r.nodes x)) (sym e) q)) n in
    subst RestsIn (sym (at-other nodes m n _ other)) (mine refl)

-- all who ask come in
rest-admitted : (nodes : List NodeIs) (n : ℕ) → RestsIn (part_of nodes n)
    → RestsIn (part_of (map admitted nodes) n)
rest-admitted nodes n q = subst RestsIn (sym (admitted-part nodes n)) q

pub rest-other : (net : NetPlan) (n : ℕ) (r : RingIs) (e : RingEntry) → (maker e ≡ n → ⊥)
    → RestsIn (ring_node r n) → RestsIn (ring_node (after net r e) n)
rest-other net n r (Post m f) other q = subst RestsIn (sym (at-other r.nodes m n _ other)) q
rest-other net n r (Send m heard) other q = rest-sent net n m r (ring_node r m).outbox other q
rest-other net n r (Take m f) other q = subst RestsIn (sym (at-other r.nodes m n _ other)) q
rest-other net n r (Local m id op result) other q = q
rest-other net n r (GiveUp id word) other q = subst RestsIn
    (sym (at-other r.nodes id.node n _ other)) q
rest-other net n r (Pass m done words) other q = rest-admitted (set r.nodes m _) n
    (subst RestsIn (sym (at-other r.nodes m n _ other)) q)
rest-other net n r (Leave m cause) other q = rest-admitted (set r.nodes m _) n
    (subst RestsIn (sym (at-other r.nodes m n _ other)) q)
rest-other net n r (Join m) other q = cond_both (is_held r) _ _
    (λ (x : RingIs). RestsIn (ring_node x n))
    (λ _. subst RestsIn (sym (at-other r.nodes m n _ other)) q)
    (λ _. subst RestsIn (sym (at-other r.nodes m n _ other)) q)

-- and while the node gives calls up, passes the token on, leaves or asks to come in
rest-given : (c : NodeIs) (id : CallId) → RestsIn c → RestsIn (gave_up c id)
rest-given c id q = (
  ap (filter (λ f. not (asks_for id f))) q.0,
  λ p on. not-failed-put c.paths id.path p
      (record { awaits = Nothing; posted = (path_of c id.path).posted }) nothing-not-failed
      (q.1 p on),
)

aged-fails : (a : Await) → NotFailed a → NotFailed (aged_await a)
aged-fails Nothing q = q
aged-fails (Out s to onward k) q = out-not-failed s to onward (k + 1)
aged-fails (Arrived s) q = q
aged-fails (Failed s w) q = q

aged-rest : (ps : List Path) (p : ℕ) → NotFailed (get_or ps p no_path).awaits
    → NotFailed (get_or (map aged ps) p no_path).awaits
aged-rest [] p q = q
aged-rest (x ∷ ps) zero q = aged-fails x.awaits q
aged-rest (x ∷ ps) (suc p) q = aged-rest ps p q

abbrev pub IsEnding : RingEntry → Type 0
IsEnding (GiveUp id word) = Unit {0}
IsEnding (Pass n done words) = Unit {0}
IsEnding (Leave n cause) = Unit {0}
IsEnding (Join n) = Unit {0}
IsEnding _ = ⊥

put-rest : (r : RingIs) (n m : ℕ) (c : NodeIs) → length r.nodes ≡ addresses → n < addresses → m ≡ n
    → RestsIn c → RestsIn (part_of (set r.nodes m c) n)
put-rest r n m c size low mine q = subst RestsIn
    (sym (subst (λ (k : ℕ). part_of (set r.nodes k c) n ≡ c) (sym mine)
    (at-same r.nodes n c size low))) q

rest-left : (cause : LeaveCause) (c : NodeIs) → RestsIn c → RestsIn (gone_by cause c)
rest-left Ended c q = q
rest-left Spent c q = q
rest-left (Down number) c q = (refl, q.1)

pub rest-own : (net : NetPlan) (n : ℕ) (r : RingIs) (e : RingEntry) → length r.nodes ≡ addresses
    → n < addresses → maker e ≡ n → IsEnding e → RestsIn
    (ring_node r n) → RestsIn (ring_node (after net r e) n)
rest-own net n r (GiveUp id word) size low mine sort q = put-rest r n id.node _ size low mine
    (rest-given (ring_node r id.node) id (subst (λ (k : ℕ). RestsIn (ring_node r k)) (sym mine) q))
rest-own net n r (Pass m done words) size low mine sort q =
    let q' : RestsIn (ring_node r m) = subst (λ (k : ℕ). RestsIn (ring_node r k)) (sym mine) q in
    rest-admitted (set r.nodes m _) n
    (put-rest r n m _ size low mine (q'.0, λ p on. aged-rest (ring_node r m).paths p (q'.1 p on)))
rest-own net n r (Leave m cause) size low mine sort q = rest-admitted (set r.nodes m _) n
    (put-rest r n m _ size low mine (rest-left cause (ring_node r m)
    (subst (λ (k : ℕ). RestsIn (ring_node r k)) (sym mine) q)))
rest-own net n r (Join m) size low mine sort q =
    let q' : RestsIn (ring_node r m) = subst (λ (k : ℕ). RestsIn (ring_node r k)) (sym mine) q in
    cond_both (is_held r) _ _ (λ (x : RingIs). RestsIn (ring_node x n))
    (λ _. put-rest r n m _ size low mine q') (λ _. put-rest r n m _ size low mine q')
rest-own net n r (Post m f) size low mine sort q = absurd sort
rest-own net n r (Send m heard) size low mine sort q = absurd sort
rest-own net n r (Take m f) size low mine sort q = absurd sort
rest-own net n r (Local m id op result) size low mine sort q = absurd sort

ending-quiet : (e : RingEntry) → IsEnding e → NotPost e
ending-quiet (Post m f) k = k
ending-quiet (Send m heard) k = tt
ending-quiet (Take m f) k = tt
ending-quiet (Local m id op result) k = tt
ending-quiet (GiveUp id word) k = tt
ending-quiet (Pass m done words) k = tt
ending-quiet (Leave m cause) k = tt
ending-quiet (Join m) k = tt

quiet-one : (b : Bool) (e : RingEntry) (rest : List RingEntry)
    → Each IsEnding (cond b (e ∷ rest) rest) → Each NotPost (cond b (e ∷ []) [])
quiet-one true e rest all = (ending-quiet e all.0, tt)
quiet-one false e rest all = tt

quiet-first : (n : ℕ) (e : RingEntry) (es : List RingEntry) → Each IsEnding (own n (e ∷ es))
    → Each NotPost (own n (e ∷ []))
quiet-first n e es all = quiet-one (is_of n e) e (own n es) all

rest-run : (net : NetPlan) (n : ℕ) (past more : List RingEntry) → IsOnRing net past n
    → IsLegalRing net (past ++ more) → Each IsEnding (own n more)
    → RestsIn (part_at net n past) → RestsIn (part_at net n (past ++ more))
rest-run net n past [] on legal sorts q = subst (λ (l : List RingEntry). RestsIn (part_at net n l))
    (sym (append-nil past)) q
rest-run net n past (e ∷ es) on legal sorts q =
    let join = append_assoc past (e ∷ []) es in
    let legal' : IsLegalRing net ((past ++ e ∷ []) ++ es) = subst (IsLegalRing net)
    (sym join) legal in
    let near = (legal-parts net (past ++ e ∷ []) es legal').0 in
    let on' : IsOnRing net (past ++ e ∷ []) n = on-quiet net n past (e ∷ []) on near
    (quiet-first n e es sorts) in
    let r = ring_after net past in
    let size = (legal-follows net past n on).size in
    let low : n < addresses = All-contains (λ m. m < addresses) net.members n on.members on.member
    in
    let to : ring_node (after net r e) n ≡ part_at net n (past ++ e ∷ []) = ap
    (λ (x : RingIs). ring_node x n) (sym (next-ring net past e)) in
    subst (λ (l : List RingEntry). RestsIn (part_at net n l)) join
    (⊎_elim
    (λ (mine : is_of n e ≡ true).
    let sorts' : Each IsEnding (e ∷ own n es) = subst
    (λ (b : Bool). Each IsEnding (cond b (e ∷ own n es) (own n es))) mine sorts in
    rest-run net n (past ++ e ∷ []) es on' legal' sorts'.1
    (subst RestsIn to (rest-own net n r e size low (eqb-true (maker e) n mine) sorts'.0 q)))
    (λ (other : is_of n e ≡ false).
    let sorts' : Each IsEnding (own n es) = subst
    (λ (b : Bool). Each IsEnding (cond b (e ∷ own n es) (own n es))) other sorts in
    rest-run net n (past ++ e ∷ []) es on' legal' sorts'
    (subst RestsIn to (rest-other net n r e
    (λ is. let bad : true ≡ false = sym (eq-eqb (maker e) n is) ∙ other in absurd cc) q)))
    (cases_Bool (is_of n e)))

-- entries of others leave a node at rest
pub rest-others : (net : NetPlan) (n : ℕ) (ring more : List RingEntry) → IsOnRing net ring n
    → IsLegalRing net (ring ++ more) → own n more ≡ [] → IsAtRest net n ring
    → IsAtRest net n (ring ++ more)
rest-others net n ring more on legal none q =
    let k = rest-run net n ring more on legal (subst (Each IsEnding) (sym none) tt)
    (q.all_sent, q.none_failed) in
    record { all_sent = k.0; none_failed = k.1 }

pub rest-through : (alone : Bool) (net : NetPlan) (n : ℕ) (ring ring' : List RingEntry)
    → IsOnRing net ring n → IsLegalRing net ring' → Adds alone (is_of n) IsEnding
    ring ring' → IsAtRest net n ring → IsAtRest net n ring'
rest-through alone net n ring ring' on legal adds q =
    let g = adds.grew in
    let k = subst (λ (l : List RingEntry). RestsIn (part_at net n l)) (sym g.after_is)
    (rest-run net n ring g.more on (subst (IsLegalRing net) g.after_is legal)
    (subst (Each IsEnding) (sym g.ours_are) adds.sort) (q.all_sent, q.none_failed)) in
    record { all_sent = k.0; none_failed = k.1 }
