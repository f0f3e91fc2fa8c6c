-- A call of a node that has left is made, and ended at once.
use Rattle.std.proofs.Common.{◌≡◌, ℕ, ◌<◌, ◌==◌, Bool, true, false, not, cond, List, [], ◌∷◌, ◌++◌}
use Rattle.std.proofs.Common.{get_or, set, filter, length}
use Rattle.std.proofs.Common.{Option, Some, None, refl, sym, ap, ◌∙◌, subst, ⊎_elim, append_assoc}
use Rattle.std.proofs.Common.{eq-eqb, ne_eqb}
use Rattle.std.proofs.lemmas.Bool.{cases_eq, cond-true, cond-false, eqb-true}
use Rattle.std.proofs.lemmas.List.{get_or_default}
use Rattle.plant_types.specs.declared.net.NetPlan.{NetPlan}
use Rattle.mstr_block.specs.declared.call.CallId.{CallId}
use Rattle.mstr_block.specs.declared.call.MstrResult.{MstrResult}
use Rattle.host_port.proofs.Unanswered.{is_itself}
use Rattle.controller_core.specs.declared.call.Call.{Call}
use Rattle.controller_core.specs.declared.call.CallKind.{CallKind}
use Rattle.controller_core.specs.declared.call.CallKind.TheVariants as kinds
use Rattle.controller_core.specs.declared.entry.Entry.{Entry}
use Rattle.ring_core.specs.declared.frame.FrameKind.TheVariants.{Request}
use Rattle.ring_core.specs.declared.frame.Frame.{Frame}
use Rattle.ring_core.specs.declared.path.Await.{Await}
use Rattle.ring_core.specs.declared.path.Await.TheVariants.{Nothing, Out, Arrived, Failed}
use Rattle.ring_core.specs.declared.path.Path.{Path}
use Rattle.ring_core.specs.declared.entry.LocalOp.{LocalOp}
use Rattle.ring_core.specs.declared.entry.RingEntry.{RingEntry}
use Rattle.ring_core.specs.declared.entry.RingEntry.TheVariants.{Post, Local, GiveUp}
use Rattle.ring_core.specs.declared.refusal.RingNo.{RingNo}
use Rattle.ring_core.specs.Words.{maker, asks_for, is_onward, request_along}
use Rattle.ring_core.specs.Machine.{NodeIs, ring_after, path_of, posted, gave_up}
use Rattle.ring_core.specs.Refusals.{or_no, free_no, path_no, taken_no}
use Rattle.ring_core.specs.Legal.{IsLegalRing}
use Rattle.tied_lists.specs.Own.{is_of, own, Grew}
use Rattle.tied_lists.specs.Waits.{has_left, waiting as waits_on}
use Rattle.tied_lists.specs.Waits.{waits_posted, AwaitsThis, IsOnRing, IsFree}
use Rattle.tied_lists.specs.Waits.{HasLeft}
use Rattle.tied_lists.proofs.Growth.{grew-ours}
use Rattle.tied_lists.proofs.Histories.{own-mine, legal-follows}
use Rattle.tied_lists.proofs.Paths.{waiting-push}
use Rattle.tied_lists.proofs.Turns.{found-at, legal-parts, next-ring, Moved, after-post}
use Rattle.tied_lists.proofs.Turns.{after-local, on-others}
use Rattle.comm_port.specs.Calling.{IsDueAt}
use Rattle.comm_port.specs.Giving.{part_at, NoneFailed, each_path, IsAtRest}
use Rattle.comm_port.specs.HoldTurn.{MadeAs, EndedAs, IsMade, IsEnded, IsGivenUp}
use Rattle.comm_port.specs.Parts.{PartOf, calls_waiting}
use Rattle.joint_history.specs.Reading.{is_ours}
use Rattle.comm_port.specs.Visiting.{WaitsFor, GivesCall}
use Rattle.comm_port.specs.Waiting.{id_of}
use Rattle.comm_port.proofs.Leaves.{four-same}
use Rattle.comm_port.specs.Sides.{RingSideIs}
use Rattle.comm_port.specs.Turns.{IsOwnTurn}
use Rattle.comm_port.proofs.Parts.{net-as, part-as, part-both}
use Rattle.comm_port.proofs.Through.{RestsIn, not-failed-put, nothing-not-failed, out-not-failed}

-- ---- the one entry of a node among others

pub record Alone (n : ℕ) (more : List RingEntry) (e : RingEntry) : Type 0 where
  pub before : List RingEntry
  pub later : List RingEntry
  pub is : more ≡ before ++ e ∷ later
  pub none_before : own n before ≡ []
  pub none_later : own n later ≡ []
  pub mine : is_of n e ≡ true

alone-at : (n : ℕ) (x : RingEntry) (more : List RingEntry) (e : RingEntry) (b : Bool)
    → is_of n x ≡ b → (own n more ≡ e ∷ [] → Alone n more e) → cond b (x ∷ own n
    more) (own n more) ≡ e ∷ [] → Alone n (x ∷ more) e
alone-at n x more e true mine rec is =
    let h : x ≡ e = head-of x e (own n more) is in
    record {
      before = [];
      later = more;
      is = ap (λ (y : RingEntry). y ∷ more) h;
      none_before = refl;
      none_later = tail-of x e (own n more) is;
      mine = ap (is_of n) (sym h) ∙ mine;
    }
  where
    head-of : (a b : RingEntry) (as' : List RingEntry) → a ∷ as' ≡ b ∷ [] → a ≡ b
    head-of a b as' k = cc

    tail-of : (a b : RingEntry) (as' : List RingEntry) → a ∷ as' ≡ b ∷ [] → as' ≡ []
    tail-of a b as' k = cc
alone-at n x more e false other rec is =
    let k = rec is in
    record {
      before = x ∷ k.before;
      later = k.later;
      is = ap (λ (l : List RingEntry). x ∷ l) k.is;
      none_before = ap (λ (b : Bool). cond b (x ∷ own n k.before) (own n k.before)) other
          ∙ k.none_before;
      none_later = k.none_later;
      mine = k.mine;
    }

alone-in : (n : ℕ) (more : List RingEntry) (e : RingEntry) → own n more ≡ e ∷ [] → Alone n more e
alone-in n [] e is = absurd (let bad : [] ≡ e ∷ [] = is in cc)
alone-in n (x ∷ more) e is = alone-at n x more e (is_of n x) refl (alone-in n more e) is

pub record OneEntry (net : NetPlan) (n : ℕ) (ring : List RingEntry) (e : RingEntry)
    (ring' : List RingEntry) : Type 0 where
  pub mid : List RingEntry
  pub moved : Moved net n ring e mid
  pub later : IsFree net mid n → part_at net n ring' ≡ part_at net n mid

pub one-entry : (alone : Bool) (net : NetPlan) (n : ℕ) (ring : List RingEntry) (e : RingEntry)
    (ring' : List RingEntry) → IsOnRing net ring n → IsLegalRing net ring' →
    IsFree net ring n → Grew alone (is_of n) ring (e ∷ []) ring' → OneEntry net n ring e ring'
one-entry alone net n ring e ring' on legal free g =
    let k = alone-in n g.more e g.ours_are in
    let past = ring ++ k.before in
    let mid = past ++ e ∷ [] in
    let all : ring' ≡ mid ++ k.later = g.after_is
    ∙ (ap (λ l. ring ++ l) k.is ∙ (sym (append_assoc ring k.before (e ∷ k.later)) ∙ sym
    (append_assoc past (e ∷ []) k.later))) in
    let legal' : IsLegalRing net (mid ++ k.later) = subst (IsLegalRing net) all legal in
    let near = (legal-parts net mid k.later legal').0 in
    let parts = legal-parts net past (e ∷ []) near in
    let found = found-at net n ring k.before parts.0 k.none_before free in
    let mine : maker e ≡ n = eqb-true (maker e) n k.mine in
    record {
      mid = mid;
      moved = record {
        past = past;
        found = found;
        on = on-others net n ring k.before on parts.0 k.none_before;
        step = parts.1.0;
        ring_is = next-ring net past e;
        own_is = own-mine n past e mine ∙ ap (λ l. l ++ e ∷ []) found.own_is;
      };
      later = λ free'. subst (λ (l : List RingEntry). part_at net n l ≡ part_at net n mid) (sym all)
          (found-at net n mid k.later legal' k.none_later free').part_is;
    }

-- ---- after the Post

pub record Posted (net : NetPlan) (n : ℕ) (ring : List RingEntry) (f : Frame)
    (ring' : List RingEntry) : Type 0 where
  pub part_is : part_at net n ring' ≡ posted (part_at net n ring) f
  pub free_path : path_no (part_at net n ring) f.kind f.id.path ≡ None
  pub own_is : own n ring' ≡ own n ring ++ Post n f ∷ []

second-none : (a b : Option RingNo) → or_no a b ≡ None → b ≡ None
second-none None b e = e
second-none (Some x) b e = absurd (cc)

pub posted-at : (alone : Bool) (net : NetPlan) (n : ℕ) (ring : List RingEntry) (f : Frame)
    (ring' : List RingEntry) → IsOnRing net ring n → IsLegalRing net ring' → IsFree
    net ring n → Grew alone (is_of n) ring (Post n f ∷ []) ring' → Posted net n ring f ring'
posted-at alone net n ring f ring' on legal free g =
    let o = one-entry alone net n ring (Post n f) ring' on legal free g in
    let w = after-post net n ring f o.mid o.moved in
    record {
      part_is = o.later w.free ∙ w.part_is;
      free_path = subst (λ (c : NodeIs). path_no c f.kind f.id.path ≡ None) o.moved.found.part_is
          (second-none (free_no (ring_after net o.moved.past) n)
          (path_no (part_at net n o.moved.past) f.kind f.id.path) o.moved.step.1.1);
      own_is = grew-ours alone (is_of n) ring (Post n f ∷ []) ring' g;
    }

pub local-at : (alone : Bool) (net : NetPlan) (n : ℕ) (ring : List RingEntry) (id : CallId)
    (op : LocalOp) (r : MstrResult) (ring' : List RingEntry) → IsOnRing net ring
    n → IsLegalRing net ring' → IsFree net ring n
    → Grew alone (is_of n) ring (Local n id op r ∷ []) ring'
    → part_at net n ring' ≡ part_at net n ring
local-at alone net n ring id op r ring' on legal free g =
    let o = one-entry alone net n ring (Local n id op r) ring' on legal free g in
    let w = after-local net n ring id op r o.mid o.moved in
    o.later w.free ∙ w.part_is

pub waits-posted : (n : ℕ) (f : Frame) (ring ring' : List RingEntry) → f.kind ≡ Request
    → own n ring' ≡ own n ring ++ Post n f ∷ [] → WaitsFor n f.id ring'
waits-posted n f ring ring' kind is = (
  f,
  ap (waits_on f.id.path) is ∙ (waiting-push f.id.path (own n ring) (Post n f)
      ∙ (ap (λ k. waits_posted f.id.path (waits_on f.id.path (own n ring)) k f) kind
      ∙ cond-true (f.id.path == f.id.path) (Some f) (waits_on f.id.path (own n ring))
      (eq-eqb f.id.path f.id.path refl))),
  refl,
)

-- ---- the path waited for nothing, and does so again

taken-free : (a : Await) → taken_no a ≡ None → a ≡ Nothing
taken-free Nothing e = refl
taken-free (Out seq to onward passes) e = absurd (cc)
taken-free (Arrived seq) e = absurd (cc)
taken-free (Failed seq word) e = absurd (cc)

waits-none : (a : Await) (o : Option Frame) → a ≡ Nothing → AwaitsThis a o → o ≡ None
waits-none a None is w = refl
waits-none a (Some f) is w = absurd (subst (λ (x : Await). AwaitsThis x (Some f)) is w)

pub as-before : (net : NetPlan) (n : ℕ) (f : Frame) (word : ℕ) (ring ring' ring'' : List RingEntry)
    → f.kind ≡ Request → IsOnRing net ring n → path_no (part_at net n
    ring) f.kind f.id.path ≡ None → own n ring' ≡ own n ring ++ Post n f ∷ []
    → own n ring'' ≡ own n ring' ++ GiveUp f.id word ∷ []
    → calls_waiting n ring'' ≡ calls_waiting n ring
as-before net n f word ring ring' ring'' kind on free one two =
    four-same (λ p. id_of (waits_on p (own n ring''))) (λ p. id_of (waits_on p (own n ring)))
    (ap id_of (at 1)) (ap id_of (at 2)) (ap id_of (at 3)) (ap id_of (at 4))
  where
    p0 : ℕ
    p0 = f.id.path

    now : ℕ → Option Frame
    now p = waits_on p (own n ring)

    later : (p : ℕ) → waits_on p (own n ring'') ≡ cond (p0 == p) None
        (cond (p0 == p) (Some f) (now p))
    later p = ap (waits_on p) (two ∙ ap (λ l. l ++ GiveUp f.id word ∷ []) one)
        ∙ (waiting-push p (own n ring ++ Post n f ∷ []) (GiveUp f.id word)
        ∙ ap (λ (o : Option Frame). cond (p0 == p) None o) (waiting-push p (own n ring) (Post n f)
        ∙ ap (λ k. waits_posted p (now p) k f) kind))

    was : now p0 ≡ None
    was = waits-none (path_of (part_at net n ring) p0).awaits (now p0)
        (taken-free (path_of (part_at net n ring) p0).awaits
        (subst (λ k. path_no (part_at net n ring) k p0 ≡ None) kind free))
        ((legal-follows net ring n on).node.part.paths p0)

    at : (p : ℕ) → waits_on p (own n ring'') ≡ now p
    at p = later p ∙ ⊎_elim
        (λ (e : p0 ≡ p). cond-true (p0 == p) None (cond (p0 == p) (Some f) (now p)) (eq-eqb p0 p e)
        ∙ (sym was ∙ ap now e))
        (λ (o : p0 ≡ p → ⊥). cond-false (p0 == p) None (cond (p0 == p) (Some f) (now p))
        (ne_eqb p0 p o) ∙ cond-false (p0 == p) (Some f) (now p) (ne_eqb p0 p o))
        (cases_eq p0 p)

pub local-before : (n : ℕ) (id : CallId) (op : LocalOp) (r : MstrResult)
    (ring ring' : List RingEntry) → own n ring' ≡ own n ring ++ Local n id op r ∷ []
    → calls_waiting n ring'
    ≡ calls_waiting n ring
local-before n id op r ring ring' is =
    four-same (λ p. id_of (waits_on p (own n ring'))) (λ p. id_of (waits_on p (own n ring))) (at 1)
    (at 2) (at 3) (at 4)
  where
    at : (p : ℕ) → id_of (waits_on p (own n ring')) ≡ id_of (waits_on p (own n ring))
    at p = ap id_of (ap (waits_on p) is ∙ waiting-push p (own n ring) (Local n id op r))

-- ---- nothing is left to be sent, and nothing failed

rests : (c : NodeIs) (id : CallId) (route pdu : List ℕ) → RestsIn c
    → RestsIn (gave_up (posted c (request_along id route pdu)) id)
rests c id route pdu q =
    let f = request_along id route pdu in
    let out : Path = record { awaits = Out id.seq f.to (is_onward f) 0; posted = id.seq } in
    let drop' : filter (λ g. not (asks_for id g)) (f ∷ []) ≡ [] = cond-false (not (asks_for id f))
    (f ∷ []) [] (ap not (is_itself id)) in (
      ap (λ (l : List Frame). filter (λ g. not (asks_for id g)) (l ++ f ∷ [])) q.0 ∙ drop',
      λ p on. not-failed-put (set c.paths id.path out) id.path p
          (record { awaits = Nothing; posted = (path_of (posted c f) id.path).posted })
          nothing-not-failed
          (not-failed-put c.paths id.path p out (out-not-failed id.seq f.to (is_onward f) 0)
          (q.1 p on)),
    )

pub rests-again : (net : NetPlan) (n : ℕ) (id : CallId) (route pdu : List ℕ)
    (ring ring' ring'' : List RingEntry) → part_at net n ring' ≡ posted (part_at net n ring)
    (request_along id route pdu) → GivesCall net n id ring' ring'' → IsAtRest net n ring
    → IsAtRest net n ring''
rests-again net n id route pdu ring ring' ring'' one two q =
    let k = subst RestsIn (sym (two ∙ ap (λ (c : NodeIs). gave_up c id) one))
    (rests (part_at net n ring) id route pdu (q.all_sent, q.none_failed)) in
    record { all_sent = k.0; none_failed = k.1 }

pub rests-same : (net : NetPlan) (n : ℕ) (ring ring' : List RingEntry)
    → part_at net n ring' ≡ part_at net n ring → IsAtRest net n ring → IsAtRest net n ring'
rests-same net n ring ring' is q = record {
  all_sent = ap (λ (c : NodeIs). c.outbox) is ∙ q.all_sent;
  none_failed = subst (NoneFailed each_path)
      (sym is) q.none_failed;
}

-- ---- what was made of the call at a place

same-call : (calls : List Call) (at : ℕ) (c d : Call) → at < length calls → c ≡ get_or calls at c
    → d ≡ get_or calls at d → d ≡ c
same-call calls at c d low one two = two ∙ (get_or_default calls at d c low ∙ sym one)

net-made : (n : ℕ) (c : Call) (route pdu : List ℕ) (noted : List Entry) (done : List RingEntry)
    → c.kind ≡ kinds.Net route pdu → IsMade n c noted done
    → (noted ≡ []) × (done ≡ Post n (request_along c.id route pdu) ∷ [])
net-made n c route pdu noted done is m = subst (λ (k : CallKind). MadeAs k n c.id noted done) is m

pub made-net-at : (alone alone' : Bool) (n : ℕ) (calls : List Call) (at : ℕ) (c : Call)
    (route pdu : List ℕ) (known known' : List Entry) (ring ring' : List RingEntry)
    → at < length calls → c ≡ get_or calls at c → c.kind ≡ kinds.Net route pdu
    → PartOf alone alone' is_ours n (IsDueAt (IsMade n) calls at) known known' ring ring'
    → Grew alone is_ours known [] known' × Grew alone' (is_of n) ring
    (Post n (request_along c.id route pdu) ∷ []) ring'
made-net-at alone alone' n calls at c route pdu known known' ring ring' low one kind p =
    let m = subst (λ (d : Call). IsMade n d p.noted p.done)
    (same-call calls at c p.due.0 low one p.due.1) p.due.2 in
    let k = net-made n c route pdu p.noted p.done kind m in (
      subst (λ (l : List Entry). Grew alone is_ours known l known') k.0 p.station,
      subst
          (λ (l : List RingEntry). Grew alone' (is_of n) ring l ring') k.1 p.node,
    )

pub made-local-at : (alone alone' : Bool) (n : ℕ) (calls : List Call) (at : ℕ) (c : Call)
    (op : LocalOp) (known known' : List Entry) (ring ring' : List RingEntry)
    → at < length calls → c ≡ get_or calls at c → c.kind ≡ kinds.Local op
    → PartOf alone alone' is_ours n (IsDueAt (IsMade n) calls at) known known' ring ring'
    → (r : MstrResult) × Grew alone' (is_of n) ring (Local n c.id op r ∷ []) ring'
made-local-at alone alone' n calls at c op known known' ring ring' low one kind p =
    let m = subst (λ (d : Call). IsMade n d p.noted p.done)
    (same-call calls at c p.due.0 low one p.due.1) p.due.2 in
    let k = subst (λ (k : CallKind). MadeAs k n c.id p.noted p.done) kind m in
    (k.0, subst (λ (l : List RingEntry). Grew alone' (is_of n) ring l ring') k.2 p.node)

pub ended-net : (alone alone' : Bool) (n : ℕ) (calls : List Call) (at : ℕ) (c : Call)
    (route pdu : List ℕ) (known known' known'' : List Entry) (ring ring' ring'' : List
    RingEntry) → at < length calls → c ≡ get_or calls at c → c.kind ≡ kinds.Net route pdu
    → PartOf alone alone' is_ours n (IsDueAt (IsMade n) calls at) known known' ring ring'
    → PartOf alone alone' is_ours n (IsGivenUp c.id) known' known'' ring' ring''
    → PartOf alone alone' is_ours n (IsDueAt (IsEnded n) calls at) known known'' ring ring''
ended-net alone alone' n calls at c route pdu known known' known'' ring ring' ring'' low one kind a
    b =
    part-both alone alone' is_ours n (IsDueAt (IsMade n) calls at) (IsGivenUp c.id)
    (IsDueAt (IsEnded n) calls at) known known' known'' ring ring' ring''
    (λ noted noted' done done' x y.
    let m = subst (λ (d : Call). IsMade n d noted done) (same-call calls at c x.0 low one x.1) x.2
    in
    let k = net-made n c route pdu noted done kind m in
    let ended : EndedAs (kinds.Net route pdu) n c.id (noted ++ noted') (done ++ done') =
    (y.0, ap (λ l. l ++ noted') k.0 ∙ y.1, (λ i. k.1 i ++ y.2 i)) in (
      c,
      one,
      subst (λ (k : CallKind). EndedAs k n c.id (noted ++ noted') (done ++ done')) (sym kind)
          ended,
    )) a b

pub ended-local : (alone alone' : Bool) (n : ℕ) (calls : List Call) (at : ℕ) (c : Call)
    (op : LocalOp) (known known' : List Entry) (ring ring' : List RingEntry)
    → at < length calls → c ≡ get_or calls at c → c.kind ≡ kinds.Local op
    → PartOf alone alone' is_ours n (IsDueAt (IsMade n) calls at) known known' ring ring'
    → PartOf alone alone' is_ours n (IsDueAt (IsEnded n) calls at) known known' ring ring'
ended-local alone alone' n calls at c op known known' ring ring' low one kind p =
    part-as alone alone' is_ours n (IsDueAt (IsMade n) calls at) (IsDueAt (IsEnded n) calls at)
    known known' ring ring'
    (λ noted done x.
    let m = subst (λ (d : Call). IsMade n d noted done) (same-call calls at c x.0 low one x.1) x.2
    in
    let k : MadeAs (kinds.Local op) n c.id noted done = subst
    (λ (k : CallKind). MadeAs k n c.id noted done) kind m in
    (c, one, subst (λ (k : CallKind). EndedAs k n c.id noted done) (sym kind) k)) p

-- ---- the same, of sides that are the same

pub net-posted : {Q : Type 0} (alone alone' : Bool) (n : ℕ) (calls : List Call) (at : ℕ) (c : Call)
    (route pdu : List ℕ) (known known' : List Entry) (side side' :
    RingSideIs Q) (ring ring' : List RingEntry) → at < length calls → c ≡ get_or calls at c
    → c.kind ≡ kinds.Net route pdu → side' ≡ side → IsOwnTurn side ring n → IsLegalRing
    side'.net ring' → PartOf alone alone' is_ours n (IsDueAt (IsMade n) calls at) known known' ring
    ring' → Posted side.net n ring (request_along c.id route pdu) ring'
net-posted alone alone' n calls at c route pdu known known' side side' ring ring' low one kind same
    t legal p =
    posted-at alone' side.net n ring (request_along c.id route pdu) ring' t.on
    (net-as (λ (m : NetPlan). IsLegalRing m ring') side side' same legal) t.free
    (made-net-at alone alone' n calls at c route pdu known known' ring ring' low one kind p).1

pub record AsItWas (net : NetPlan) (n : ℕ) (ring ring' : List RingEntry) : Type 0 where
  pub part_is : part_at net n ring' ≡ part_at net n ring
  pub waits : calls_waiting n ring' ≡ calls_waiting n ring

pub local-done : {Q : Type 0} (alone alone' : Bool) (n : ℕ) (calls : List Call) (at : ℕ) (c : Call)
    (op : LocalOp) (known known' : List Entry) (side side' : RingSideIs Q)
    (ring ring' : List RingEntry) → at < length calls → c ≡ get_or calls at c
    → c.kind ≡ kinds.Local op → side' ≡ side → IsOwnTurn side ring n → IsLegalRing side'.net ring'
    → PartOf alone alone' is_ours n (IsDueAt (IsMade n) calls at) known known' ring ring'
    → AsItWas side.net n ring ring'
local-done alone alone' n calls at c op known known' side side' ring ring' low one kind same t legal
    p =
    let k = made-local-at alone alone' n calls at c op known known' ring ring' low one kind p in
    record {
      part_is = local-at alone' side.net n ring c.id op k.0 ring' t.on
          (net-as (λ (m : NetPlan). IsLegalRing m ring') side side' same legal) t.free k.1;
      waits = local-before n c.id op k.0 ring ring'
          (grew-ours alone' (is_of n) ring (Local n c.id op k.0 ∷ []) ring' k.1);
    }

-- both entries of a Request that is given up at once
pub ended-before : (alone alone' : Bool) (net : NetPlan) (n : ℕ) (id : CallId)
    (route pdu : List ℕ) (known known' : List Entry) (ring ring' ring'' : List RingEntry)
    → IsOnRing net ring n → Posted net n ring (request_along id route pdu) ring'
    → PartOf alone alone' is_ours n (IsGivenUp id) known known' ring' ring''
    → calls_waiting n ring'' ≡ calls_waiting n ring
ended-before alone alone' net n id route pdu known known' ring ring' ring'' on a b =
    as-before net n (request_along id route pdu) b.due.0 ring ring' ring'' refl on a.free_path
    a.own_is
    (grew-ours alone' (is_of n) ring' b.done ring'' b.node ∙ ap (λ l. own n ring' ++ l) b.due.2)

pub gone-posted : (net : NetPlan) (n : ℕ) (f : Frame) (ring ring' : List RingEntry)
    → HasLeft net ring n → Posted net n ring f ring' → HasLeft net ring' n
gone-posted net n f ring ring' gone a = ap (λ (c : NodeIs). has_left c.status) a.part_is ∙ gone

pub gone-given : (net : NetPlan) (n : ℕ) (id : CallId) (ring ring' : List RingEntry)
    → HasLeft net ring n → GivesCall net n id ring ring' → HasLeft net ring' n
gone-given net n id ring ring' gone a = ap (λ (c : NodeIs). has_left c.status) a ∙ gone
