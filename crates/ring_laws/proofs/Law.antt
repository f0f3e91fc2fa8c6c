-- The laws, from what boxes, paths and numbers rest on.
use Rattle.std.proofs.Common.{◌≡◌, ◌≢◌, ℕ, ◌<◌, ◌≤◌, true, false, List, count_by, Contains, refl}
use Rattle.std.proofs.Common.{sym, ap, ◌∙◌, subst, inr, ⊎_elim, arith}
use Rattle.std.proofs.lemmas.Bool.{eq-eqb, and_parts, and_from, cases_lt}
use Rattle.ring_core.specs.MstrBlock.{CallId}
use Rattle.plant_types.specs.declared.net.NetPlan.{NetPlan}
use Rattle.ring_core.specs.declared.frame.FrameKind.{FrameKind}
use Rattle.ring_core.specs.declared.frame.FrameKind.TheVariants.{Request, Reply}
use Rattle.ring_core.specs.declared.frame.Frame.{Frame}
use Rattle.ring_core.specs.declared.entry.RingEntry.{RingEntry}
use Rattle.ring_core.specs.declared.entry.RingEntry.TheVariants.{Post, Send, Take, Local, GiveUp}
use Rattle.ring_core.specs.declared.entry.RingEntry.TheVariants.{Pass, Leave, Join}
use Rattle.ring_core.specs.Words.{is_same_call, asks}
use Rattle.ring_core.specs.Machine.{ring_after}
use Rattle.ring_core.specs.Legal.{IsFrom}
use Rattle.ring_laws.specs.Once.{posts, takes, IsRingHistory, PostedOnce, TakenOnce, Accepted}
use Rattle.ring_laws.specs.Once.{OnlyItsTarget, ReplyByTaker, HasAsked, ReplyToItsCaller}
use Rattle.ring_laws.specs.Once.{GivenUpWord}
use Rattle.ring_laws.proofs.Rests.{takes_at, AskedIfReply, CameTo, EntryRests, RingRests}
use Rattle.ring_laws.proofs.Lists.{each-map, each-contains, count-contains, only-one, count-weaker}
use Rattle.ring_laws.proofs.Lists.{same-eq, same-refl}
use Rattle.ring_laws.proofs.Steps.{legal-rests}

rests : (net : NetPlan) (h : List RingEntry) → IsRingHistory net h
    → RingRests net h (ring_after net h)
rests net h is = legal-rests net h is.members is.legal

kind-request : (k : FrameKind) → asks k ≡ true → k ≡ Request
kind-request Request e = refl
kind-request Reply e = absurd (cc)

post-asks : (id : CallId) (n : ℕ) (f : Frame) → f.kind ≡ Request → f.id ≡ id
    → posts id (Post n f) ≡ true
post-asks id n f is same =
    and_from _ _ (ap asks is) (ap (λ (x : CallId). is_same_call x id) same ∙ same-refl id)

-- one call, one Request
one-frame : (h : List RingEntry) (id : CallId) (n m : ℕ) (f g : Frame) → count_by (posts id) h ≤ 1
    → f.kind ≡ Request → g.kind ≡ Request → f.id ≡ id
    → g.id ≡ id → Contains h (Post n f) → Contains h (Post m g) → f ≡ g
one-frame h id n m f g le kf kg f_is g_is pf pg =
    let q : Post n f ≡ Post m g = only-one (posts id) h (Post n f) (Post m g) le
    (post-asks id n f kf f_is) (post-asks id m g kg g_is) pf pg in
    cc

once : (net : NetPlan) (h : List RingEntry) (id : CallId) → RingRests net h (ring_after net h)
    → count_by (posts id) h ≤ 1
once net h id i = ((i.nodes id.node).asked id refl).once

pub posted-once : PostedOnce
posted-once net h id is = once net h id (rests net h is)

-- an entry that takes the Request
record Takes (net : NetPlan) (h : List RingEntry) (id : CallId) (e : RingEntry) : Type 0 where
  pub node : ℕ
  pub frame : Frame
  pub is : e ≡ Take node frame
  pub came : CameTo net h node frame
  pub request : frame.kind ≡ Request
  pub same : frame.id ≡ id

takes-view : (net : NetPlan) (h : List RingEntry) (id : CallId) (e : RingEntry) → EntryRests net h e
    → takes id e ≡ true → Takes net h id e
takes-view net h id (Post n f) k t = absurd (let no' : false ≡ true = t in cc)
takes-view net h id (Send n heard) k t = absurd (let no' : false ≡ true = t in cc)
takes-view net h id (Take n f) k t = let two = and_parts (asks f.kind) (is_same_call f.id id) t in
    record {
      node = n;
      frame = f;
      is = refl;
      came = k;
      request = kind-request f.kind two.0;
      same = same-eq f.id id two.1;
    }
takes-view net h id (Local n own op result) k t = absurd (let no' : false ≡ true = t in cc)
takes-view net h id (GiveUp own word) k t = absurd (let no' : false ≡ true = t in cc)
takes-view net h id (Pass n done words) k t = absurd (let no' : false ≡ true = t in cc)
takes-view net h id (Leave n cause) k t = absurd (let no' : false ≡ true = t in cc)
takes-view net h id (Join n) k t = absurd (let no' : false ≡ true = t in cc)

takes-there : (net : NetPlan) (h : List RingEntry) (id : CallId) (v : RingEntry)
    (w : Takes net h id v) → count_by (posts id) h ≤ 1 → (e : RingEntry)
    → EntryRests net h e → takes id e ≡ true → takes_at w.node id e ≡ true
takes-there net h id v w le (Post n f) k t = t
takes-there net h id v w le (Send n heard) k t = t
takes-there net h id v w le (Take n f) k t =
    let u = takes-view net h id (Take n f) k t in
    let two = and_parts (asks f.kind) (is_same_call f.id id) t in
    let fu : f ≡ w.frame = one-frame h id k.by w.came.by f w.frame le
    (kind-request f.kind two.0) w.request
    (same-eq f.id id two.1) w.same k.sent.0 w.came.sent.0 in
    and_from _ _ (eq-eqb n w.node (sym k.to ∙ (ap (λ (x : Frame). x.to) fu ∙ w.came.to))) t
takes-there net h id v w le (Local n own op result) k t = t
takes-there net h id v w le (GiveUp own word) k t = t
takes-there net h id v w le (Pass n done words) k t = t
takes-there net h id v w le (Leave n cause) k t = t
takes-there net h id v w le (Join n) k t = t

pub taken-once : TakenOnce
taken-once net h id is =
    let i = rests net h is in
    ⊎_elim
    (λ (none : count_by (takes id) h < 1). omega (arith, none))
    (λ (some : 1 ≤ count_by (takes id) h).
    let first = count-contains (takes id) h some in
    let w = takes-view net h id first.0
    (each-contains (EntryRests net h) h first.0 i.entries first.1) first.2 in
    let le = once net h id i in
    let weaker = count-weaker (takes id) (takes_at w.node id) h
    (each-map (EntryRests net h) _ h (λ e k. takes-there net h id first.0 w le e k) i.entries) in
    let at_one = ((i.nodes w.node).seen id).once in
    omega (arith, weaker, at_one))
    (cases_lt (count_by (takes id) h) 1)

-- what was accepted came to the node
came : (net : NetPlan) (h : List RingEntry) (n : ℕ) (f : Frame) → RingRests net h (ring_after net h)
    → Accepted net h n f → CameTo net h n f
came net h n f i got = ⊎_elim
    (λ (waits : Contains _ f). each-contains (CameTo net h n) _ f (i.nodes n).coming waits)
    (λ (took : Contains h (Take n f)). each-contains (EntryRests net h) h (Take n f) i.entries took)
    got

from-caller : (net : NetPlan) (h : List RingEntry) (n : ℕ) (f : Frame) → f.kind ≡ Request
    → CameTo net h n f → (f.to ≡ n) × (f.id.node ≢ n) × Contains h
    (Post f.id.node f)
from-caller net h n f is c =
    let from : IsFrom c.by Request f = subst (λ (k : FrameKind). IsFrom c.by k f) is c.sent.1.1 in (
      c.to,
      (λ e. from.1 (c.to ∙ (sym e ∙ from.0))),
      subst (λ (k : ℕ). Contains h (Post k f)) (sym from.0) c.sent.0,
    )

pub only-its-target : OnlyItsTarget
only-its-target net h n f is got kind =
    from-caller net h n f kind (came net h n f (rests net h is) got)

to-caller : (net : NetPlan) (h : List RingEntry) (n : ℕ) (f : Frame) → f.kind ≡ Reply
    → CameTo net h n f
    → (f.to ≡ n) × (f.id.node ≡ n) × HasAsked h n f.id × ((k : ℕ) × (k ≢ n) × Contains h (Post k f))
to-caller net h n f is c =
    let from : IsFrom c.by Reply f = subst (λ (k : FrameKind). IsFrom c.by k f) is c.sent.1.1 in (
      c.to,
      sym from.0 ∙ c.to,
      subst (λ (k : FrameKind). AskedIfReply h n f.id k) is c.asked,
      (c.by, (λ e. from.1 (c.to ∙ sym e)), c.sent.0),
    )

pub reply-to-its-caller : ReplyToItsCaller
reply-to-its-caller net h n f is got kind =
    to-caller net h n f kind (came net h n f (rests net h is) got)

pub reply-by-taker : ReplyByTaker
reply-by-taker net h n f is answers got kind =
    let i = rests net h is in
    let c = to-caller net h n f kind (came net h n f i got) in
    let by = c.3.0 in
    let t = answers by f c.3.2 kind in
    let w = from-caller net h by t.request t.kind (came net h by t.request i (inr t.taken)) in
    let own : t.request.id.node ≡ n = ap (λ (x : CallId). x.node) t.same ∙ c.1 in (
      c.1,
      record {
        by = by;
        other = c.3.1;
        posted = c.3.2;
        request = t.request;
        kind = t.kind;
        same = t.same;
        asked = subst (λ (k : ℕ). Contains h (Post k t.request)) own w.2;
        to = w.0;
        taken = t.taken;
      },
    )

pub given-up-word : GivenUpWord
given-up-word net h id word is there =
    each-contains (EntryRests net h) h (GiveUp id word) (rests net h is).entries there
