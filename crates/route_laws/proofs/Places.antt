-- The ring of a node: all that it noted stands there.
use Rattle.std.proofs.Common.{◌≡◌, ℕ, ◌<◌, ◌≤◌, true, false, cond, List, [], ◌∷◌, length, refl}
use Rattle.std.proofs.Common.{sym, ap, ◌∙◌, subst, ⊎_elim, inl, inr, arith}
use Rattle.std.specs.Prelude.{Contains, ◌==◌}
use Rattle.std.specs.List.{count_by, sum_by}
use Rattle.std.proofs.lemmas.Bool.{cases_Bool, cases_lt, eq-eqb, eqb-true}
use Rattle.std.proofs.lemmas.List.Sums.{sum_by-cons}
use Rattle.plant_types.specs.declared.net.NetPlan.{NetPlan}
use Rattle.plant_types.specs.declared.plan.Plant.{Plant}
use Rattle.plant_types.specs.Plans.{IsPlant}
use Rattle.mstr_block.specs.declared.call.CallId.{CallId}
use Rattle.ring_core.specs.declared.entry.RingEntry.{RingEntry}
use Rattle.ring_core.specs.declared.entry.RingEntry.TheVariants.{Post, Send, Take, Local, GiveUp}
use Rattle.ring_core.specs.declared.entry.RingEntry.TheVariants.{Pass, Leave, Join}
use Rattle.ring_core.specs.declared.frame.Frame.{Frame}
use Rattle.ring_core.specs.declared.frame.FrameKind.TheVariants.{Request, Reply}
use Rattle.ring_core.specs.Words.{asks_for, maker}
use Rattle.ring_core.specs.Legal.{IsMember}
use Rattle.ring_laws.specs.Once.{IsRingHistory, posts}
use Rattle.ring_laws.proofs.Law.{only-its-target, posted-once, reply-to-its-caller}
use Rattle.ring_laws.proofs.Lists.{contains-count, count-cons, count-contains, each-contains}
use Rattle.tied_lists.specs.Own.{is_of, own}
use Rattle.tied_lists.proofs.Boxes.{count-filter}
use Rattle.joint_history.specs.declared.joint.RingLog.{RingLog}
use Rattle.joint_history.specs.declared.joint.Joint.{Joint}
use Rattle.joint_history.specs.JointLaws.{IsLegalJoint}
use Rattle.joint_history.specs.Nets.{noted_on_rings}
use Rattle.effect_laws.proofs.Homes.{counted-own}
use Rattle.effect_laws.proofs.Sources.{in-none, in-own, of-own, first-or-behind}
use Rattle.route_laws.proofs.Posts.{posts-own}
use Rattle.net_laws.proofs.Rings.{entry-on, on-among, own-on, ring-history, ring-there}

-- the ring of a node
pub record RingOf (plant : Plant) (whole : List RingEntry) (n : ℕ) : Type 0 where
  pub net : NetPlan
  pub ring : RingLog
  pub history : IsRingHistory net ring.entries
  pub own_is : own n whole ≡ own n ring.entries
  pub among : (e : RingEntry) → Contains ring.entries e → Contains whole e

-- a node that noted something has a ring
pub ring-of-node : (plant : Plant) (scans : ℕ) (joint : Joint) (n : ℕ) (e : RingEntry)
    → IsPlant plant → IsLegalJoint plant scans joint → Contains (noted_on_rings joint) e
    → maker e ≡ n → RingOf plant (noted_on_rings joint) n
ring-of-node plant scans joint n e is legal there made =
    let on = entry-on plant.nets joint.rings e legal.rings there in
    let number = on.net.number in
    let ring = ring-there plant joint.rings is legal.rings on.net on.there in
    let member = subst (IsMember on.net) made on.member in
    record {
      net = on.net;
      ring = ring.ring;
      history = subst (IsRingHistory on.net) ring.entries
          (ring-history plant joint.rings is legal.rings on.net on.there);
      own_is = own-on plant joint.rings is legal.rings on.net n on.there member
          ∙ ap (own n) ring.entries;
      among = λ x mine. on-among number joint.rings x
          (subst (λ (l : List RingEntry). Contains l x) (sym ring.entries) mine);
    }

-- what a node noted stands on its ring
pub on-its-ring : (plant : Plant) (whole : List RingEntry) (n : ℕ) (e : RingEntry)
    (r : RingOf plant whole n) → Contains whole e → maker e ≡ n → Contains r.ring.entries e
on-its-ring plant whole n e r there made =
    (of-own n r.ring.entries e (subst (λ (l : List RingEntry). Contains l e) r.own_is
    (in-own n whole e (eq-eqb (maker e) n made) there))).0

-- ---- what rings say

module _ (plant : Plant) (scans : ℕ) (joint : Joint) (is : IsPlant plant)
    (legal : IsLegalJoint plant scans joint) where
  -- a call is asked for at most once
  pub posted-on-rings : (id : CallId) → count_by (posts id) (noted_on_rings joint) ≤ 1
  posted-on-rings id =
      let ring = noted_on_rings joint in
      let owns = posts-own plant scans joint id legal in
      ⊎_elim
      (λ (none : count_by (posts id) ring < 1). omega (arith, none))
      (λ (some : 1 ≤ count_by (posts id) ring).
      let found = count-contains (posts id) ring some in
      let node = eqb-true (maker found.0) id.node
      (each-contains (λ e. posts id e ≡ true → (maker e == id.node) ≡ true) ring found.0 owns
      found.1 found.2) in
      let r = ring-of-node plant scans joint id.node found.0 is legal found.1 node in
      let mine = counted-own (posts id) id.node ring owns ∙ ap (count_by (posts id)) r.own_is in
      let most = count-filter (posts id) (is_of id.node) r.ring.entries in
      let once = posted-once r.net r.ring.entries id r.history in
      omega (arith, mine, most, once))
      (cases_lt (count_by (posts id) ring) 1)

  -- a Request that was taken was posted
  pub request-posted : (n : ℕ) (f : Frame) → Contains (noted_on_rings joint) (Take n f)
      → f.kind ≡ Request → Contains (noted_on_rings joint) (Post f.id.node f)
  request-posted n f there kind =
      let r = ring-of-node plant scans joint n (Take n f) is legal there refl in
      let here = on-its-ring plant (noted_on_rings joint) n (Take n f) r there refl in
      r.among _ (only-its-target r.net r.ring.entries n f r.history (inr here) kind).2

  -- so was a Reply
  pub reply-posted : (n : ℕ) (f : Frame) → Contains (noted_on_rings joint) (Take n f)
      → f.kind ≡ Reply → (k : ℕ) × Contains (noted_on_rings joint) (Post k f)
  reply-posted n f there kind =
      let r = ring-of-node plant scans joint n (Take n f) is legal there refl in
      let here = on-its-ring plant (noted_on_rings joint) n (Take n f) r there refl in
      let by = (reply-to-its-caller r.net r.ring.entries n f r.history (inr here) kind).3 in
      (by.0, r.among (Post by.0 f) by.2)

-- ---- how far a call is still to go

abbrev route_left : CallId → RingEntry → ℕ
route_left id (Post n f) = cond (asks_for id f) (length f.rest) 0
route_left id _ = 0

-- how many addresses stand behind the first, where the Request of a call is posted
abbrev pub size_of : List RingEntry → CallId → ℕ
size_of ring id = sum_by (route_left id) ring

left-off : (id : CallId) (e : RingEntry) → posts id e ≡ false → route_left id e ≡ 0
left-off id (Post n f) off = ap (λ b. cond b (length f.rest) 0) off
left-off id (Send n heard) off = refl
left-off id (Take n f) off = refl
left-off id (Local n name op result) off = refl
left-off id (GiveUp name word) off = refl
left-off id (Pass n done words) off = refl
left-off id (Leave n cause) off = refl
left-off id (Join n) off = refl

none-left : (id : CallId) (es : List RingEntry) → count_by (posts id) es ≡ 0
    → size_of es id ≡ 0
none-left id [] none = refl
none-left id (e ∷ es) none =
    let step = count-cons (posts id) e es in
    let all = sum_by-cons (route_left id) e es in
    elim (cases_Bool (posts id e)) [
      | inl is ↦
          let one : cond {A = ℕ} (posts id e) 1 0 ≡ 1 = ap (λ b. cond b 1 0) is in
          absurd (omega (arith, step, one, none))
      | inr is ↦
          let off = left-off id e is in
          let rest = none-left id es (omega (arith, step, none)) in
          omega (arith, all, off, rest)
    ]

pub size-is : (id : CallId) (es : List RingEntry) (n : ℕ) (f : Frame)
    → count_by (posts id) es ≤ 1 → Contains es (Post n f) → asks_for id f ≡ true
    → size_of es id ≡ length f.rest
size-is id [] n f few there asks = absurd (in-none _ there)
size-is id (e ∷ es) n f few there asks =
    let step = count-cons (posts id) e es in
    let all = sum_by-cons (route_left id) e es in
    ⊎_elim
    (λ (same : e ≡ Post n f).
    let one : cond {A = ℕ} (posts id e) 1 0 ≡ 1 =
    ap (λ (x : RingEntry). cond {A = ℕ} (posts id x) 1 0) same ∙ ap (λ b. cond b 1 0) asks in
    let rest = none-left id es (omega (arith, step, one, few)) in
    let here : route_left id e ≡ length f.rest =
    ap (route_left id) same ∙ ap (λ b. cond b (length f.rest) 0) asks in
    omega (arith, all, here, rest))
    (λ (more : Contains es (Post n f)).
    let some = contains-count (posts id) es (Post n f) asks more in
    elim (cases_Bool (posts id e)) [
      | inl is ↦
          let one : cond {A = ℕ} (posts id e) 1 0 ≡ 1 = ap (λ b. cond b 1 0) is in
          absurd (omega (arith, step, one, few, some))
      | inr is ↦
          let off = left-off id e is in
          let rest = size-is id es n f (omega (arith, step, few)) more asks in
          omega (arith, all, off, rest)
    ])
    (first-or-behind e es (Post n f) there)
