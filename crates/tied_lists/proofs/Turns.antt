-- What a node's own call finds and leaves.
use Rattle.std.proofs.Common.{◌≡◌, ◌≢◌, ℕ, ◌<◌, ◌==◌, Bool, true}
use Rattle.std.proofs.Common.{false, cond, List, [], ◌∷◌, ◌++◌, set, map}
use Rattle.std.proofs.Common.{Option, Some, None, refl, sym, ap, ◌∙◌}
use Rattle.std.proofs.Common.{subst, inl, inr, ⊎_elim, arith, append-nil, append_assoc}
use Rattle.std.proofs.Common.{get_or-set_same}
use Rattle.std.specs.List.{AllByRecursion as Each}
use Rattle.std.proofs.lemmas.Bool.{eq-eqb}
use Rattle.std.proofs.lemmas.List.Elements.{filter-append, All-contains}
use Rattle.ring_core.specs.declared.path.Await.{Await}
use Rattle.ring_core.specs.declared.path.Await.TheVariants.{Nothing, Out, Arrived, Failed}
use Rattle.ring_core.specs.Words.{maker, asks}
use Rattle.ring_core.specs.Machine.{NodeIs, RingIs, addresses, fresh, part_of}
use Rattle.ring_core.specs.Machine.{ring_node, posted, took, gave_up, after, opening, is_here}
use Rattle.ring_core.specs.Machine.{ring_after, after_pass, is_in, admitted, admitted_status}
use Rattle.ring_core.specs.Machine.{gone_by}
use Rattle.ring_core.specs.Legal.{IsFirst, IsRingStep}
use Rattle.ring_core.specs.Legal.{IsRun, IsLegalRing}
use Rattle.ring_core.specs.Stability.{IsLeaveOrJoin, NoLeaveOrJoin, NoneBy, Stays}
use Rattle.ring_core.proofs.Runs.{after_all-push}
use Rattle.ring_core.proofs.Stability.{holders-keep, leave_or_join-made, membership-stays}
use Rattle.ring_core.proofs.Stability.{outsiders-keep, admitted-part}
use Rattle.tied_lists.specs.Words.{CallId, FrameKind, Request, Reply, Frame, NetPlan}
use Rattle.tied_lists.specs.Words.{LocalOp, MstrResult, LeaveCause, RingEntry, Post, Take}
use Rattle.tied_lists.specs.Words.{Local, GiveUp, Pass, Leave, Send, Join, Ended, Spent, Down}
use Rattle.tied_lists.specs.Words.{NodeStatus, In, Away, Asking, Gone}
use Rattle.tied_lists.specs.Own.{is_of, own, WentOn}
use Rattle.tied_lists.specs.Waits.{waiting, IsAsk, AwaitsThis}
use Rattle.tied_lists.specs.Waits.{IsOnRing, Holds, HasLeft, IsFree, IsPatient, ArePatient}
use Rattle.tied_lists.specs.Waits.{status_at, has_left}
use Rattle.tied_lists.proofs.Boxes.{CameOn, HasCome}
use Rattle.tied_lists.proofs.Histories.{legal-follows, own-mine}

abbrev pub part : NetPlan → List RingEntry → ℕ → NodeIs
part net history n = ring_node (ring_after net history) n

-- runs that are joined
run-parts : (net : NetPlan) (past xs ys : List RingEntry) → IsRun net past (xs ++ ys)
    → IsRun net past xs × IsRun net (past ++ xs) ys
run-parts net past [] ys run =
    (tt, subst (λ (l : List RingEntry). IsRun net l ys) (sym (append-nil past)) run)
run-parts net past (x ∷ xs) ys run =
    let more = run-parts net (past ++ x ∷ []) xs ys run.1 in (
      (run.0, more.0),
      subst (λ (l : List RingEntry). IsRun net l ys) (append_assoc past (x ∷ []) xs) more.1,
    )

pub legal-parts : (net : NetPlan) (xs ys : List RingEntry) → IsLegalRing net (xs ++ ys)
    → IsLegalRing net xs × IsRun net xs ys
legal-parts net xs ys legal = run-parts net [] xs ys legal

pub next-ring : (net : NetPlan) (past : List RingEntry) (e : RingEntry)
    → ring_after net (past ++ e ∷ []) ≡ after net (ring_after net past) e
next-ring net past e = after_all-push net (opening net) past e

-- nothing of its own
kept-out : (b : Bool) (e : RingEntry) (rest : List RingEntry) → cond b (e ∷ rest) rest ≡ []
    → (b ≡ false) × (rest ≡ [])
kept-out true e rest h = absurd (cc)
kept-out false e rest h = (refl, h)

pub none-by : (n : ℕ) (es : List RingEntry) → own n es ≡ [] → NoneBy n es
none-by n [] none = tt
none-by n (e ∷ es) none =
    let k = kept-out (maker e == n) e (own n es) none in (
      (λ is. let t : (maker e == n) ≡ true =
          eq-eqb (maker e) n is in let f : (maker e == n) ≡ false = k.0 in cc),
      none-by n es k.1,
    )

-- what is said of each own entry and of others' is said of all
own-first : (P : RingEntry → Type 0) (b : Bool) (e : RingEntry) (rest : List RingEntry)
    → Each P (cond b (e ∷ rest) rest) → (b ≡ true → P e) × Each P rest
own-first P true e rest all = (λ _. all.0, all.1)
own-first P false e rest all = (λ is. absurd (let no' : false ≡ true = is in cc), all)

-- a list without a Leave or a Join of the node among its own entries
pub no-leave-or-join : (n : ℕ) (es : List RingEntry)
    → Each (λ (e : RingEntry). IsLeaveOrJoin n e → ⊥) (own n es) → NoLeaveOrJoin n es
no-leave-or-join n [] none = tt
no-leave-or-join n (e ∷ es) none =
    let k = own-first (λ (x : RingEntry). IsLeaveOrJoin n x → ⊥) (maker e == n) e (own n es) none
    in (
      λ is. k.0 (eq-eqb (maker e) n (leave_or_join-made n e is)) is,
      no-leave-or-join n es k.1,
    )

-- entries of others keep where the node stands, if it does not ask to come in
pub membership-kept : (net : NetPlan) (n : ℕ) (past more : List RingEntry) → own n more ≡ []
    → status_at net past n ≢ Asking → status_at net (past ++ more) n ≡ status_at net past n
membership-kept net n past more none asks =
    membership-stays net past more n asks (no-leave-or-join n more
    (subst (Each (λ (e : RingEntry). IsLeaveOrJoin n e → ⊥)) (sym none) tt))

left-asks : (s : NodeStatus) → has_left s ≡ true → s ≢ Asking
left-asks s left e = let no' : false ≡ true = sym (ap has_left e) ∙ left in absurd (cc)

pub left-out : (s : NodeStatus) → has_left s ≡ true → is_in s ≡ false
left-out In left = absurd (let no' : false ≡ true = left in cc)
left-out Away left = refl
left-out Asking left = absurd (let no' : false ≡ true = left in cc)
left-out Gone left = refl

-- whose boxes nobody else changes does not ask to come in
pub free-asks : (net : NetPlan) (n : ℕ) (h : List RingEntry) → IsFree net h n
    → status_at net h n ≢ Asking
free-asks net n h free e = ⊎_elim
    (λ (k : Holds net h n). let no' : false ≡ true = sym (ap is_in e) ∙ k.here in absurd (cc))
    (λ (l : HasLeft net h n). left-asks (status_at net h n) l e) free

-- lists without a Post of a node that asks to come in
pub patient-parts : (net : NetPlan) (n : ℕ) (past xs ys : List RingEntry)
    → ArePatient net n past (xs ++ ys)
    → ArePatient net n past xs × ArePatient net n (past ++ xs) ys
patient-parts net n past [] ys all =
    (tt, subst (λ (l : List RingEntry). ArePatient net n l ys) (sym (append-nil past)) all)
patient-parts net n past (x ∷ xs) ys all =
    let more = patient-parts net n (past ++ x ∷ []) xs ys all.1 in (
      (all.0, more.0),
      subst (λ (l : List RingEntry). ArePatient net n l ys) (append_assoc past (x ∷ []) xs) more.1,
    )

pub patient-joined : (net : NetPlan) (n : ℕ) (past xs ys : List RingEntry)
    → ArePatient net n past xs
    → ArePatient net n (past ++ xs) ys → ArePatient net n past (xs ++ ys)
patient-joined net n past [] ys one more =
    subst (λ (l : List RingEntry). ArePatient net n l ys) (append-nil past) more
patient-joined net n past (x ∷ xs) ys one more = (
  one.0,
  patient-joined net n (past ++ x ∷ []) xs ys one.1
      (subst (λ (l : List RingEntry). ArePatient net n l ys) (sym (append_assoc past (x ∷ []) xs))
      more),
)

pub patient-other : (status : NodeStatus) (n : ℕ) (e : RingEntry) → maker e ≢ n
    → IsPatient status n e
patient-other status n (Post m f) other = λ mine. absurd (other mine)
patient-other status n (Send m heard) other = tt
patient-other status n (Take m f) other = tt
patient-other status n (Local m id op result) other = tt
patient-other status n (GiveUp id word) other = tt
patient-other status n (Pass m done words) other = tt
patient-other status n (Leave m cause) other = tt
patient-other status n (Join m) other = tt

pub patient-calm : (status : NodeStatus) (n : ℕ) (e : RingEntry) → status ≢ Asking
    → IsPatient status n e
patient-calm status n (Post m f) calm = λ mine. calm
patient-calm status n (Send m heard) calm = tt
patient-calm status n (Take m f) calm = tt
patient-calm status n (Local m id op result) calm = tt
patient-calm status n (GiveUp id word) calm = tt
patient-calm status n (Pass m done words) calm = tt
patient-calm status n (Leave m cause) calm = tt
patient-calm status n (Join m) calm = tt

pub patient-others : (net : NetPlan) (n : ℕ) (past es : List RingEntry) → NoneBy n es
    → ArePatient net n past es
patient-others net n past [] none = tt
patient-others net n past (e ∷ es) none = (
  patient-other (status_at net past n) n e none.0,
  patient-others net n (past ++ e ∷ []) es none.1,
)

-- others' entries keep a node on the ring
pub on-others : (net : NetPlan) (n : ℕ) (before between : List RingEntry) → IsOnRing net before n
    → IsLegalRing net (before ++ between) → own n between ≡ [] → IsOnRing net (before ++ between) n
on-others net n before between on legal none = record {
  members = on.members;
  legal = legal;
  member = on.member;
  patient = patient-joined net n [] before between on.patient
      (patient-others net n before between (none-by n between none));
}

pub own-joined : (n : ℕ) (xs ys : List RingEntry) → own n (xs ++ ys) ≡ own n xs ++ own n ys
own-joined n xs ys = filter-append (is_of n) xs ys

pub own-found : (n : ℕ) (before between : List RingEntry) → own n between ≡ []
    → own n (before ++ between) ≡ own n before
own-found n before between none =
    own-joined n before between ∙ (ap (λ l. own n before ++ l) none ∙ append-nil (own n before))

-- others leave the node's part
pub record Found (net : NetPlan) (n : ℕ) (before found : List RingEntry) : Type 0 where
  pub free : IsFree net found n
  pub holds : Holds net before n → Holds net found n
  pub part_is : part net found n ≡ part net before n
  pub own_is : own n found ≡ own n before

pub found-at : (net : NetPlan) (n : ℕ) (before between : List RingEntry)
    → IsLegalRing net (before ++ between) → own n between ≡ [] → IsFree net before n
    → Found net n before (before ++ between)
found-at net n before between legal none free =
    let run = (legal-parts net before between legal).1 in
    ⊎_elim (λ (h : Holds net before n).
    let s : Stays net (ring_after net before) (ring_after net (before ++ between)) n =
    holders-keep net before between n run h.here h.holder (none-by n between none) in
    let now : Holds net (before ++ between) n =
    record { holder = s.holder ∙ h.holder; here = ap is_here s.part ∙ h.here } in
    record {
      free = inl now;
      holds = λ _. now;
      part_is = s.part;
      own_is = own-found n before between none;
    })
    (λ (l : HasLeft net before n).
    let still : HasLeft net (before ++ between) n = ap has_left (membership-kept net n before
    between none (left-asks (status_at net before n) l)) ∙ l in
    record {
      free = inr still;
      holds = λ h. absurd
          (let no' : false ≡ true = sym (left-out (status_at net before n) l) ∙ h.here in cc);
      part_is = outsiders-keep net before between n (left-out _ l) (left-out _ still)
          (none-by n between none);
      own_is = own-found n before between none;
    })
    free

-- a call that added nothing
pub unmoved : (net : NetPlan) (n : ℕ) (alone : Bool) (before after' : List RingEntry)
    → IsOnRing net after' n → WentOn alone
    (is_of n) before [] after' → IsFree net before n → Found net n before after'
unmoved net n alone before after' on w free =
    let is : after' ≡ before ++ w.between = w.after_is ∙ append-nil (before ++ w.between) in
    subst (Found net n before) (sym is)
    (found-at net n before w.between (subst (IsLegalRing net) is on.legal) w.others free)

-- a call that added an entry
pub record Moved (net : NetPlan) (n : ℕ) (before : List RingEntry) (e : RingEntry)
    (after' : List RingEntry) : Type 0 where
  pub past : List RingEntry
  pub found : Found net n before past
  pub on : IsOnRing net past n
  pub step : IsRingStep net past e
  pub ring_is : ring_after net after' ≡ after net (ring_after net past) e
  pub own_is : own n after' ≡ own n before ++ e ∷ []

pub moved : (net : NetPlan) (n : ℕ) (alone : Bool) (before : List RingEntry)
    (e : RingEntry) (after' : List RingEntry) → maker e ≡ n → IsOnRing net after' n
    → WentOn alone (is_of n) before (e ∷ []) after' → IsFree net before n
    → Moved net n before e after'
moved net n alone before e after' mine on w free =
    let past = before ++ w.between in
    let legal : IsLegalRing net (past ++ e ∷ []) = subst (IsLegalRing net) w.after_is on.legal in
    let parts = legal-parts net past (e ∷ []) legal in
    let f = found-at net n before w.between parts.0 w.others free in
    record {
      past = past;
      found = f;
      on = record {
        members = on.members;
        legal = parts.0;
        member = on.member;
        patient = (patient-parts net n [] past (e ∷ [])
            (subst (ArePatient net n []) w.after_is on.patient)).0;
      };
      step = parts.1.0;
      ring_is = ap (ring_after net) w.after_is ∙ next-ring net past e;
      own_is = ap (own n) w.after_is ∙ (own-mine n past e mine ∙ ap (λ l. l ++ e ∷ []) f.own_is);
    }

-- and what it added keeps the node on the ring, where nobody else changes its boxes
pub on-went : (net : NetPlan) (n : ℕ) (alone : Bool) (before : List RingEntry) (e : RingEntry)
    (after' : List RingEntry) → IsOnRing net before n → IsFree net before n
    → IsLegalRing net after' → WentOn alone (is_of n) before (e ∷ []) after'
    → IsOnRing net after' n
on-went net n alone before e after' on free legal w =
    let past = before ++ w.between in
    let whole : IsLegalRing net (past ++ e ∷ []) = subst (IsLegalRing net) w.after_is legal in
    let parts = legal-parts net past (e ∷ []) whole in
    let f = found-at net n before w.between parts.0 w.others free in
    let found = on-others net n before w.between on parts.0 w.others in
    subst (λ (l : List RingEntry). IsOnRing net l n) (sym w.after_is) (record {
      members = on.members;
      legal = whole;
      member = on.member;
      patient = patient-joined net n [] past (e ∷ []) found.patient
          (patient-calm (status_at net past n) n e (free-asks net n past f.free), tt);
    })

-- the part that an entry writes
low : (net : NetPlan) (h : List RingEntry) (n : ℕ) → IsOnRing net h n → n < addresses
low net h n on = All-contains (λ m. m < addresses) net.members n on.members on.member

written : (net : NetPlan) (n : ℕ) (past : List RingEntry) (c : NodeIs) → IsOnRing net past n
    → part_of (set (ring_after net past).nodes n c) n ≡ c
written net n past c on =
    let size = (legal-follows net past n on).size in let range = low net past n on in
    get_or-set_same (ring_after net past).nodes n c (fresh false) (omega (arith, size, range))

-- Post, Take and GiveUp write the node's part and keep who holds the token
pub record Wrote (net : NetPlan) (n : ℕ) (before after' : List RingEntry)
    (c : NodeIs) : Type 0 where
  pub part_is : part net after' n ≡ c
  pub holds : Holds net before n → Holds net after' n
  pub free : IsFree net after' n

wrote-by : (net : NetPlan) (n : ℕ) (before past after' : List RingEntry) (c d : NodeIs)
    → Found net n before past → IsOnRing net
    past n → d.status ≡ (part net past n).status
    → ring_after net after' ≡ record {
      holder = (ring_after net past).holder;
      sent = (ring_after net past).sent;
      nodes = set
          (ring_after net past).nodes n d;
    } → d ≡ c → Wrote net n before after' c
wrote-by net n before past after' c d f on here is same =
    let now : part net after' n ≡ d = ap (λ (r : RingIs). ring_node r n) is
    ∙ written net n past d on in
    let holder : (ring_after net after').holder ≡ (ring_after net past).holder =
    ap (λ (r : RingIs). r.holder) is in
    let still : status_at net after' n ≡ status_at net past n =
    ap (λ (x : NodeIs). x.status) now ∙ here in
    let keep : Holds net past n → Holds net after' n =
    λ h. record { holder = holder ∙ h.holder; here = ap is_in still ∙ h.here } in
    record {
      part_is = now ∙ same;
      holds = λ h. keep (f.holds h);
      free = ⊎_elim (λ (h : Holds net past n). inl (keep h))
          (λ (l : HasLeft net past n). inr (ap has_left still ∙ l)) f.free;
    }

pub after-post : (net : NetPlan) (n : ℕ) (before : List RingEntry) (f : Frame)
    (after' : List RingEntry) → Moved net n before
    (Post n f) after' → Wrote net n before after' (posted (part net before n) f)
after-post net n before f after' m =
    wrote-by net n before m.past after' _ (posted (part net m.past n) f) m.found m.on refl
    m.ring_is (ap (λ (c : NodeIs). posted c f) m.found.part_is)

pub after-take : (net : NetPlan) (n : ℕ) (before : List RingEntry) (f : Frame)
    (after' : List RingEntry) → Moved net n before
    (Take n f) after' → Wrote net n before after' (took (part net before n) f.kind f.id)
after-take net n before f after' m =
    wrote-by net n before m.past after' _ (took (part net m.past n) f.kind f.id) m.found m.on
    refl m.ring_is (ap (λ (c : NodeIs). took c f.kind f.id) m.found.part_is)

pub after-give_up : (net : NetPlan) (n : ℕ) (before : List RingEntry) (id : CallId) (word : ℕ)
    (after' : List RingEntry) → id.node
    ≡ n → Moved net n before (GiveUp id word) after'
    → Wrote net n before after' (gave_up (part net before n) id)
after-give_up net n before id word after' own' m =
    wrote-by net n before m.past after' _ (gave_up (part net m.past n) id) m.found m.on refl
    (m.ring_is ∙ ap (λ (k : ℕ). record {
      holder = (ring_after net m.past).holder;
      sent = (ring_after net m.past).sent;
      nodes = set
          (ring_after net m.past).nodes k (gave_up (ring_node (ring_after net m.past) k) id);
    }) own')
    (ap (λ (c : NodeIs). gave_up c id) m.found.part_is)

pub after-local : (net : NetPlan) (n : ℕ) (before : List RingEntry) (id : CallId) (op : LocalOp)
    (result : MstrResult) (after' : List RingEntry) → Moved net n before
    (Local n id op result) after' → Wrote net n before after' (part net before n)
after-local net n before id op result after' m =
    let same : part net after' n ≡ part net m.past n =
    ap (λ (r : RingIs). ring_node r n) m.ring_is in
    let holder : (ring_after net after').holder ≡ (ring_after net m.past).holder =
    ap (λ (r : RingIs). r.holder) m.ring_is in
    let keep : Holds net m.past n → Holds net after' n =
    λ h. record { holder = holder ∙ h.holder; here = ap is_here same ∙ h.here } in
    record {
      part_is = same ∙ m.found.part_is;
      holds = λ h. keep (m.found.holds h);
      free = ⊎_elim (λ (h : Holds net m.past n). inl (keep h))
          (λ (l : HasLeft net m.past n). inr (ap (λ (c : NodeIs). has_left c.status) same ∙ l))
          m.found.free;
    }

-- the part of a node that handed the token on
handed-part : (net : NetPlan) (n : ℕ) (past : List RingEntry) (c : NodeIs) → IsOnRing net past n
    → part_of (map admitted (set (ring_after net past).nodes n c)) n ≡ admitted c
handed-part net n past c on = admitted-part (set (ring_after net past).nodes n c) n
    ∙ ap admitted (written net n past c on)

-- where a node stands that left
abbrev pub left_status : LeaveCause → NodeStatus
left_status Ended = Gone
left_status Spent = Gone
left_status (Down number) = Away

left-stands : (cause : LeaveCause) (c : NodeIs)
    → (admitted (gone_by cause c)).status ≡ left_status cause
left-stands Ended c = refl
left-stands Spent c = refl
left-stands (Down number) c = refl

left-left : (cause : LeaveCause) → has_left (left_status cause) ≡ true
left-left Ended = refl
left-left Spent = refl
left-left (Down number) = refl

pub leave-status : (net : NetPlan) (n : ℕ) (before : List RingEntry) (cause : LeaveCause)
    (after' : List RingEntry) → Moved net n before (Leave n cause) after'
    → status_at net after' n ≡ left_status cause
leave-status net n before cause after' m =
    ap (λ (r : RingIs). (ring_node r n).status) m.ring_is
    ∙ (ap (λ (c : NodeIs). c.status)
    (handed-part net n m.past (gone_by cause (part net m.past n)) m.on)
    ∙ left-stands cause (part net m.past n))

pub after-leave : (net : NetPlan) (n : ℕ) (before : List RingEntry) (cause : LeaveCause)
    (after' : List RingEntry) → Moved net n
    before (Leave n cause) after' → HasLeft net after' n
after-leave net n before cause after' m =
    ap has_left (leave-status net n before cause after' m) ∙ left-left cause

pub after-pass : (net : NetPlan) (n : ℕ) (before : List RingEntry) (done : Bool) (words : List ℕ)
    (after' : List RingEntry)
    → Moved net n before (Pass n done words) after' → Holds net before n
    → is_here (part net after' n) ≡ true
after-pass net n before done words after' m h =
    ap (λ (r : RingIs). is_here (ring_node r n)) m.ring_is
    ∙ (ap is_here (handed-part net n m.past (after_pass (part net m.past n) done) m.on)
    ∙ stays-in (status_at net m.past n) (m.found.holds h).here)
  where
    stays-in : (s : NodeStatus) → is_in s ≡ true → is_in (admitted_status s) ≡ true
    stays-in In there = refl
    stays-in Away there = absurd (let no' : false ≡ true = there in cc)
    stays-in Asking there = refl
    stays-in Gone there = absurd (let no' : false ≡ true = there in cc)

-- a Reply that is taken is to the Request that its path waits for
first-come : (P : Frame → Type 0) (box : List Frame) (f : Frame) → IsFirst box f → Each P box → P f
first-come P [] f first all = absurd first
first-come P (g ∷ gs) f first all = subst P first all.0

pub record Awaited (n : ℕ) (b : List RingEntry) (f : Frame) : Type 0 where
  pub ask : Frame
  pub waits : waiting f.id.path b ≡ Some ask
  pub is_ask : IsAsk n f.id.path ask
  pub same : ask.id ≡ f.id

awaits-some : (p seq : ℕ) (a : Await) (w : Option Frame) → a ≡ Arrived seq → AwaitsThis a w
    → (g : Frame) × (w ≡ Some g) × (g.id.seq ≡ seq)
awaits-some p seq Nothing w e k = absurd (cc)
awaits-some p seq (Out s to onward passes) w e k = absurd (cc)
awaits-some p seq (Failed s word) w e k = absurd (cc)
awaits-some p seq (Arrived s) None e k = absurd k
awaits-some p seq (Arrived s) (Some g) e k = let same : s ≡ seq = cc in (g, refl, sym k ∙ same)

pub reply-awaited : (net : NetPlan) (n : ℕ) (before : List RingEntry) (f : Frame) (after' : List
    RingEntry) → f.kind ≡ Reply → Moved net n before (Take n f) after' → Awaited n (own n before) f
reply-awaited net n before f after' kind m =
    let follows = (legal-follows net m.past n m.on).node.part in
    let came : HasCome n (part net m.past n).paths f = first-come
    (HasCome n (part net m.past n).paths) (part net m.past n).inbox f m.step.1.1 follows.comes in
    let reply : CameOn n (part net m.past n).paths Reply f.id =
    subst (λ (k : FrameKind). CameOn n (part net m.past n).paths k f.id) kind came in
    let w = awaits-some f.id.path f.id.seq _ (waiting f.id.path (own n m.past)) reply.0
    (follows.paths f.id.path) in
    let ask = follows.asks f.id.path w.0 w.1 in
    record {
      ask = w.0;
      waits = ap (waiting f.id.path) (sym m.found.own_is) ∙ w.1;
      is_ask = ask;
      same = λ i. record { node = (ask.node ∙ sym reply.1) i; path = ask.path i; seq = w.2 i };
    }

-- a Request that is taken is of another node
pub request-of-other : (net : NetPlan) (n : ℕ) (before : List RingEntry) (f : Frame)
    (after' : List RingEntry) → f.kind ≡ Request
    → Moved net n before (Take n f) after' → f.id.node ≢ n
request-of-other net n before f after' kind m =
    let follows = (legal-follows net m.past n m.on).node.part in
    let came : HasCome n (part net m.past n).paths f = first-come
    (HasCome n (part net m.past n).paths) (part net m.past n).inbox f m.step.1.1 follows.comes in
    subst (λ (k : FrameKind). CameOn n (part net m.past n).paths k f.id) kind came
