-- Who holds the token is a member of the plan, or there is none.
use Rattle.std.proofs.Common.{◌≡◌, ◌⊎◌, ℕ, zero, suc, ◌+◌, ◌<◌, true, false, cond, List, []}
use Rattle.std.proofs.Common.{◌∷◌, ◌++◌, length, set, drop, replicate, All, Contains, refl, sym}
use Rattle.std.proofs.Common.{ap, subst, ◌∙◌, arith, inl, inr, ⊎_elim, append-nil, append_assoc}
use Rattle.std.proofs.Common.{get_or-set_same}
use Rattle.std.proofs.lemmas.Bool.{cases_Bool, cases_eq, cond_both}
use Rattle.std.proofs.lemmas.List.{get_or-drop, length_push}
use Rattle.ring_core.specs.Words.{NetPlan, RingEntry, Post, Send, Take, Local, GiveUp, Pass, Leave}
use Rattle.ring_core.specs.Words.{Join, maker, Frame, In, Asking, Gone}
use Rattle.ring_core.specs.Machine.{NodeIs, RingIs, addresses, fresh, part_of, ring_node, is_here}
use Rattle.ring_core.specs.Machine.{is_in, is_held, with_status, made_asking, after, opening}
use Rattle.ring_core.specs.Machine.{opening_nodes}
use Rattle.ring_core.specs.Machine.{with_members, least_from, or_else, successor, sent_head}
use Rattle.ring_core.specs.Machine.{ring_after}
use Rattle.ring_core.specs.Legal.{IsLawful, IsMember, IsRingStep, IsRun, IsTimelyEntry}
use Rattle.ring_core.specs.Stability.{HolderIsMember}
use Rattle.ring_core.specs.Kept.{IsSoundRing}
use Rattle.ring_core.proofs.Runs.{after_all-push}
use Rattle.ring_core.proofs.Sound.{after-sound, each-replicate, opening-sound}
use Rattle.ring_core.proofs.Keeping.{member-low}
use Rattle.ring_core.proofs.Stability.{away-left, first_none, leave_or_join-made, out, status-sent}
use Rattle.ring_core.proofs.Stability.{status-set, step-status}

abbrev Nobody : List NodeIs → Type 0
Nobody nodes = (k : ℕ) → is_here (part_of nodes k) ≡ false

-- the least place at which somebody is
record IsLeast (nodes : List NodeIs) (at least : ℕ) : Type 0 where
  pub behind : ℕ
  pub is : least ≡ at + behind
  pub there : is_here (part_of nodes behind) ≡ true

abbrev IsLeastOrNone : List NodeIs → ℕ → ℕ → Type 0
IsLeastOrNone nodes at least = IsLeast nodes at least ⊎ ((least ≡ 0) × Nobody nodes)

least-more : (c : NodeIs) (cs : List NodeIs) (at : ℕ) → is_here c ≡ false
    → IsLeastOrNone cs (at + 1) (least_from cs (at + 1))
    → IsLeastOrNone (c ∷ cs) at (least_from cs (at + 1))
least-more c cs at no' found = ⊎_elim
    (λ (l : IsLeast cs (at + 1) (least_from cs (at + 1))).
    inl (record { behind = suc l.behind; is = let e = l.is in omega (arith, e); there = l.there }))
    (λ (none : (least_from cs (at + 1) ≡ 0) × Nobody cs). inr (none.0, none-there none.1))
    found where
      none-there : Nobody cs → Nobody (c ∷ cs)
      none-there none zero = no'
      none-there none (suc k) = none k

least-there : (nodes : List NodeIs) (at : ℕ) → IsLeastOrNone nodes at (least_from nodes at)
least-there [] at = inr (refl, λ k. refl)
least-there (c ∷ cs) at = ⊎_elim
    (λ (there : is_here c ≡ true).
    inl (record {
      behind = 0;
      is = ap (λ b. cond b at (least_from cs (at + 1))) there ∙ omega arith;
      there = there;
    }))
    (λ (no' : is_here c ≡ false).
    subst (IsLeastOrNone (c ∷ cs) at) (sym (ap (λ b. cond b at (least_from cs (at + 1))) no'))
    (least-more c cs at no' (least-there cs (at + 1))))
    (cases_Bool (is_here c))

or-first : (a b : ℕ) → 0 < a → or_else a b ≡ a
or-first zero b low = absurd (omega (arith, low))
or-first (suc a) b low = refl

-- a place at which somebody is, or 0 where nobody is
abbrev IsThereOrNobody : List NodeIs → ℕ → Type 0
IsThereOrNobody nodes n = (is_here (part_of nodes n) ≡ true) ⊎ ((n ≡ 0) × Nobody nodes)

first-there : (nodes : List NodeIs) → IsThereOrNobody nodes (least_from nodes 0)
first-there nodes = ⊎_elim
    (λ (l : IsLeast nodes 0 (least_from nodes 0)).
    let at : least_from nodes 0 ≡ l.behind = let e = l.is in omega (arith, e) in
    inl (ap (λ k. is_here (part_of nodes k)) at ∙ l.there))
    (λ (none : (least_from nodes 0 ≡ 0) × Nobody nodes). inr none)
    (least-there nodes 0)

successor-there : (nodes : List NodeIs) (n : ℕ) → IsThereOrNobody nodes (successor nodes n)
successor-there nodes n =
    let rest = drop (n + 1) nodes in
    let above = least_from rest (n + 1) in
    ⊎_elim
    (λ (l : IsLeast rest (n + 1) above).
    let is : successor nodes n ≡ (n + 1) + l.behind =
    or-first above (least_from nodes 0) (let e = l.is in omega (arith, e)) ∙ l.is in
    inl (ap (λ k. is_here (part_of nodes k)) is
    ∙ (ap is_here (sym (get_or-drop (n + 1) nodes l.behind (fresh false))) ∙ l.there)))
    (λ (none : (above ≡ 0) × Nobody rest).
    subst (IsThereOrNobody nodes) (sym (ap (λ a. or_else a (least_from nodes 0)) none.0))
    (first-there nodes))
    (least-there rest (n + 1))

-- who holds the token is there, or nobody is and it is 0
abbrev HolderIsThere : RingIs → Type 0
HolderIsThere r = IsThereOrNobody r.nodes r.holder

there-as : (nodes other : List NodeIs) (n : ℕ)
    → ((k : ℕ) → (part_of other k).status ≡ (part_of nodes k).status) → IsThereOrNobody nodes n
    → IsThereOrNobody other n
there-as nodes other n same is = ⊎_elim
    (λ (there : is_here (part_of nodes n) ≡ true). inl (ap is_in (same n) ∙ there))
    (λ (none : (n ≡ 0) × Nobody nodes). inr (none.0, λ k. ap is_in (same k) ∙ none.1 k))
    is

sent-there : (net : NetPlan) (r : RingIs) (m : ℕ) (box : List Frame) → HolderIsThere r
    → HolderIsThere (sent_head net r m box)
sent-there net r m [] is = is
sent-there net r m (f ∷ fs) is =
    there-as r.nodes (sent_head net r m (f ∷ fs)).nodes r.holder
    (λ k. status-sent net r m (f ∷ fs) k) is

-- who asks to come in was no member, and does not hold the token
joined-there : (r : RingIs) (n : ℕ) → n < length r.nodes → is_here (ring_node r n) ≡ false
    → HolderIsThere (made_asking r n)
joined-there r n range left = cond_both (is_held r) _ _ HolderIsThere
    (λ (held : is_held r ≡ true).
    inl (ap is_here (out r.nodes r.holder n _ (λ (e : n ≡ r.holder).
    let no' : false ≡ true = sym left ∙ (ap (λ (k : ℕ). is_here (ring_node r k)) e ∙ held) in
    absurd (cc))) ∙ held))
    (λ _. inl (ap is_here
    (get_or-set_same r.nodes n (with_status (ring_node r n) In) (fresh false) range)))

step-there : (net : NetPlan) (past : List RingEntry) (r : RingIs) (e : RingEntry)
    → IsTimelyEntry net past r e → maker e < length r.nodes → HolderIsThere r
    → HolderIsThere (after net r e)
step-there net past r (Post m f) t range is =
    there-as r.nodes _ r.holder (λ k. status-set r.nodes m k _ refl) is
step-there net past r (Send m heard) t range is = sent-there net r m (ring_node r m).outbox is
step-there net past r (Take m f) t range is =
    there-as r.nodes _ r.holder (λ k. status-set r.nodes m k _ refl) is
step-there net past r (Local m id op result) t range is = is
step-there net past r (GiveUp id word) t range is =
    there-as r.nodes _ r.holder (λ k. status-set r.nodes id.node k _ refl) is
step-there net past r (Pass m done words) t range is = successor-there _ m
step-there net past r (Leave m cause) t range is = successor-there _ m
step-there net past r (Join m) t range is =
    joined-there r m range (away-left (ring_node r m).status (first_none _ _ t))

-- whoever is no node of the plan is gone
abbrev IsPlanned : NetPlan → RingIs → ℕ → Type 0
IsPlanned net r n = IsMember net n ⊎ ((ring_node r n).status ≡ Gone)

lawful-maker : (net : NetPlan) (e : RingEntry) → IsLawful net e → IsMember net (maker e)
lawful-maker net (Post n f) law = law.0
lawful-maker net (Send n heard) law = law
lawful-maker net (Take n f) law = law
lawful-maker net (Local n id op result) law = law.0
lawful-maker net (GiveUp id word) law = law.0
lawful-maker net (Pass n done words) law = law
lawful-maker net (Leave n cause) law = law
lawful-maker net (Join n) law = law

step-planned : (net : NetPlan) (r : RingIs) (e : RingEntry) → IsMember net (maker e) → (n : ℕ)
    → IsPlanned net r n → IsPlanned net (after net r e) n
step-planned net r e member n p = ⊎_elim
    (λ (own : maker e ≡ n). inl (subst (IsMember net) own member))
    (λ (other : maker e ≡ n → ⊥). ⊎_elim (λ (in_plan : IsMember net n). inl in_plan)
    (λ (gone : (ring_node r n).status ≡ Gone).
    inr (step-status net r n e (λ asks. let no' : Gone ≡ Asking = sym gone ∙ asks in absurd (cc))
    (λ is. other (leave_or_join-made n e is)) ∙ gone))
    p)
    (cases_eq (maker e) n)

-- what a legal history keeps
record IsTended (net : NetPlan) (k : ℕ) (r : RingIs) : Type 0 where
  pub sound : IsSoundRing k r
  pub there : HolderIsThere r
  pub planned : (n : ℕ) → IsPlanned net r n

step-tended : (net : NetPlan) (past : List RingEntry) (e : RingEntry)
    → All (λ m. m < addresses) net.members → IsRingStep net past e
    → IsTended net (length past) (ring_after net past)
    → IsTended net (length past + 1) (after net (ring_after net past) e)
step-tended net past e low step i =
    let r = ring_after net past in
    let member = lawful-maker net e step.0 in
    let range : maker e < length r.nodes =
    subst (λ (size : ℕ). maker e < size) (sym i.sound.size) (member-low net (maker e) low member) in
    record {
      sound = after-sound net (length past) r e i.sound;
      there = step-there net past r e step.1 range i.there;
      planned = λ n. step-planned net r e member n (i.planned n);
    }

run-tended : (net : NetPlan) (past es : List RingEntry) → All (λ m. m < addresses) net.members
    → IsRun net past es → IsTended net (length past) (ring_after net past)
    → IsTended net (length (past ++ es)) (ring_after net (past ++ es))
run-tended net past [] low run i =
    subst (λ (l : List RingEntry). IsTended net (length l) (ring_after net l))
    (sym (append-nil past)) i
run-tended net past (e ∷ es) low run i =
    let more = past ++ e ∷ [] in
    let one : IsTended net (length more) (after net (ring_after net past) e) =
    subst (λ (k : ℕ). IsTended net k (after net (ring_after net past) e))
    (sym (length_push past e)) (step-tended net past e low run.0 i) in
    subst (λ (l : List RingEntry). IsTended net (length l) (ring_after net l))
    (append_assoc past (e ∷ []) es)
    (run-tended net more es low run.1 (subst (IsTended net (length more))
    (sym (after_all-push net (opening net) past e)) one))

-- at first only the nodes of the plan are there
opened : (nodes : List NodeIs) (ms : List ℕ) (k : ℕ) → Contains ms k
    ⊎ ((part_of (with_members nodes ms) k).status ≡ (part_of nodes k).status)
opened nodes [] k = inr refl
opened nodes (m ∷ ms) k = ⊎_elim
    (λ (later : Contains ms k). inl (suc later.0, omega (arith, later.1), later.2))
    (λ (same : _). ⊎_elim (λ (it : m ≡ k). inl (0, omega arith, it))
    (λ (other : m ≡ k → ⊥). inr (same ∙ ap (λ (c : NodeIs). c.status) (out nodes k m _ other)))
    (cases_eq m k))
    (opened (set nodes m (fresh true)) ms k)

opening-tended : (net : NetPlan) → IsTended net 0 (opening net)
opening-tended net =
    let first : List NodeIs = replicate addresses (fresh false) in
    record {
      sound = opening-sound net;
      there = first-there (opening_nodes net.members);
      planned = λ n. ⊎_elim (λ (in_plan : IsMember net n). inl in_plan)
          (λ (same : (ring_node (opening net) n).status ≡ (part_of first n).status).
          let gone = each-replicate (λ (c : NodeIs). c.status ≡ Gone) addresses (fresh false) in
          inr (same ∙ gone refl n))
          (opened first net.members n);
    }

pub holder-is-member : HolderIsMember
holder-is-member net history low legal =
    let r = ring_after net history in
    let i = run-tended net [] history low legal (opening-tended net) in
    ⊎_elim
    (λ (there : is_here (ring_node r r.holder) ≡ true). inl (
      there,
      ⊎_elim
          (λ (in_plan : IsMember net r.holder). in_plan)
          (λ (gone : (ring_node r r.holder).status ≡ Gone).
          let no' : false ≡ true = sym (ap is_in gone) ∙ there in absurd (cc))
          (i.planned r.holder),
    ))
    (λ (none : (r.holder ≡ 0) × Nobody r.nodes). inr none)
    i.there
