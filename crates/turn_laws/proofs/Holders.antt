-- Who holds the token is in, as long as anybody is; and where nodes stand while others have turns.
use Rattle.std.proofs.Common.{◌≡◌, ◌≢◌, ◌⊎◌, ℕ, zero, suc, ◌<◌, true, false, List, []}
use Rattle.std.proofs.Common.{◌∷◌, ◌++◌, length, set, map, replicate, refl, sym, ap, subst}
use Rattle.std.proofs.Common.{◌∙◌, arith, inl, inr, ⊎_elim, append-nil, append_assoc}
use Rattle.std.proofs.lemmas.Bool.{cases_eq, cond_both}
use Rattle.std.proofs.lemmas.List.{length-set, length-replicate}
use Rattle.std.specs.List.{Contains, slice_index_or}
use Rattle.plant_types.specs.declared.net.NetPlan.{NetPlan}
use Rattle.ring_core.specs.declared.entry.RingEntry.{RingEntry}
use Rattle.ring_core.specs.declared.entry.RingEntry.TheVariants.{Post, Send, Take, Local, GiveUp}
use Rattle.ring_core.specs.declared.entry.RingEntry.TheVariants.{Pass, Leave, Join}
use Rattle.ring_core.specs.declared.status.NodeStatus.{NodeStatus}
use Rattle.ring_core.specs.declared.status.NodeStatus.TheVariants.{In, Away, Asking, Gone}
use Rattle.ring_core.specs.Words.{maker}
use Rattle.ring_core.specs.Machine.{NodeIs, RingIs, addresses, admitted, admitted_status, after}
use Rattle.ring_core.specs.Machine.{after_pass, fresh, is_held, is_here, is_in, opening, part_of}
use Rattle.ring_core.specs.Machine.{ring_after, ring_node, with_members, with_status}
use Rattle.ring_core.specs.Legal.{IsLawful, IsLegalRing, IsMember, IsRingStep, IsRun}
use Rattle.ring_core.specs.Stability.{HolderIsMember}
use Rattle.ring_core.proofs.Stability.{admitted-part, away-left, first_none, out, status-sent}
use Rattle.ring_core.proofs.Stability.{status-set}
use Rattle.tied_lists.specs.Own.{own}
use Rattle.tied_lists.specs.Waits.{has_left, status_at}
use Rattle.tied_lists.proofs.Turns.{membership-kept, next-ring, none-by}
use Rattle.ring_core.specs.Stability.{NoneBy}
use Rattle.turn_laws.specs.Laws.{SomebodyHolds}

abbrev status_of : RingIs → ℕ → NodeStatus
status_of r n = (ring_node r n).status

-- ---- while others have turns

admitted-left : (s : NodeStatus) → has_left (admitted_status s) ≡ has_left s
admitted-left In = refl
admitted-left Away = refl
admitted-left Asking = refl
admitted-left Gone = refl

-- an entry of another node leaves whether a node has left
left-step : (net : NetPlan) (r : RingIs) (n : ℕ) (e : RingEntry) → maker e ≢ n
    → has_left (status_of (after net r e) n) ≡ has_left (status_of r n)
left-step net r n (Post m f) other = ap has_left (status-set r.nodes m n _ refl)
left-step net r n (Send m heard) other =
    ap has_left (status-sent net r m (ring_node r m).outbox n)
left-step net r n (Take m f) other = ap has_left (status-set r.nodes m n _ refl)
left-step net r n (Local m id op result) other = refl
left-step net r n (GiveUp id word) other = ap has_left (status-set r.nodes id.node n _ refl)
left-step net r n (Pass m done words) other =
    ap (λ (c : NodeIs). has_left c.status)
    (admitted-part (set r.nodes m (after_pass (ring_node r m) done)) n)
    ∙ (admitted-left (part_of (set r.nodes m (after_pass (ring_node r m) done)) n).status
    ∙ ap has_left (status-set r.nodes m n _ refl))
left-step net r n (Leave m cause) other =
    ap (λ (c : NodeIs). has_left c.status) (admitted-part (set r.nodes m _) n)
    ∙ (admitted-left (part_of (set r.nodes m _) n).status
    ∙ ap (λ (c : NodeIs). has_left c.status) (out r.nodes n m _ other))
left-step net r n (Join m) other = cond_both (is_held r) _ _
    (λ (x : RingIs). has_left (status_of x n) ≡ has_left (status_of r n))
    (λ _. ap (λ (c : NodeIs). has_left c.status) (out r.nodes n m _ other))
    (λ _. ap (λ (c : NodeIs). has_left c.status) (out r.nodes n m _ other))

left-none : (net : NetPlan) (n : ℕ) (past more : List RingEntry) → NoneBy n more
    → has_left (status_at net (past ++ more) n) ≡ has_left (status_at net past n)
left-none net n past [] none =
    ap (λ (l : List RingEntry). has_left (status_at net l n)) (append-nil past)
left-none net n past (e ∷ es) none =
    ap (λ (l : List RingEntry). has_left (status_at net l n)) (sym (append_assoc past (e ∷ []) es))
    ∙ (left-none net n (past ++ e ∷ []) es none.1
    ∙ (ap (λ (x : RingIs). has_left (status_of x n)) (next-ring net past e)
    ∙ left-step net (ring_after net past) n e none.0))

pub left-others : (net : NetPlan) (n : ℕ) (past more : List RingEntry) → own n more ≡ []
    → has_left (status_at net (past ++ more) n) ≡ has_left (status_at net past n)
left-others net n past more none = left-none net n past more (none-by n more none)

-- whose node is away behind the turns of others was away before
pub away-others : (net : NetPlan) (n : ℕ) (past more : List RingEntry) → own n more ≡ []
    → status_at net (past ++ more) n ≡ Away → status_at net past n ≡ Away
away-others net n past more none away =
    let left : has_left (status_at net past n) ≡ true =
    sym (left-others net n past more none) ∙ ap has_left away in
    sym (membership-kept net n past more none (λ asks.
    let no' : false ≡ true = sym (ap has_left asks) ∙ left in absurd (cc))) ∙ away

-- ---- where no node is in

abbrev NobodyIn : RingIs → Type 0
NobodyIn r = (k : ℕ) → is_in (status_of r k) ≡ false

-- where no node is in, none asks to come in
abbrev LeavesNone : RingIs → Type 0
LeavesNone r = NobodyIn r → (k : ℕ) → has_left (status_of r k) ≡ true

none-as : (r s : RingIs) → ((k : ℕ) → status_of s k ≡ status_of r k) → LeavesNone r → LeavesNone s
none-as r s same is none k =
    ap has_left (same k) ∙ is (λ j. ap is_in (sym (same j)) ∙ none j) k

calm : (s : NodeStatus) → is_in (admitted_status s) ≡ false → has_left (admitted_status s) ≡ true
calm In out' = absurd (let no' : true ≡ false = out' in cc)
calm Away out' = refl
calm Asking out' = absurd (let no' : true ≡ false = out' in cc)
calm Gone out' = refl

none-admitted : (nodes : List NodeIs) (k : ℕ)
    → is_in (part_of (map admitted nodes) k).status ≡ false
    → has_left (part_of (map admitted nodes) k).status ≡ true
none-admitted nodes k none =
    let part = admitted-part nodes k in
    ap (λ (c : NodeIs). has_left c.status) part
    ∙ calm (part_of nodes k).status (sym (ap (λ (c : NodeIs). is_in c.status) part) ∙ none)

-- a write at a place, or none
set-or : (nodes : List NodeIs) (m : ℕ) (c : NodeIs)
    → (part_of (set nodes m c) m ≡ c) ⊎ (set nodes m c ≡ nodes)
set-or [] m c = inr refl
set-or (d ∷ ds) zero c = inl refl
set-or (d ∷ ds) (suc m) c = ⊎_elim (λ (it : part_of (set ds m c) m ≡ c). inl it)
    (λ (same : set ds m c ≡ ds). inr (λ i. d ∷ same i)) (set-or ds m c)

none-joined : (r : RingIs) (m : ℕ) → is_in (status_of r m) ≡ false → LeavesNone r
    → LeavesNone (Rattle.ring_core.specs.Machine.made_asking r m)
none-joined r m left is = cond_both (is_held r) _ _ LeavesNone
    (λ (held : is_held r ≡ true).
    let other : m ≢ r.holder = λ e.
    let no' : false ≡ true = sym left ∙ (ap (λ (k : ℕ). is_in (status_of r k)) e ∙ held) in
    absurd (cc) in
    λ none. let no' : true ≡ false = sym held
    ∙ (ap is_here (sym (out r.nodes r.holder m _ other)) ∙ none r.holder) in absurd (cc))
    (λ _. ⊎_elim
    (λ (it : part_of (set r.nodes m (with_status (ring_node r m) In)) m
    ≡ with_status (ring_node r m) In). λ none.
    let no' : true ≡ false = sym (ap is_here it) ∙ none m in absurd (cc))
    (λ (same : set r.nodes m (with_status (ring_node r m) In) ≡ r.nodes).
    none-as r (record {
      holder = m;
      sent = r.sent;
      nodes = set r.nodes m (with_status (ring_node r m) In);
    }) (λ k. ap (λ (l : List NodeIs). (part_of l k).status) same) is)
    (set-or r.nodes m (with_status (ring_node r m) In)))

step-none : (net : NetPlan) (past : List RingEntry) (e : RingEntry) → IsRingStep net past e
    → LeavesNone (ring_after net past) → LeavesNone (after net (ring_after net past) e)
step-none net past (Post m f) step is =
    let r = ring_after net past in
    none-as r (after net r (Post m f)) (λ k. status-set r.nodes m k _ refl) is
step-none net past (Send m heard) step is =
    let r = ring_after net past in
    none-as r (after net r (Send m heard)) (λ k. status-sent net r m (ring_node r m).outbox k) is
step-none net past (Take m f) step is =
    let r = ring_after net past in
    none-as r (after net r (Take m f)) (λ k. status-set r.nodes m k _ refl) is
step-none net past (Local m id op result) step is = is
step-none net past (GiveUp id word) step is =
    let r = ring_after net past in
    none-as r (after net r (GiveUp id word)) (λ k. status-set r.nodes id.node k _ refl) is
step-none net past (Pass m done words) step is = λ none k. none-admitted _ k (none k)
step-none net past (Leave m cause) step is = λ none k. none-admitted _ k (none k)
step-none net past (Join m) step is =
    let r = ring_after net past in
    none-joined r m (away-left (ring_node r m).status (first_none _ _ step.1)) is

run-none : (net : NetPlan) (past es : List RingEntry) → IsRun net past es
    → LeavesNone (ring_after net past) → LeavesNone (ring_after net (past ++ es))
run-none net past [] run is =
    subst (λ (l : List RingEntry). LeavesNone (ring_after net l)) (sym (append-nil past)) is
run-none net past (e ∷ es) run is =
    subst (λ (l : List RingEntry). LeavesNone (ring_after net l)) (append_assoc past (e ∷ []) es)
    (run-none net (past ++ e ∷ []) es run.1
    (subst LeavesNone (sym (next-ring net past e)) (step-none net past e run.0 is)))

-- at first each node of the plan is in, and the others are gone
opened : (nodes : List NodeIs) (ms : List ℕ) (k : ℕ)
    → ((part_of (with_members nodes ms) k).status ≡ In)
    ⊎ (part_of (with_members nodes ms) k ≡ part_of nodes k)
opened nodes [] k = inr refl
opened nodes (m ∷ ms) k = ⊎_elim
    (λ (it : (part_of (with_members (set nodes m (fresh true)) ms) k).status ≡ In). inl it)
    (λ (same : part_of (with_members (set nodes m (fresh true)) ms) k
    ≡ part_of (set nodes m (fresh true)) k). ⊎_elim
    (λ (e : m ≡ k). ⊎_elim
    (λ (it : part_of (set nodes m (fresh true)) m ≡ fresh true).
    inl (ap (λ (c : NodeIs). c.status) (same
    ∙ (ap (part_of (set nodes m (fresh true))) (sym e) ∙ it))))
    (λ (none : set nodes m (fresh true) ≡ nodes).
    inr (same ∙ ap (λ (l : List NodeIs). part_of l k) none))
    (set-or nodes m (fresh true)))
    (λ (other : m ≡ k → ⊥). inr (same ∙ out nodes k m _ other))
    (cases_eq m k))
    (opened (set nodes m (fresh true)) ms k)

fresh-gone : (size k : ℕ) → (part_of (replicate size (fresh false)) k).status ≡ Gone
fresh-gone zero k = refl
fresh-gone (suc size) zero = refl
fresh-gone (suc size) (suc k) = fresh-gone size k

opening-none : (net : NetPlan) → LeavesNone (opening net)
opening-none net none k = ⊎_elim
    (λ (it : status_of (opening net) k ≡ In).
    let no' : true ≡ false = sym (ap is_in it) ∙ none k in absurd (cc))
    (λ (same : ring_node (opening net) k ≡ part_of (replicate addresses (fresh false)) k).
    ap (λ (c : NodeIs). has_left c.status) same ∙ ap has_left (fresh-gone addresses k))
    (opened (replicate addresses (fresh false)) net.members k)

pub in-of : (s : NodeStatus) → is_in s ≡ true → s ≡ In
in-of In there = refl
in-of Away there = absurd (let no' : false ≡ true = there in cc)
in-of Asking there = absurd (let no' : false ≡ true = there in cc)
in-of Gone there = absurd (let no' : false ≡ true = there in cc)

pub somebody-holds : HolderIsMember → SomebodyHolds
somebody-holds law net ring low legal =
    let r = ring_after net ring in
    ⊎_elim
    (λ (there : _ × _). inl (in-of (status_of r r.holder) there.0))
    (λ (nobody : _ × _). inr (nobody.0, run-none net [] ring legal (opening-none net) nobody.1))
    (law net ring low legal)

-- ---- only nodes of the plan are ever in, or ask to come in

lawful-maker : (net : NetPlan) (e : RingEntry) → IsLawful net e → IsMember net (maker e)
lawful-maker net (Post n f) law = law.0
lawful-maker net (Send n heard) law = law
lawful-maker net (Take n f) law = law
lawful-maker net (Local n id op result) law = law.0
lawful-maker net (GiveUp id word) law = law.0
lawful-maker net (Pass n done words) law = law
lawful-maker net (Leave n cause) law = law
lawful-maker net (Join n) law = law

abbrev IsPlanned : NetPlan → RingIs → ℕ → Type 0
IsPlanned net r n = has_left (status_of r n) ≡ false → IsMember net n

run-planned : (net : NetPlan) (past es : List RingEntry) (n : ℕ) → IsRun net past es
    → IsPlanned net (ring_after net past) n → IsPlanned net (ring_after net (past ++ es)) n
run-planned net past [] n run is =
    subst (λ (l : List RingEntry). IsPlanned net (ring_after net l) n) (sym (append-nil past)) is
run-planned net past (e ∷ es) n run is =
    subst (λ (l : List RingEntry). IsPlanned net (ring_after net l) n)
    (append_assoc past (e ∷ []) es)
    (run-planned net (past ++ e ∷ []) es n run.1 (⊎_elim
    (λ (mine : maker e ≡ n). λ _. subst (IsMember net) mine (lawful-maker net e run.0.0))
    (λ (other : maker e ≡ n → ⊥). λ here. is (sym (left-step net (ring_after net past) n e other)
    ∙ (ap (λ (x : RingIs). has_left (status_of x n)) (sym (next-ring net past e)) ∙ here)))
    (cases_eq (maker e) n)))

members-or : (nodes : List NodeIs) (ms : List ℕ) (k : ℕ)
    → Contains ms k ⊎ (part_of (with_members nodes ms) k ≡ part_of nodes k)
members-or nodes [] k = inr refl
members-or nodes (m ∷ ms) k = ⊎_elim
    (λ (later : Contains ms k). inl (suc later.0, omega (arith, later.1), later.2))
    (λ (same : _). ⊎_elim (λ (it : m ≡ k). inl (0, omega arith, it))
    (λ (other : m ≡ k → ⊥). inr (same ∙ out nodes k m _ other))
    (cases_eq m k))
    (members-or (set nodes m (fresh true)) ms k)

pub there-member : (net : NetPlan) (history : List RingEntry) (n : ℕ) → IsLegalRing net history
    → is_in (status_at net history n) ≡ true → IsMember net n
there-member net history n legal there =
    run-planned net [] history n legal (λ here. ⊎_elim
    (λ (c : Contains net.members n). c)
    (λ (same : ring_node (opening net) n ≡ part_of (replicate addresses (fresh false)) n).
    let no' : false ≡ true = sym here ∙ (ap (λ (c : NodeIs). has_left c.status) same
    ∙ ap has_left (fresh-gone addresses n)) in absurd (cc))
    (members-or (replicate addresses (fresh false)) net.members n))
    (ap has_left (in-of (status_at net history n) there))

-- ---- at first all members are in

set-true : (nodes : List NodeIs) (m k : ℕ) → is_here (part_of nodes k) ≡ true
    → is_here (part_of (set nodes m (fresh true)) k) ≡ true
set-true [] m k there = there
set-true (d ∷ ds) zero zero there = refl
set-true (d ∷ ds) zero (suc k) there = there
set-true (d ∷ ds) (suc m) zero there = there
set-true (d ∷ ds) (suc m) (suc k) there = set-true ds m k there

stays-true : (nodes : List NodeIs) (ms : List ℕ) (k : ℕ) → is_here (part_of nodes k) ≡ true
    → is_here (part_of (with_members nodes ms) k) ≡ true
stays-true nodes [] k there = there
stays-true nodes (m ∷ ms) k there =
    stays-true (set nodes m (fresh true)) ms k (set-true nodes m k there)

set-it : (nodes : List NodeIs) (m : ℕ) → m < length nodes
    → is_here (part_of (set nodes m (fresh true)) m) ≡ true
set-it [] m low = absurd (omega (arith, low))
set-it (d ∷ ds) zero low = refl
set-it (d ∷ ds) (suc m) low = set-it ds m (omega (arith, low))

all-in : (nodes : List NodeIs) (ms : List ℕ) (k n : ℕ) → n < length nodes → k < length ms
    → slice_index_or ms k n ≡ n
    → is_here (part_of (with_members nodes ms) n) ≡ true
all-in nodes [] k n low within is = absurd (omega (arith, within))
all-in nodes (m ∷ ms) zero n low within is =
    stays-true (set nodes m (fresh true)) ms n (subst
    (λ (x : ℕ). is_here (part_of (set nodes x (fresh true)) n) ≡ true) (sym is)
    (set-it nodes n low))
all-in nodes (m ∷ ms) (suc k) n low within is =
    all-in (set nodes m (fresh true)) ms k n
    (let size = length-set nodes m (fresh true) in omega (arith, size, low))
    (omega (arith, within)) is

pub member-there : (net : NetPlan) (n : ℕ) → n < addresses → IsMember net n
    → status_at net [] n ≡ In
member-there net n low member =
    in-of (status_at net [] n)
    (all-in (replicate addresses (fresh false)) net.members member.0 n
    (let size = length-replicate addresses (fresh false) in omega (arith, size, low))
    member.1 member.2)
