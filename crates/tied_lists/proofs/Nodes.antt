-- What a node's part follows, its own list being known, and as others go on.
use Rattle.std.proofs.Common.{◌≡◌, ◌≢◌, ℕ, zero, suc, ◌<◌, ◌==◌, Bool, true}
use Rattle.std.proofs.Common.{false, cond, List, [], ◌∷◌, ◌++◌, get_or, set, length}
use Rattle.std.proofs.Common.{All, Option, Some, None, refl, sym, ap}
use Rattle.std.proofs.Common.{◌∙◌, subst, inl, inr, ◌⊎◌, ⊎_elim, arith, get_or-set_same}
use Rattle.std.proofs.Common.{get_or-set_other, append-nil}
use Rattle.std.specs.List.{AllByRecursion as Each}
use Rattle.std.proofs.lemmas.Bool.{eqb-true, eq-eqb, ne_eqb, cond_both}
use Rattle.std.proofs.lemmas.List.{length-set, length-map}
use Rattle.std.proofs.lemmas.List.Elements.{filter-append, All-contains}
use Rattle.ring_core.specs.declared.refusal.RingNo.{RingNo}
use Rattle.ring_core.specs.declared.refusal.RingNo.TheVariants.{NotMember, NotHolder, NotAwaited}
use Rattle.ring_core.specs.declared.path.Await.{Await}
use Rattle.ring_core.specs.declared.path.Await.TheVariants.{Nothing, Out, Arrived, Failed}
use Rattle.ring_core.specs.Words.{maker}
use Rattle.ring_core.specs.Machine.{NodeIs, RingIs, addresses, fresh, part_of}
use Rattle.ring_core.specs.Machine.{ring_node}
use Rattle.ring_core.specs.Machine.{awaited_number, is_here, is_in}
use Rattle.ring_core.specs.Machine.{admitted, admitted_status, handed_on}
use Rattle.ring_core.specs.Refusals.{or_no, turn_no, free_no, taken_no}
use Rattle.ring_core.specs.Refusals.{unsent_no, untaken_no}
use Rattle.ring_core.specs.Refusals.{awaited_no, other_no}
use Rattle.ring_core.specs.Legal.{IsMember, IsFrom}
use Rattle.ring_core.proofs.Stability.{admitted-part}
use Rattle.tied_lists.specs.Words.{Frame, NetPlan}
use Rattle.tied_lists.specs.Words.{RingEntry}
use Rattle.tied_lists.specs.Words.{NodeStatus, In, Away, Asking, Gone}
use Rattle.tied_lists.specs.Own.{is_of, own}
use Rattle.tied_lists.proofs.Paths.{Follows}
use Rattle.tied_lists.proofs.Paths.{NotAsked}

-- a frame of its node
abbrev pub IsOwn : ℕ → Frame → Type 0
IsOwn n f = IsFrom n f.kind f

-- who has a Request to send holds the token or is no member
abbrev pub AsksNothing : List Frame → Type 0
AsksNothing out = Each NotAsked out

abbrev pub IsBusy : ℕ → ℕ → Bool → List Frame → Type 0
IsBusy n holder here out = AsksNothing out ⊎ ((holder ≡ n) ⊎ (here ≡ false))

pub record NodeFollows (n : ℕ) (b : List RingEntry) (holder : ℕ) (c : NodeIs) : Type 0 where
  pub part : Follows n b c.paths c.outbox c.inbox c.tries
  pub left : is_here c ≡ false → c.inbox ≡ []
  pub busy : IsBusy n holder (is_here c) c.outbox
  pub asking : c.status ≡ Asking → AsksNothing c.outbox

pub record RingFollows (n : ℕ) (h : List RingEntry) (r : RingIs) : Type 0 where
  pub size : length r.nodes ≡ addresses
  pub node : NodeFollows n (own n h) r.holder (ring_node r n)
  pub frames : (m : ℕ) → Each (IsOwn m) (ring_node r m).outbox

-- own lists
pub own-mine : (n : ℕ) (h : List RingEntry) (e : RingEntry) → maker e ≡ n
    → own n (h ++ e ∷ []) ≡ own n h ++ e ∷ []
own-mine n h e is = filter-append (is_of n) h (e ∷ [])
    ∙ ap (λ (b : Bool). own n h ++ cond b (e ∷ []) []) (eq-eqb (maker e) n is)

pub own-other : (n : ℕ) (h : List RingEntry) (e : RingEntry) → maker e ≢ n
    → own n (h ++ e ∷ []) ≡ own n h
own-other n h e other = filter-append (is_of n) h (e ∷ [])
    ∙ (ap (λ (b : Bool). own n h ++ cond b (e ∷ []) []) (ne_eqb (maker e) n
    other) ∙ append-nil (own n h))

-- refusals
pub first-none : (a b : Option RingNo) → or_no a b ≡ None → a ≡ None
first-none None b e = refl
first-none (Some x) b e = absurd (cc)

pub second-none : (a b : Option RingNo) → or_no a b ≡ None → b ≡ None
second-none None b e = e
second-none (Some x) b e = absurd (cc)

turned : (here holds : Bool) (why : RingNo)
    → cond here (cond holds None (Some why)) (Some NotMember) ≡ None → holds ≡ true
turned true true why e = refl
turned true false why e = absurd (cc)
turned false holds why e = absurd (cc)

pub turn-holds : (r : RingIs) (m : ℕ) → turn_no r m ≡ None → r.holder ≡ m
turn-holds r m e =
    eqb-true r.holder m (turned (is_here (ring_node r m)) (r.holder == m) (NotHolder r.holder) e)

freed : (here holds : Bool) (why : RingNo) → cond here (cond holds None (Some why)) None ≡ None
    → (holds ≡ true) ⊎ (here ≡ false)
freed true true why e = inl refl
freed true false why e = absurd (cc)
freed false holds why e = inr refl

pub free-holds : (r : RingIs) (m : ℕ) → free_no r m ≡ None
    → (r.holder ≡ m) ⊎ (is_here (ring_node r m) ≡ false)
free-holds r m e = ⊎_elim (λ (x : (r.holder == m) ≡ true). inl (eqb-true r.holder m x))
    (λ (x : is_here (ring_node r m) ≡ false). inr x)
    (freed (is_here (ring_node r m)) (r.holder == m) (NotHolder r.holder) e)

pub taken-none : (a : Await) → taken_no a ≡ None → a ≡ Nothing
taken-none Nothing e = refl
taken-none (Out seq to onward passes) e = absurd (cc)
taken-none (Arrived seq) e = absurd (cc)
taken-none (Failed seq word) e = absurd (cc)

pub unsent-none : (box : List Frame) → unsent_no box ≡ None → box ≡ []
unsent-none [] e = refl
unsent-none (f ∷ fs) e = absurd (cc)

pub untaken-none : (box : List Frame) → untaken_no box ≡ None → box ≡ []
untaken-none [] e = refl
untaken-none (f ∷ fs) e = absurd (cc)

other-none : (out seq : ℕ) → other_no out seq ≡ None → out ≡ seq
other-none out seq e = cond_both (out == seq) None (Some (NotAwaited out))
    (λ x. x ≡ None → out ≡ seq) (λ y _. eqb-true out seq y) (λ _ x. absurd (cc)) e

pub awaited-none : (a : Await) (seq : ℕ) → awaited_no a seq ≡ None → awaited_number a ≡ seq
awaited-none Nothing seq e = absurd (cc)
awaited-none (Out out to onward passes) seq e = other-none out seq e
awaited-none (Arrived out) seq e = other-none out seq e
awaited-none (Failed out word) seq e = other-none out seq e

-- the low addresses
pub low : (net : NetPlan) (n : ℕ) → All (λ m. m < addresses) net.members → IsMember net n
    → n < addresses
low net n all member = All-contains (λ m. m < addresses) net.members n all member

pub at-same : (nodes : List NodeIs) (n : ℕ) (c : NodeIs) → length nodes ≡ addresses → n < addresses
    → part_of (set nodes n c) n ≡ c
at-same nodes n c size range =
    get_or-set_same nodes n c (fresh false) (let s = size in let k = range in omega (arith, s, k))

pub at-other : (nodes : List NodeIs) (m n : ℕ) (c : NodeIs) → (n ≡ m → ⊥)
    → part_of (set nodes m c) n ≡ part_of nodes n
at-other nodes m n c other = get_or-set_other nodes m n c (fresh false) other

-- every place after a write
pub each-put : {X : Type 0} (P : ℕ → X → Type 0) (xs : List X) (d : X) (m : ℕ) (x : X)
    → ((n : ℕ) → P n (get_or xs n d)) → P m x → (n
    : ℕ) → P n (get_or (set xs m x) n d)
each-put P [] d m x all it n = all n
each-put P (y ∷ ys) d zero x all it zero = it
each-put P (y ∷ ys) d zero x all it (suc n) = all (suc n)
each-put P (y ∷ ys) d (suc m) x all it zero = all zero
each-put P (y ∷ ys) d (suc m) x all it (suc n) =
    each-put (λ k. P (suc k)) ys d m x (λ k. all (suc k)) it n

abbrev pub OwnBox : ℕ → NodeIs → Type 0
OwnBox m c = Each (IsOwn m) c.outbox

-- the node's own entry
own-after : (n : ℕ) (h : List RingEntry) (s : RingIs) (e : RingEntry) (c : NodeIs) → maker e ≡ n
    → length s.nodes ≡ addresses → ring_node s n ≡ c
    → NodeFollows n (own n h ++ e ∷ []) s.holder c → ((m : ℕ) → OwnBox m (ring_node s m))
    → RingFollows n (h ++ e ∷ []) s
own-after n h s e c mine size is node frames = record {
  size = size;
  node = subst (λ (x : NodeIs). NodeFollows n (own n (h ++ e ∷ [])) s.holder x) (sym is)
      (subst (λ (l : List RingEntry). NodeFollows n l s.holder c) (sym (own-mine n h e mine)) node);
  frames = frames;
}

-- which changes its part alone
pub own-step : (n : ℕ) (h : List RingEntry) (r : RingIs) (e : RingEntry) (holder' : ℕ) (c : NodeIs)
    → n < addresses → maker e ≡ n
    → NodeFollows n (own n h ++ e ∷ []) holder' c → OwnBox n c → RingFollows n h r
    → RingFollows n (h ++ e ∷ [])
    (record { holder = holder'; sent = r.sent; nodes = set r.nodes n c })
own-step n h r e holder' c range mine node box i =
    own-after n h (record { holder = holder'; sent = r.sent; nodes = set r.nodes n c }) e c mine
    (length-set _ _ _ ∙ i.size) (at-same r.nodes n c i.size range) node
    (each-put OwnBox r.nodes (fresh false) n c i.frames box)

-- an entry of another that leaves the node's part
pub other-step : (n : ℕ) (h : List RingEntry) (r s : RingIs) (e : RingEntry) → maker e ≢ n
    → length s.nodes ≡ length r.nodes → ring_node s n ≡ ring_node r n
    → IsBusy n s.holder (is_here (ring_node r n)) (ring_node r n).outbox
    → ((m : ℕ) → OwnBox m (ring_node s m)) → RingFollows n h r → RingFollows n (h ++ e ∷ []) s
other-step n h r s e other size same busy frames i = record {
  size = size ∙ i.size;
  node = subst (λ (x : NodeIs). NodeFollows n (own n (h ++ e ∷ [])) s.holder x) (sym same)
      (subst (λ (l : List RingEntry). NodeFollows n l s.holder (ring_node r n))
      (sym (own-other n h e other)) (record {
        part =
            i.node.part;
        left = i.node.left;
        busy = busy;
        asking = i.node.asking;
      }));
  frames = frames;
}

-- another passes the token on: who asks comes in, and has no Request to send
came-in : (n : ℕ) (b : List RingEntry) (holder holder' : ℕ) (c : NodeIs) (s : NodeStatus)
    → c.status ≡ s → (holder ≡ n → ⊥) → NodeFollows n b holder c
    → NodeFollows n b holder' (admitted c)
came-in n b holder holder' c s is not_mine i = record {
  part = i.part;
  left = λ out. i.left (was-out s is out);
  busy = ⊎_elim (λ (x : AsksNothing c.outbox). inl x)
      (λ (y : (holder ≡ n) ⊎ (is_here c ≡ false)). ⊎_elim
      (λ (z : holder ≡ n). absurd (not_mine z)) (λ (z : is_here c ≡ false). was-busy s is z) y)
      i.busy;
  asking = λ (e : admitted_status c.status ≡ Asking). absurd
      (none-asks s (ap admitted_status (sym is) ∙ e));
}
  where
    was-out : (s : NodeStatus) → c.status ≡ s → is_here (admitted c) ≡ false → is_here c ≡ false
    was-out In e out = ap is_in e
        ∙ (let no' : true ≡ false = sym (ap (λ x. is_in (admitted_status x)) e)
        ∙ out in absurd (cc))
    was-out Away e out = ap is_in e
    was-out Asking e out = ap is_in e
    was-out Gone e out = ap is_in e

    was-busy : (s : NodeStatus) → c.status ≡ s → is_here c ≡ false
        → IsBusy n holder' (is_here (admitted c)) c.outbox
    was-busy In e out = absurd (let no' : true ≡ false = sym (ap is_in e) ∙ out in cc)
    was-busy Away e out = inr (inr (ap (λ x. is_in (admitted_status x)) e))
    was-busy Asking e out = inl (i.asking e)
    was-busy Gone e out = inr (inr (ap (λ x. is_in (admitted_status x)) e))

    none-asks : (s : NodeStatus) → admitted_status s ≡ Asking → ⊥
    none-asks In e = absurd (cc)
    none-asks Away e = absurd (cc)
    none-asks Asking e = absurd (cc)
    none-asks Gone e = absurd (cc)

-- the token goes on
handed-size : (r : RingIs) (m : ℕ) (c : NodeIs) → length r.nodes ≡ addresses
    → length (handed_on r (set r.nodes m c) m).nodes ≡ addresses
handed-size r m c size = length-map (set r.nodes m c) admitted ∙ (length-set _ _ _ ∙ size)

handed-frames : (r : RingIs) (m : ℕ) (c : NodeIs) → ((k : ℕ) → OwnBox k (ring_node r k))
    → OwnBox m c → (k : ℕ) → OwnBox k (ring_node (handed_on r (set r.nodes m c) m) k)
handed-frames r m c frames box k =
    subst (OwnBox k) (sym (admitted-part (set r.nodes m c) k))
    (each-put OwnBox r.nodes (fresh false) m c frames box k)

pub handed-own : (n : ℕ) (h : List RingEntry) (r : RingIs) (e : RingEntry) (c : NodeIs)
    → n < addresses → maker e ≡ n
    → NodeFollows n (own n h ++ e ∷ []) (handed_on r (set r.nodes n c) n).holder (admitted c)
    → OwnBox n c → RingFollows n h r
    → RingFollows n (h ++ e ∷ []) (handed_on r (set r.nodes n c) n)
handed-own n h r e c range mine node box i =
    own-after n h (handed_on r (set r.nodes n c) n) e (admitted c) mine (handed-size r n c i.size)
    (admitted-part (set r.nodes n c) n ∙ ap admitted (at-same r.nodes n c i.size range)) node
    (handed-frames r n c i.frames box)

pub handed-other : (n : ℕ) (h : List RingEntry) (r : RingIs) (e : RingEntry) (m : ℕ) (c : NodeIs)
    → (m ≡ n → ⊥) → maker e ≡ m → r.holder ≡ m → OwnBox m c → RingFollows n h r
    → RingFollows n (h ++ e ∷ []) (handed_on r (set r.nodes m c) m)
handed-other n h r e m c other mine holds box i =
    let s = handed_on r (set r.nodes m c) m in
    let same : ring_node s n ≡ admitted (ring_node r n) = admitted-part (set r.nodes m c) n
    ∙ ap admitted (at-other r.nodes m n c (λ x. other (sym x))) in
    record {
      size = handed-size r m c i.size;
      node = subst (λ (x : NodeIs). NodeFollows n (own n (h ++ e ∷ [])) s.holder x) (sym same)
          (subst (λ (l : List RingEntry). NodeFollows n l s.holder (admitted (ring_node r n)))
          (sym (own-other n h e (λ x. other (sym mine ∙ x))))
          (came-in n (own n h) r.holder s.holder (ring_node r n) (ring_node r n).status refl
          (λ x. other (sym holds ∙ x)) i.node));
      frames = handed-frames r m c i.frames box;
    }
