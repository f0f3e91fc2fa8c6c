-- Whether a node is away from its ring, or gone from it, is told by its own entries.
use Rattle.std.proofs.Common.{◌≡◌, ℕ, ◌<◌, true, false, cond, List, [], ◌∷◌, length, map}
use Rattle.std.proofs.Common.{set, refl, sym, ap, subst, ◌∙◌, ⊎_elim, get_or-set_same}
use Rattle.std.specs.Prelude.{◌==◌}
use Rattle.std.proofs.lemmas.Bool.{cases_Bool, cond_both, eq-eqb, eqb-true}
use Rattle.std.proofs.lemmas.List.{length-map, length-set}
use Rattle.plant_types.specs.declared.net.NetPlan.{NetPlan}
use Rattle.ring_core.specs.declared.frame.Frame.{Frame}
use Rattle.ring_core.specs.declared.entry.LeaveCause.{LeaveCause}
use Rattle.ring_core.specs.declared.entry.LeaveCause.TheVariants.{Ended, Spent, Down}
use Rattle.ring_core.specs.declared.entry.RingEntry.{RingEntry}
use Rattle.ring_core.specs.declared.entry.RingEntry.TheVariants.{Post, Send, Take, Local, GiveUp}
use Rattle.ring_core.specs.declared.entry.RingEntry.TheVariants.{Pass, Leave, Join}
use Rattle.ring_core.specs.declared.status.NodeStatus.{NodeStatus}
use Rattle.ring_core.specs.declared.status.NodeStatus.TheVariants.{In, Away, Asking, Gone}
use Rattle.ring_core.specs.Words.{maker}
use Rattle.ring_core.specs.Machine.{NodeIs, RingIs, addresses, fresh, part_of, ring_node, after}
use Rattle.ring_core.specs.Machine.{after_all, opening, fate_at, sent_head, admitted}
use Rattle.ring_core.specs.Machine.{admitted_status, gone_by}
use Rattle.ring_core.specs.Machine.{after_pass, is_held, made_asking, with_status}
use Rattle.ring_core.proofs.Sound.{opening-sound}
use Rattle.ring_core.proofs.Stability.{admitted-part, out, status-sent, status-set}
use Rattle.joint_history.specs.TiedLists.{own, status_at}
use Rattle.joint_history.proofs.TiedLists.{length-arrived}
use Rattle.net_laws.specs.Standing.{status_from, status_left, status_next}

-- ---- no entry makes nodes more or fewer

length-sent : (net : NetPlan) (r : RingIs) (n : ℕ) (box : List Frame)
    → length (sent_head net r n box).nodes ≡ length r.nodes
length-sent net r n [] = refl
length-sent net r n (f ∷ fs) =
    length-set _ n _ ∙ length-arrived net r.nodes (fate_at net.fates r.sent) f

length-after : (net : NetPlan) (r : RingIs) (e : RingEntry)
    → length (after net r e).nodes ≡ length r.nodes
length-after net r (Post m f) = length-set r.nodes m _
length-after net r (Send m heard) = length-sent net r m (ring_node r m).outbox
length-after net r (Take m f) = length-set r.nodes m _
length-after net r (Local m id op result) = refl
length-after net r (GiveUp id word) = length-set r.nodes id.node _
length-after net r (Pass m done words) = length-map _ admitted ∙ length-set r.nodes m _
length-after net r (Leave m cause) = length-map _ admitted ∙ length-set r.nodes m _
length-after net r (Join m) =
    cond_both (is_held r) _ _ (λ (x : RingIs). length x.nodes ≡ length r.nodes)
    (λ _. length-set r.nodes m _) (λ _. length-set r.nodes m _)

-- ---- how a node stands, where who asks to come in stands as one who is in

abbrev pub stands : NodeIs → NodeStatus
stands c = admitted_status c.status

admitted-twice : (s : NodeStatus) → admitted_status (admitted_status s) ≡ admitted_status s
admitted-twice In = refl
admitted-twice Away = refl
admitted-twice Asking = refl
admitted-twice Gone = refl

left-stands : (c : NodeIs) (cause : LeaveCause) → stands (gone_by cause c) ≡ status_left cause
left-stands c Ended = refl
left-stands c Spent = refl
left-stands c (Down number) = refl

handed-stands : (nodes : List NodeIs) (n : ℕ)
    → stands (part_of (map admitted nodes) n) ≡ stands (part_of nodes n)
handed-stands nodes n =
    ap stands (admitted-part nodes n) ∙ admitted-twice (part_of nodes n).status

same-stands : (nodes : List NodeIs) (m n : ℕ) (c : NodeIs) → c.status ≡ (part_of nodes m).status
    → stands (part_of (set nodes m c) n) ≡ stands (part_of nodes n)
same-stands nodes m n c same = ap admitted_status (status-set nodes m n c same)

set-here : (nodes : List NodeIs) (n : ℕ) (c : NodeIs) → n < length nodes
    → part_of (set nodes n c) n ≡ c
set-here nodes n c range = get_or-set_same nodes n c (fresh false) range

-- an own entry changes it as this says
own-stands : (net : NetPlan) (r : RingIs) (n : ℕ) (e : RingEntry) → maker e ≡ n
    → n < length r.nodes
    → stands (ring_node (after net r e) n) ≡ status_next (stands (ring_node r n)) e
own-stands net r n (Post m f) own range = same-stands r.nodes m n _ refl
own-stands net r n (Send m heard) own range =
    ap admitted_status (status-sent net r m (ring_node r m).outbox n)
own-stands net r n (Take m f) own range = same-stands r.nodes m n _ refl
own-stands net r n (Local m id op result) own range = refl
own-stands net r n (GiveUp id word) own range = same-stands r.nodes id.node n _ refl
own-stands net r n (Pass m done words) own range =
    handed-stands (set r.nodes m (after_pass (ring_node r m) done)) n
    ∙ same-stands r.nodes m n (after_pass (ring_node r m) done) refl
own-stands net r n (Leave m cause) own range =
    subst (λ (k : ℕ). stands (ring_node (after net r (Leave k cause)) n) ≡ status_left cause)
    (sym own)
    (handed-stands (set r.nodes n (gone_by cause (ring_node r n))) n
    ∙ ap stands (set-here r.nodes n (gone_by cause (ring_node r n)) range)
    ∙ left-stands (ring_node r n) cause)
own-stands net r n (Join m) own range =
    subst (λ (k : ℕ). stands (ring_node (made_asking r k) n) ≡ In) (sym own)
    (cond_both (is_held r) _ _ (λ (x : RingIs). stands (ring_node x n) ≡ In)
    (λ _. ap stands (set-here r.nodes n (with_status (ring_node r n) Asking) range))
    (λ _. ap stands (set-here r.nodes n (with_status (ring_node r n) In) range)))

-- an entry of another leaves it
other-stands : (net : NetPlan) (r : RingIs) (n : ℕ) (e : RingEntry) → (maker e ≡ n → ⊥)
    → stands (ring_node (after net r e) n) ≡ stands (ring_node r n)
other-stands net r n (Post m f) other = same-stands r.nodes m n _ refl
other-stands net r n (Send m heard) other =
    ap admitted_status (status-sent net r m (ring_node r m).outbox n)
other-stands net r n (Take m f) other = same-stands r.nodes m n _ refl
other-stands net r n (Local m id op result) other = refl
other-stands net r n (GiveUp id word) other = same-stands r.nodes id.node n _ refl
other-stands net r n (Pass m done words) other =
    handed-stands (set r.nodes m (after_pass (ring_node r m) done)) n
    ∙ same-stands r.nodes m n (after_pass (ring_node r m) done) refl
other-stands net r n (Leave m cause) other =
    handed-stands (set r.nodes m (gone_by cause (ring_node r m))) n
    ∙ ap stands (out r.nodes n m (gone_by cause (ring_node r m)) other)
other-stands net r n (Join m) other = cond_both (is_held r) _ _
    (λ (x : RingIs). stands (ring_node x n) ≡ stands (ring_node r n))
    (λ _. ap stands (out r.nodes n m (with_status (ring_node r m) Asking) other))
    (λ _. ap stands (out r.nodes n m (with_status (ring_node r m) In) other))

-- where a node stands behind a list, by its own entries of it
pub all-stand : (net : NetPlan) (r : RingIs) (n : ℕ) (es : List RingEntry) → n < length r.nodes
    → stands (ring_node (after_all net r es) n) ≡ status_from (stands (ring_node r n)) (own n es)
all-stand net r n [] range = refl
all-stand net r n (e ∷ es) range =
    let next = after net r e in
    let was = stands (ring_node r n) in
    let more = subst (λ (size : ℕ). n < size) (sym (length-after net r e)) range in
    let rest = all-stand net next n es more in
    ⊎_elim
    (λ (mine : (maker e == n) ≡ true).
    rest
    ∙ ap (λ s. status_from s (own n es)) (own-stands net r n e (eqb-true (maker e) n mine) range)
    ∙ sym (ap (λ b. status_from was (cond b (e ∷ own n es) (own n es))) mine))
    (λ (other : (maker e == n) ≡ false).
    rest
    ∙ ap (λ s. status_from s (own n es)) (other-stands net r n e (λ same.
    let no' : false ≡ true = sym other ∙ eq-eqb (maker e) n same in absurd cc))
    ∙ sym (ap (λ b. status_from was (cond b (e ∷ own n es) (own n es))) other))
    (cases_Bool (maker e == n))

-- ---- behind whole lists

-- lists that are the same to a node leave it standing as one
same-standing : (net : NetPlan) (n : ℕ) (one two : List RingEntry) → n < addresses
    → own n one ≡ own n two
    → admitted_status (status_at net one n) ≡ admitted_status (status_at net two n)
same-standing net n one two low same =
    let range = subst (λ (size : ℕ). n < size) (sym (opening-sound net).size) low in
    all-stand net (opening net) n one range
    ∙ ap (status_from (stands (ring_node (opening net) n))) same
    ∙ sym (all-stand net (opening net) n two range)

-- one that counts as gone is gone, and one that counts as away is away
pub is-gone : (s : NodeStatus) → admitted_status s ≡ Gone → s ≡ Gone
is-gone In is = absurd cc
is-gone Away is = absurd cc
is-gone Asking is = absurd cc
is-gone Gone is = refl

pub is-away : (s : NodeStatus) → admitted_status s ≡ Away → s ≡ Away
is-away In is = absurd cc
is-away Away is = refl
is-away Asking is = absurd cc
is-away Gone is = absurd cc

module _ (net : NetPlan) (n : ℕ) (one two : List RingEntry) (low : n < addresses)
    (same : own n one ≡ own n two) where
  -- a node that is gone behind one list is gone behind each that is the same to it
  pub gone-same : status_at net one n ≡ Gone → status_at net two n ≡ Gone
  gone-same is = is-gone (status_at net two n)
      (sym (same-standing net n one two low same) ∙ ap admitted_status is)

  -- and so it is where it is away
  pub away-same : status_at net one n ≡ Away → status_at net two n ≡ Away
  away-same is = is-away (status_at net two n)
      (sym (same-standing net n one two low same) ∙ ap admitted_status is)
