-- Where a node stands behind a list, by its own entries of it.
use Rattle.std.proofs.Common.{◌≡◌, ℕ, zero, suc, ◌<◌, true, false, List, [], ◌∷◌, ◌++◌, length}
use Rattle.std.proofs.Common.{get_or, set, replicate, refl, ap, ◌∙◌, arith}
use Rattle.std.proofs.lemmas.List.{get_or-set_same, length-replicate, length-set}
use Rattle.plant_types.specs.declared.net.NetPlan.{NetPlan}
use Rattle.ring_core.specs.declared.entry.RingEntry.{RingEntry}
use Rattle.ring_core.specs.declared.status.NodeStatus.{NodeStatus}
use Rattle.ring_core.specs.declared.status.NodeStatus.TheVariants.{In}
use Rattle.ring_core.specs.Machine.{NodeIs, addresses, admitted_status, fresh, opening, part_of}
use Rattle.ring_core.specs.Machine.{ring_node, with_members}
use Rattle.ring_core.specs.Legal.{IsMember}
use Rattle.ring_core.proofs.Sound.{opening-sound}
use Rattle.tied_lists.specs.Own.{own}
use Rattle.tied_lists.specs.Waits.{status_at}
use Rattle.net_laws.specs.Standing.{status_by, status_from, status_next}
use Rattle.net_laws.proofs.Standing.{all-stand}

-- ---- by its own entries

status-joined : (s : NodeStatus) (xs ys : List RingEntry)
    → status_from s (xs ++ ys) ≡ status_from (status_from s xs) ys
status-joined s [] ys = refl
status-joined s (x ∷ xs) ys = status-joined (status_next s x) xs ys

-- one entry more
pub status-push : (b : List RingEntry) (e : RingEntry)
    → status_by (b ++ e ∷ []) ≡ status_next (status_by b) e
status-push b e = status-joined In b (e ∷ [])

-- ---- at first

in-set : (nodes : List NodeIs) (m n : ℕ) → (part_of nodes n).status ≡ In
    → (part_of (set nodes m (fresh true)) n).status ≡ In
in-set [] m n was = was
in-set (d ∷ ds) zero zero was = refl
in-set (d ∷ ds) zero (suc n) was = was
in-set (d ∷ ds) (suc m) zero was = was
in-set (d ∷ ds) (suc m) (suc n) was = in-set ds m n was

joined-in : (nodes : List NodeIs) (ms : List ℕ) (n : ℕ) → (part_of nodes n).status ≡ In
    → (part_of (with_members nodes ms) n).status ≡ In
joined-in nodes [] n was = was
joined-in nodes (m ∷ ms) n was = joined-in (set nodes m (fresh true)) ms n (in-set nodes m n was)

joined-at : (nodes : List NodeIs) (ms : List ℕ) (n k : ℕ) → n < length nodes → k < length ms
    → get_or ms k n ≡ n → (part_of (with_members nodes ms) n).status ≡ In
joined-at nodes [] n k low there is = absurd (omega arith)
joined-at nodes (m ∷ ms) n zero low there is =
    joined-in (set nodes m (fresh true)) ms n
    (ap (λ (i : ℕ). (part_of (set nodes i (fresh true)) n).status) is
    ∙ ap (λ (c : NodeIs). c.status) (get_or-set_same nodes n (fresh true) (fresh false) low))
joined-at nodes (m ∷ ms) n (suc k) low there is =
    let size = length-set nodes m (fresh true) in
    joined-at (set nodes m (fresh true)) ms n k (omega (arith, low, size)) (omega arith) is

opening-in : (net : NetPlan) (n : ℕ) → n < addresses → IsMember net n
    → (ring_node (opening net) n).status ≡ In
opening-in net n low member =
    let size = length-replicate {A = NodeIs} addresses (fresh false) in
    joined-at (replicate addresses (fresh false)) net.members n member.0
    (omega (arith, low, size)) member.1 member.2

-- where a member stands behind a list, if one that asks to come in counts as in
pub stands-by : (net : NetPlan) (ring : List RingEntry) (n : ℕ) → n < addresses → IsMember net n
    → admitted_status (status_at net ring n) ≡ status_by (own n ring)
stands-by net ring n low member =
    let size = (opening-sound net).size in
    all-stand net (opening net) n ring (omega (arith, low, size))
    ∙ ap (λ (s : NodeStatus). status_from (admitted_status s) (own n ring))
    (opening-in net n low member)
