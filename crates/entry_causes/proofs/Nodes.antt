-- No two stations of a network have one node.
use Rattle.std.proofs.Common.{◌≡◌, ℕ, false, List, [], ◌∷◌, ◌++◌, map, sym, subst}
use Rattle.std.specs.List.{AllByRecursion as Each, IsDistinct}
use Rattle.std.proofs.Math.Dec.{eqb}
use Rattle.std.proofs.lemmas.Bool.{eq-eqb}
use Rattle.std.proofs.lemmas.List.Sorted.{IsPermutation-sym}
use Rattle.std.proofs.lemmas.Map.Keys.{IsDistinct-head, IsDistinct-tail, IsDistinct-IsPermutation}
use Rattle.plant_types.specs.declared.net.NetPlan.{NetPlan}
use Rattle.plant_types.specs.declared.plan.Plant.{Plant}
use Rattle.plant_types.specs.Plans.{IsNetOf, controllers_on, hosts_on, ends_on}
use Rattle.plant_types.proofs.Rising.{flips, rising-distinct}
use Rattle.net_laws.specs.JointHistory.{IsLegalJoint, Joint}
use Rattle.one_order.specs.Orders.{Log, HaveNodesApart, NotAmong}
use Rattle.entry_causes.specs.Joint.{stations_on}
use Rattle.entry_causes.proofs.On.{station-nodes}

not-among : {E : Type 0} (n : ℕ) (logs : List (Log E))
    → Each (λ m. eqb n m ≡ false) (map (λ (log : Log E). log.node) logs)
    → NotAmong n logs
not-among n [] each = tt
not-among n (log ∷ logs) each = (
  λ same. absurd (let a = eq-eqb n log.node (sym same) in let b = each.0 in cc),
  not-among n
      logs each.1,
)

apart : {E : Type 0} (logs : List (Log E)) → IsDistinct eqb (map (λ (log : Log E). log.node) logs)
    → HaveNodesApart logs
apart [] distinct = tt
apart {E} (log ∷ logs) distinct = (
  not-among log.node logs (IsDistinct-head eqb log.node (map (λ (l : Log E). l.node) logs)
      distinct),
  apart logs (IsDistinct-tail eqb log.node (map (λ (l : Log E). l.node) logs) distinct),
)

each-front : {X : Type 0} (P : X → Type 0) (xs ys : List X) → Each P (xs ++ ys) → Each P xs
each-front P [] ys all = tt
each-front P (x ∷ xs) ys all = (all.0, each-front P xs ys all.1)

distinct-front : (xs ys : List ℕ) → IsDistinct eqb (xs ++ ys) → IsDistinct eqb xs
unfolding IsDistinct
distinct-front [] ys distinct = tt
distinct-front (x ∷ xs) ys distinct = (
  each-front (λ y. eqb x y ≡ false) xs ys distinct.0,
  distinct-front xs ys distinct.1,
)

-- the stations on a network have nodes apart
pub apart-on : (plant : Plant) (scans : ℕ) (joint : Joint) (net : NetPlan) → IsNetOf plant net
    → IsLegalJoint plant scans joint → HaveNodesApart (stations_on plant net.number joint)
apart-on plant scans joint net of legal =
    let stations = controllers_on plant net.number ++ hosts_on plant net.number in
    let ends = ends_on plant net.number in
    apart (stations_on plant net.number joint) (subst (IsDistinct eqb)
    (sym (station-nodes plant scans joint net.number legal))
    (distinct-front stations ends
    (IsDistinct-IsPermutation eqb flips net.members (stations ++ ends)
    (IsPermutation-sym (stations ++ ends) net.members of.members)
    (rising-distinct net.members of.plan.members.rise))))
