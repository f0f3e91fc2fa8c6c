-- A plant of one network without a bridge.
use Rattle.std.proofs.Common.{◌≡◌, ◌≤◌, ◌+◌, ◌==◌, ℕ, Bool, true, cond, List, []}
use Rattle.std.proofs.Common.{eqb, ◌∷◌, ◌++◌, length, map, refl, sym, ap, subst, ◌∙◌, arith}
use Rattle.std.specs.Prelude.{IsPermutation, flat_map, filter}
use Rattle.std.specs.List.{All, Contains, IsDistinct}
use Rattle.std.proofs.lemmas.Bool.{eq-eqb}
use Rattle.std.proofs.lemmas.List.{append-nil, length-map, length-append}
use Rattle.std.proofs.lemmas.List.Elements.{All-nil, All-cons, All-head, All-tail, All-weaker}
use Rattle.std.proofs.lemmas.List.Sorted.{IsPermutation-refl, IsPermutation-sym}
use Rattle.std.proofs.lemmas.Map.Keys.{IsDistinct-IsPermutation}
use Rattle.plant_types.specs.declared.net.NetPlan.{NetPlan}
use Rattle.plant_types.specs.declared.net.HostPlan.{HostPlan}
use Rattle.plant_types.specs.declared.net.BridgePlan.{BridgePlan}
use Rattle.plant_types.specs.declared.plan.ControllerPlan.{ControllerPlan}
use Rattle.plant_types.specs.declared.plan.Plant.{Plant}
use Rattle.plant_types.specs.Plans.{IsNetPlan, IsNetOf, net_numbers}
use Rattle.plant_types.specs.Plans.{controller_nodes, host_nodes}
use Rattle.plant_types.specs.Plans.{controllers_on, hosts_on, ends_on, ends_of, end_nodes}
use Rattle.plant_types.proofs.Rising.{flips, rising-distinct}

-- what a plant is that has this network alone, and no bridge
pub record IsOnNet (plant : Plant) (net : NetPlan) : Type 0 where
  pub only : plant.nets ≡ net ∷ []
  pub no_bridges : plant.bridges ≡ []
  pub plan : IsNetPlan net
  pub no_bridge : net.bridges ≡ []
  pub controllers_there : All (λ (p : ControllerPlan). p.network ≡ net.number) plant.controllers
  pub hosts_there : All (λ (h : HostPlan). h.network ≡ net.number) plant.hosts
  pub members : IsPermutation (controller_nodes plant ++ host_nodes plant) net.members

-- where all pass a test, none is dropped
filter-all : {X : Type 0} (test : X → Bool) (xs : List X) → All (λ x. test x ≡ true) xs
    → filter test xs ≡ xs
filter-all test [] all = refl
filter-all test (x ∷ xs) all =
    ap (λ b. cond b (x ∷ filter test xs) (filter test xs))
    (All-head (λ y. test y ≡ true) x xs all)
    ∙ ap (λ ys. x ∷ ys) (filter-all test xs (All-tail (λ y. test y ≡ true) x xs all))

-- where all stations are on a network and no end of a bridge is, all of them stand on it
all-on : (plant : Plant) (network : ℕ)
    → All (λ (p : ControllerPlan). p.network ≡ network) plant.controllers
    → All (λ (h : HostPlan). h.network ≡ network) plant.hosts → ends_on plant network ≡ []
    → controllers_on plant network ++ hosts_on plant network ++ ends_on plant network
    ≡ controller_nodes plant ++ host_nodes plant
all-on plant network controllers hosts ends =
    let cs = filter-all (λ (p : ControllerPlan). p.network == network) plant.controllers
    (All-weaker (λ (p : ControllerPlan). p.network ≡ network)
    (λ (p : ControllerPlan). (p.network == network) ≡ true)
    (λ p same. eq-eqb p.network network same) plant.controllers controllers) in
    let hs = filter-all (λ (h : HostPlan). h.network == network) plant.hosts
    (All-weaker (λ (h : HostPlan). h.network ≡ network)
    (λ (h : HostPlan). (h.network == network) ≡ true)
    (λ h same. eq-eqb h.network network same) plant.hosts hosts) in
    (λ i. map (λ (p : ControllerPlan). p.node) (cs i)
    ++ map (λ (h : HostPlan). h.node) (hs i) ++ ends i)
    ∙ append-nil (controller_nodes plant ++ host_nodes plant)

-- a network that all stations of a plant are on, and no end of a bridge, is one of it
pub net-of : (plant : Plant) (net : NetPlan) → IsOnNet plant net → 1 ≤ length plant.controllers
    → All (IsNetOf plant) plant.nets
net-of plant net on some =
    let ends : ends_on plant net.number ≡ [] =
    ap (flat_map (ends_of net.number)) on.no_bridges in
    let there = all-on plant net.number on.controllers_there on.hosts_there ends in
    let here : controllers_on plant net.number ++ hosts_on plant net.number
    ≡ controller_nodes plant ++ host_nodes plant =
    sym (append-nil (controllers_on plant net.number ++ hosts_on plant net.number))
    ∙ sym (λ i. controllers_on plant net.number ++ hosts_on plant net.number ++ ends i)
    ∙ there in
    let many : length (controller_nodes plant ++ host_nodes plant)
    ≡ length plant.controllers + length (host_nodes plant) =
    length-append (controller_nodes plant) (host_nodes plant)
    ∙ ap (λ n. n + length (host_nodes plant)) (length-map plant.controllers
    (λ (p : ControllerPlan). p.node)) in
    subst (All (IsNetOf plant)) (sym on.only) (All-cons (IsNetOf plant) net [] (record {
      plan = on.plan;
      some = subst (λ (ns : List ℕ). 1 ≤ length ns) (sym here)
          (let m = many in let s = some in omega (arith, m, s));
      members = subst (λ ns. IsPermutation ns net.members) (sym there) on.members;
      bridges = subst (λ ns. IsPermutation ns net.bridges) (sym ends)
          (subst (IsPermutation []) (sym on.no_bridge) (IsPermutation-refl []));
    }) (All-nil (IsNetOf plant)))

-- the stations of a plant's one network are on one of its networks
pub on-a-net : (plant : Plant) (net : NetPlan) → IsOnNet plant net → (n : ℕ) → n ≡ net.number
    → Contains (net_numbers plant) n
on-a-net plant net on n same =
    subst (λ ns. Contains ns n) (sym (ap (map (λ (m : NetPlan). m.number)) on.only))
    (subst (Contains (net.number ∷ [])) (sym same) (0, omega arith, refl))

-- each address stands once in it
pub stations-once : (plant : Plant) (net : NetPlan) → IsOnNet plant net
    → IsDistinct eqb (controller_nodes plant ++ host_nodes plant ++ end_nodes plant)
stations-once plant net on =
    let ends : end_nodes plant ≡ [] =
    ap (flat_map (λ (b : BridgePlan). b.left ∷ b.right ∷ [])) on.no_bridges in
    let nodes : controller_nodes plant ++ host_nodes plant ++ end_nodes plant
    ≡ controller_nodes plant ++ host_nodes plant =
    (λ i. controller_nodes plant ++ host_nodes plant ++ ends i)
    ∙ append-nil (controller_nodes plant ++ host_nodes plant) in
    subst (IsDistinct eqb) (sym nodes)
    (IsDistinct-IsPermutation eqb flips net.members (controller_nodes plant ++ host_nodes plant)
    (IsPermutation-sym (controller_nodes plant ++ host_nodes plant) net.members on.members)
    (rising-distinct net.members on.plan.members.rise))
