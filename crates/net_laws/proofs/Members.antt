-- Each address of a plant is a member of one network at most.
use Rattle.std.proofs.Common.{◌≡◌, ℕ, ◌+◌, ◌≤◌, ◌++◌, Bool, true, false, cond, List, [], ◌∷◌}
use Rattle.std.proofs.Common.{map, refl, sym, ap, ◌∙◌, subst, arith}
use Rattle.std.specs.Prelude.{filter, flat_map, nat_eq, ◌==◌}
use Rattle.std.specs.List.{All, IsDistinct, count_by, sum_by}
use Rattle.std.proofs.lemmas.List.Elements.{All-cons, All-head, All-nil, All-tail}
use Rattle.std.proofs.lemmas.List.Sums.{sum_by-append, sum_by-cons}
use Rattle.std.proofs.lemmas.List.Sorted.{sum_by-IsPermutation}
use Rattle.plant_types.specs.declared.net.NetPlan.{NetPlan}
use Rattle.plant_types.specs.declared.net.HostPlan.{HostPlan}
use Rattle.plant_types.specs.declared.net.BridgePlan.{BridgePlan}
use Rattle.plant_types.specs.declared.plan.ControllerPlan.{ControllerPlan}
use Rattle.plant_types.specs.declared.plan.Plant.{Plant}
use Rattle.plant_types.specs.Plans.{IsPlant, IsNetOf, net_numbers, controller_nodes, host_nodes}
use Rattle.plant_types.specs.Plans.{end_nodes}
use Rattle.plant_types.specs.Plans.{controllers_on, hosts_on, ends_on, ends_of}
use Rattle.plant_types.proofs.Rising.{rising-distinct}
use Rattle.ring_laws.proofs.Lists.{count-cons}
use Rattle.net_laws.proofs.Sums.{shares, sum-both, sum-flat, sum-mapped, sum-none, sum-same}
use Rattle.net_laws.proofs.Sums.{once-distinct}

-- the addresses of a plant
abbrev pub all_nodes : Plant → List ℕ
all_nodes plant = controller_nodes plant ++ host_nodes plant ++ end_nodes plant

-- how often an address stands in a list
abbrev pub times : ℕ → List ℕ → ℕ
times m ns = count_by (λ n. m == n) ns

-- the share that a network has of one address, by whether it is on it
abbrev share : ℕ → ℕ → ℕ → ℕ → ℕ
share m node network number = cond (network == number) (cond (m == node) 1 0) 0

share-at : (b c : Bool) → cond b (cond {A = ℕ} c 1 0) 0 ≡ cond c (cond {A = ℕ} b 1 0) 0
share-at true true = refl
share-at true false = refl
share-at false true = refl
share-at false false = refl

-- the shares of networks that differ are one at most
one-share : (m node network : ℕ) (numbers : List ℕ) → times network numbers ≤ 1
    → sum_by (share m node network) numbers ≤ cond (m == node) 1 0
one-share m node network numbers once =
    let turned = sum-same (share m node network)
    (λ n. cond (m == node) (cond {A = ℕ} (network == n) 1 0) 0) numbers
    (λ n. share-at (network == n) (m == node)) in
    subst (λ (k : ℕ). k ≤ cond (m == node) 1 0) (sym turned) (at (m == node))
  where
    at : (b : Bool)
        → sum_by (λ n. cond b (cond {A = ℕ} (network == n) 1 0) 0) numbers ≤ cond b 1 0
    at true = once
    at false = let none = sum-none numbers in omega arith

-- the addresses of what is on a network, by their shares
times-filtered : {X : Type 0} (m number : ℕ) (node network : X → ℕ) (xs : List X)
    → times m (map node (filter (λ x. network x == number) xs))
    ≡ sum_by (λ x. share m (node x) (network x) number) xs
times-filtered m number node network [] = refl
times-filtered m number node network (x ∷ xs) =
    let rest = filter (λ y. network y == number) xs in
    at (network x == number)
    ∙ ap (λ k. share m (node x) (network x) number + k)
    (times-filtered m number node network xs)
    ∙ sym (sum_by-cons (λ y. share m (node y) (network y) number) x xs)
  where
    at : (b : Bool)
        → times m (map node (cond b (x ∷ filter (λ y. network y == number) xs)
        (filter (λ y. network y == number) xs)))
        ≡ cond b (cond (m == node x) 1 0) 0
        + times m (map node (filter (λ y. network y == number) xs))
    at true = count-cons (λ n. m == n) (node x) (map node (filter (λ y. network y == number) xs))
    at false = omega arith

-- all that is on some networks which differ is no more than all there is
on-some : {X : Type 0} (m : ℕ) (node network : X → ℕ) (numbers : List ℕ) (xs : List X)
    → IsDistinct nat_eq numbers
    → sum_by (λ number. times m (map node (filter (λ x. network x == number) xs))) numbers
    ≤ times m (map node xs)
on-some m node network numbers xs distinct =
    let parts = sum-same
    (λ number. times m (map node (filter (λ x. network x == number) xs)))
    (λ number. sum_by (λ x. share m (node x) (network x) number) xs) numbers
    (λ number. times-filtered m number node network xs) in
    let most = shares (λ number x. share m (node x) (network x) number)
    (λ x. cond (m == node x) 1 0) numbers xs
    (λ x. one-share m (node x) (network x) numbers (once-distinct (network x) numbers distinct)) in
    let all = sum-mapped (λ n. cond {A = ℕ} (m == n) 1 0) node xs in
    omega arith

-- the ends of bridges on a network
times-end : (m number : ℕ) (bridge : BridgePlan)
    → times m (ends_of number bridge)
    ≡ share m bridge.left bridge.left_net number + share m bridge.right bridge.right_net number
times-end m number bridge =
    sum_by-append (λ n. cond {A = ℕ} (m == n) 1 0)
    (cond (bridge.left_net == number) (bridge.left ∷ []) [])
    (cond (bridge.right_net == number) (bridge.right ∷ []) [])
    ∙ both (at bridge.left (bridge.left_net == number))
    (at bridge.right (bridge.right_net == number))
  where
    at : (node : ℕ) (b : Bool)
        → times m (cond b (node ∷ []) []) ≡ cond b (cond {A = ℕ} (m == node) 1 0) 0
    at node true = omega arith
    at node false = refl

    both : {a b c d : ℕ} → a ≡ b → c ≡ d → a + c ≡ b + d
    both one two = omega arith

pub ends-some : (m : ℕ) (numbers : List ℕ) (bridges : List BridgePlan) → IsDistinct nat_eq numbers
    → sum_by (λ number. times m (flat_map (ends_of number) bridges)) numbers
    ≤ times m (flat_map (λ (b : BridgePlan). b.left ∷ b.right ∷ []) bridges)
ends-some m numbers bridges distinct =
    let one = λ (n : ℕ). cond {A = ℕ} (m == n) 1 0 in
    let parts = sum-same (λ number. times m (flat_map (ends_of number) bridges))
    (λ number. sum_by (λ b. times m (ends_of number b)) bridges) numbers
    (λ number. sum-flat one (ends_of number) bridges) in
    let most = shares (λ number b. times m (ends_of number b))
    (λ b. times m (b.left ∷ b.right ∷ [])) numbers bridges each in
    let all = sum-flat one (λ (b : BridgePlan). b.left ∷ b.right ∷ []) bridges in
    omega arith
  where
    each : (b : BridgePlan) → sum_by (λ number. times m (ends_of number b)) numbers
        ≤ times m (b.left ∷ b.right ∷ [])
    each b =
        let parts = sum-same (λ number. times m (ends_of number b))
        (λ number. share m b.left b.left_net number + share m b.right b.right_net number) numbers
        (λ number. times-end m number b) in
        let two = sum-both (share m b.left b.left_net) (share m b.right b.right_net) numbers in
        let left = one-share m b.left b.left_net numbers (once-distinct b.left_net numbers distinct)
        in
        let right = one-share m b.right b.right_net numbers
        (once-distinct b.right_net numbers distinct) in
        let pair = count-cons (λ n. m == n) b.left (b.right ∷ []) in
        let last : times m (b.right ∷ []) ≡ cond {A = ℕ} (m == b.right) 1 0 = omega arith in
        omega arith

-- how often an address is a member of a network
times-member : (plant : Plant) (m : ℕ) (net : NetPlan) → IsNetOf plant net
    → times m net.members
    ≡ times m (controllers_on plant net.number) + times m (hosts_on plant net.number)
    + times m (ends_on plant net.number)
times-member plant m net of =
    let one = λ (n : ℕ). cond {A = ℕ} (m == n) 1 0 in
    let c = controllers_on plant net.number in
    let h = hosts_on plant net.number in
    let e = ends_on plant net.number in
    let all = sum_by-IsPermutation one (c ++ h ++ e) net.members of.members in
    let first = sum_by-append one (c ++ h) e in
    let second = sum_by-append one c h in
    omega arith

members-of : (plant : Plant) (m : ℕ) (nets : List NetPlan) → All (IsNetOf plant) nets
    → sum_by (λ (net : NetPlan). times m net.members) nets
    ≡ sum_by (λ number. times m (controllers_on plant number) + times m (hosts_on plant number)
    + times m (ends_on plant number)) (map (λ (net : NetPlan). net.number) nets)
members-of plant m [] all = refl
members-of plant m (net ∷ nets) all =
    let f = λ (number : ℕ). times m (controllers_on plant number)
    + times m (hosts_on plant number) + times m (ends_on plant number) in
    let here = times-member plant m net (All-head (IsNetOf plant) net nets all) in
    let rest = members-of plant m nets (All-tail (IsNetOf plant) net nets all) in
    let one = sum_by-cons (λ (n : NetPlan). times m n.members) net nets in
    let two = sum_by-cons f net.number (map (λ (n : NetPlan). n.number) nets) in
    omega arith

-- an address is a member of networks which differ no more often than it stands in the plant
pub members-stand : (plant : Plant) (m : ℕ) (nets : List NetPlan) → All (IsNetOf plant) nets
    → IsDistinct nat_eq (map (λ (net : NetPlan). net.number) nets)
    → sum_by (λ (net : NetPlan). times m net.members) nets ≤ times m (all_nodes plant)
members-stand plant m nets are distinct =
    let numbers = map (λ (net : NetPlan). net.number) nets in
    let one = λ (n : ℕ). cond {A = ℕ} (m == n) 1 0 in
    let of = members-of plant m nets are in
    let first = sum-both (λ number. times m (controllers_on plant number)
    + times m (hosts_on plant number)) (λ number. times m (ends_on plant number)) numbers in
    let second = sum-both (λ number. times m (controllers_on plant number))
    (λ number. times m (hosts_on plant number)) numbers in
    let c = on-some m (λ (p : ControllerPlan). p.node) (λ (p : ControllerPlan). p.network) numbers
    plant.controllers distinct in
    let h = on-some m (λ (p : HostPlan). p.node) (λ (p : HostPlan). p.network) numbers
    plant.hosts distinct in
    let e = ends-some m numbers plant.bridges distinct in
    let nodes = sum_by-append one (controller_nodes plant ++ host_nodes plant) (end_nodes plant) in
    let rest = sum_by-append one (controller_nodes plant) (host_nodes plant) in
    omega arith

-- a member of a network stands in the plant
pub alone : (n : ℕ) → IsDistinct nat_eq (n ∷ [])
unfolding IsDistinct
alone n = (tt, tt)

pub member-stands : (plant : Plant) (m : ℕ) (net : NetPlan) → IsNetOf plant net
    → times m net.members ≤ times m (all_nodes plant)
member-stands plant m net of =
    let few = members-stand plant m (net ∷ [])
    (All-cons (IsNetOf plant) net [] of (All-nil (IsNetOf plant))) (alone net.number) in
    let here = sum_by-cons (λ (n : NetPlan). times m n.members) net [] in
    omega arith

-- the numbers of a plant's networks differ
pub nets-differ : (plant : Plant) → IsPlant plant → IsDistinct nat_eq (net_numbers plant)
nets-differ plant is = rising-distinct (net_numbers plant) is.nets_rise

-- each address stands once
pub nodes-once : (plant : Plant) (m : ℕ) → IsPlant plant → times m (all_nodes plant) ≤ 1
nodes-once plant m is = once-distinct m (all_nodes plant) is.once
