-- The network on which a node is.
use Rattle.std.proofs.Common.{◌≡◌, ℕ, zero, suc, ◌+◌, ◌≤◌, ◌++◌, Bool, true, false, cond}
use Rattle.std.proofs.Common.{List, [], ◌∷◌, map, refl, sym, ap, ◌∙◌, subst, arith, ⊎_elim}
use Rattle.std.specs.Prelude.{Contains, Some, filter, flat_map, unwrap_or, slice_get, ◌==◌}
use Rattle.std.specs.List.{find, list_any, sum_by}
use Rattle.std.proofs.lemmas.Bool.{cases_Bool, eq-eqb, eqb-true, or_cases}
use Rattle.std.proofs.lemmas.Option.{get_or_from_slice_get, slice_get_within}
use Rattle.std.proofs.lemmas.List.Elements.{All-contains, Contains-append_left}
use Rattle.std.proofs.lemmas.List.Elements.{Contains-append_right}
use Rattle.std.proofs.lemmas.List.Folds.{list_any_at}
use Rattle.std.proofs.lemmas.List.Sums.{sum_by-append, sum_by-cons}
use Rattle.std.proofs.lemmas.List.Sorted.{Contains-permutation, sum_by-IsPermutation}
use Rattle.plant_types.specs.declared.net.NetPlan.{NetPlan}
use Rattle.plant_types.specs.declared.net.HostPlan.{HostPlan}
use Rattle.plant_types.specs.declared.net.BridgePlan.{BridgePlan}
use Rattle.plant_types.specs.declared.plan.ControllerPlan.{ControllerPlan}
use Rattle.plant_types.specs.declared.plan.Plant.{Plant}
use Rattle.plant_types.specs.Plans.{IsPlant, IsNetPlan, IsNetOf, IsBridgeOf, has_member}
use Rattle.plant_types.specs.Plans.{net_numbers, net_of}
use Rattle.plant_types.specs.Plans.{no_net, controller_nodes, host_nodes, end_nodes, ends_of}
use Rattle.plant_types.specs.Plans.{controllers_on, hosts_on, ends_on}
use Rattle.ring_core.specs.Legal.{IsMember}
use Rattle.ring_core.specs.Machine.{is_bridge}
use Rattle.ring_laws.proofs.Lists.{contains-count, count-cons, only-one}
use Rattle.net_laws.proofs.Sums.{once-distinct, sum-mapped, sum-there}
use Rattle.net_laws.proofs.Members.{all_nodes, alone, ends-some, members-stand, nets-differ}
use Rattle.net_laws.proofs.Members.{nodes-once, times}

-- ---- what stands in lists

contains-at : {X : Type 0} (xs : List X) (k : ℕ) (x : X) → slice_get xs k ≡ Some x → Contains xs x
contains-at xs k x is = (k, slice_get_within xs k x is, get_or_from_slice_get xs k x x is)

contains-map : {X Y : Type 0} (f : X → Y) (xs : List X) (x : X) → Contains xs x
    → Contains (map f xs) (f x)
contains-map f [] x there = absurd (let low = there.1 in omega (arith, low))
contains-map f (y ∷ ys) x (zero, low, is) = (0, omega arith, ap f is)
contains-map f (y ∷ ys) x (suc k, low, is) =
    let rest = contains-map f ys x (k, omega (arith, low), is) in
    (suc rest.0, let more = rest.1 in omega (arith, more), rest.2)

from-map : {X Y : Type 0} (f : X → Y) (xs : List X) (y : Y) → Contains (map f xs) y
    → (x : X) × Contains xs x × (f x ≡ y)
from-map f [] y there = absurd (let low = there.1 in omega (arith, low))
from-map f (x ∷ xs) y (zero, low, is) = (x, (0, omega arith, refl), is)
from-map f (x ∷ xs) y (suc k, low, is) =
    let rest = from-map f xs y (k, omega (arith, low), is) in
    (rest.0, (suc rest.1.0, let more = rest.1.1 in omega (arith, more), rest.1.2), rest.2)

contains-filter : {X : Type 0} (test : X → Bool) (xs : List X) (x : X) → test x ≡ true
    → Contains xs x → Contains (filter test xs) x
contains-filter test [] x is there = absurd (let low = there.1 in omega (arith, low))
contains-filter test (y ∷ ys) x is (zero, low, same) =
    subst (λ l. Contains l x)
    (sym (ap (λ b. cond b (y ∷ filter test ys) (filter test ys)) (ap test same ∙ is)))
    (0, omega arith, same)
contains-filter test (y ∷ ys) x is (suc k, low, same) =
    at (test y) (contains-filter test ys x is (k, omega (arith, low), same))
  where
    at : (b : Bool) → Contains (filter test ys) x
        → Contains (cond b (y ∷ filter test ys) (filter test ys)) x
    at true there = (suc there.0, let more = there.1 in omega (arith, more), there.2)
    at false there = there

contains-flat : {X Y : Type 0} (parts : X → List Y) (xs : List X) (x : X) (y : Y) → Contains xs x
    → Contains (parts x) y → Contains (flat_map parts xs) y
contains-flat parts [] x y there part = absurd (let low = there.1 in omega (arith, low))
contains-flat parts (z ∷ zs) x y (zero, low, is) part =
    Contains-append_left (parts z) (flat_map parts zs) y
    (subst (λ w. Contains (parts w) y) (sym is) part)
contains-flat parts (z ∷ zs) x y (suc k, low, is) part =
    Contains-append_right (parts z) (flat_map parts zs) y
    (contains-flat parts zs x y (k, omega (arith, low), is) part)

-- ---- members, found and counted

-- how often an address is a member of networks
abbrev pub member_times : ℕ → List NetPlan → ℕ
member_times n nets = sum_by (λ (net : NetPlan). times n net.members) nets

-- an address that stands in a list is counted there
pub there-times : (n : ℕ) (ms : List ℕ) → Contains ms n → 1 ≤ times n ms
there-times n ms there = contains-count (λ m. n == m) ms n (eq-eqb n n refl) there

there-any : (n : ℕ) (ms : List ℕ) → Contains ms n → list_any (λ m. m == n) ms ≡ true
there-any n ms (k, low, is) = list_any_at (λ m. m == n) ms k n low (eq-eqb _ n is)

any-times : (n : ℕ) (ms : List ℕ) → list_any (λ m. m == n) ms ≡ true → 1 ≤ times n ms
any-times n [] is = absurd cc
any-times n (m ∷ ms) is =
    let step = count-cons (λ k. n == k) m ms in
    ⊎_elim
    (λ (here : (m == n) ≡ true).
    let one : cond {A = ℕ} (n == m) 1 0 ≡ 1 =
    ap (λ b. cond b 1 0) (eq-eqb n m (sym (eqb-true m n here))) in
    omega (arith, step, one))
    (λ (more : list_any (λ k. k == n) ms ≡ true).
    let rest = any-times n ms more in omega (arith, step, rest))
    (or_cases (m == n) (list_any (λ k. k == n) ms) is)

-- each address is a member of one network at most
pub members-once : (plant : Plant) (n : ℕ) → IsPlant plant → member_times n plant.nets ≤ 1
members-once plant n is =
    let stand = members-stand plant n plant.nets is.nets (nets-differ plant is) in
    let once = nodes-once plant n is in
    omega (arith, stand, once)

found : (n : ℕ) (nets : List NetPlan) (net : NetPlan) → member_times n nets ≤ 1
    → Contains nets net → IsMember net n → find (has_member n) nets ≡ Some net
found n [] net few there member = absurd (let low = there.1 in omega (arith, low))
found n (x ∷ nets) net few (zero, low, is) member =
    let has : has_member n x ≡ true = ap (has_member n) is ∙ there-any n net.members member in
    ap (λ b. cond b (Some x) (find (has_member n) nets)) has ∙ ap Some is
found n (x ∷ nets) net few (suc k, low, is) member =
    let behind : Contains nets net = (k, omega (arith, low), is) in
    let step = sum_by-cons (λ (m : NetPlan). times n m.members) x nets in
    let some = there-times n net.members member in
    let share = sum-there (λ (m : NetPlan). times n m.members) nets net behind in
    ⊎_elim
    (λ (has : has_member n x ≡ true).
    let first = any-times n x.members has in
    absurd (omega (arith, step, few, some, share, first)))
    (λ (no' : has_member n x ≡ false).
    ap (λ b. cond b (Some x) (find (has_member n) nets)) no'
    ∙ found n nets net (omega (arith, step, few)) behind member)
    (cases_Bool (has_member n x))

-- the network of a member of one of a plant is that one
pub net-of-is : (plant : Plant) (net : NetPlan) (n : ℕ) → IsPlant plant → Contains plant.nets net
    → IsMember net n → net_of plant n ≡ net
net-of-is plant net n is there member =
    ap (λ o. unwrap_or o no_net) (found n plant.nets net (members-once plant n is) there member)

-- a network of a plant has its stations and ends of bridges as members
pub net-sound : (plant : Plant) (net : NetPlan) → IsPlant plant → Contains plant.nets net
    → IsNetOf plant net
net-sound plant net is there = All-contains (IsNetOf plant) plant.nets net is.nets there

-- networks of a plant that have one number are one
pub net-same : (plant : Plant) (one two : NetPlan) → IsPlant plant → Contains plant.nets one
    → Contains plant.nets two → one.number ≡ two.number → one ≡ two
net-same plant one two is there here same =
    let number = two.number in
    let test = λ (net : NetPlan). number == net.number in
    let once = once-distinct number (net_numbers plant) (nets-differ plant is) in
    let all = sum-mapped (λ n. cond {A = ℕ} (number == n) 1 0) (λ (net : NetPlan). net.number)
    plant.nets in
    only-one test plant.nets one two (omega (arith, once, all))
    (eq-eqb number one.number (sym same)) (eq-eqb number number refl) there here

-- ---- the network of a station, and of an end

-- a node is a member of the network of this number
pub record IsOn (plant : Plant) (network node : ℕ) : Type 0 where
  pub net : NetPlan
  pub there : Contains plant.nets net
  pub number : net.number ≡ network
  pub member : IsMember net node
  pub is : net_of plant node ≡ net
  pub sound : IsNetPlan net

on-from : (plant : Plant) (network node : ℕ) → IsPlant plant
    → Contains (net_numbers plant) network
    → Contains (controllers_on plant network ++ hosts_on plant network ++ ends_on plant network)
    node → IsOn plant network node
on-from plant network node is named stands =
    let of = from-map (λ (net : NetPlan). net.number) plant.nets network named in
    let sound = net-sound plant of.0 is of.1 in
    let member : IsMember of.0 node = Contains-permutation
    (controllers_on plant of.0.number ++ hosts_on plant of.0.number ++ ends_on plant of.0.number)
    of.0.members node sound.members
    (subst (λ (k : ℕ). Contains (controllers_on plant k ++ hosts_on plant k ++ ends_on plant k)
    node) (sym of.2) stands) in
    record {
      net = of.0;
      there = of.1;
      number = of.2;
      member = member;
      is = net-of-is plant of.0 node is of.1 member;
      sound = sound.plan;
    }

-- a controller of a plant is on its network
pub controller-on : (plant : Plant) (plan : ControllerPlan) → IsPlant plant
    → Contains plant.controllers plan → IsOn plant plan.network plan.node
controller-on plant plan is there =
    let network = plan.network in
    let named = All-contains (λ (p : ControllerPlan). Contains (net_numbers plant) p.network)
    plant.controllers plan is.controllers_there there in
    on-from plant network plan.node is named
    (Contains-append_left (controllers_on plant network ++ hosts_on plant network)
    (ends_on plant network) plan.node
    (Contains-append_left (controllers_on plant network) (hosts_on plant network) plan.node
    (contains-map (λ (p : ControllerPlan). p.node)
    (filter (λ (p : ControllerPlan). p.network == network) plant.controllers) plan
    (contains-filter (λ (p : ControllerPlan). p.network == network) plant.controllers plan
    (eq-eqb network network refl) there))))

-- so is a host
pub host-on : (plant : Plant) (plan : HostPlan) → IsPlant plant → Contains plant.hosts plan
    → IsOn plant plan.network plan.node
host-on plant plan is there =
    let network = plan.network in
    let named = All-contains (λ (p : HostPlan). Contains (net_numbers plant) p.network)
    plant.hosts plan is.hosts_there there in
    on-from plant network plan.node is named
    (Contains-append_left (controllers_on plant network ++ hosts_on plant network)
    (ends_on plant network) plan.node
    (Contains-append_right (controllers_on plant network) (hosts_on plant network) plan.node
    (contains-map (λ (p : HostPlan). p.node)
    (filter (λ (p : HostPlan). p.network == network) plant.hosts) plan
    (contains-filter (λ (p : HostPlan). p.network == network) plant.hosts plan
    (eq-eqb network network refl) there))))

-- the same by their places
pub controller-at-on : (plant : Plant) (at : ℕ) (plan : ControllerPlan) → IsPlant plant
    → slice_get plant.controllers at ≡ Some plan → IsOn plant plan.network plan.node
controller-at-on plant at plan is found' =
    controller-on plant plan is (contains-at plant.controllers at plan found')

pub host-at-on : (plant : Plant) (at : ℕ) (plan : HostPlan) → IsPlant plant
    → slice_get plant.hosts at ≡ Some plan → IsOn plant plan.network plan.node
host-at-on plant at plan is found' = host-on plant plan is (contains-at plant.hosts at plan found')

-- the ends of a bridge on a network
left-of : (network : ℕ) (bridge : BridgePlan) → bridge.left_net ≡ network
    → Contains (ends_of network bridge) bridge.left
left-of network bridge same =
    Contains-append_left (cond (bridge.left_net == network) (bridge.left ∷ []) [])
    (cond (bridge.right_net == network) (bridge.right ∷ []) []) bridge.left
    (subst (λ (b : Bool). Contains (cond b (bridge.left ∷ []) []) bridge.left)
    (sym (eq-eqb bridge.left_net network same)) (0, omega arith, refl))

right-of : (network : ℕ) (bridge : BridgePlan) → bridge.right_net ≡ network
    → Contains (ends_of network bridge) bridge.right
right-of network bridge same =
    Contains-append_right (cond (bridge.left_net == network) (bridge.left ∷ []) [])
    (cond (bridge.right_net == network) (bridge.right ∷ []) []) bridge.right
    (subst (λ (b : Bool). Contains (cond b (bridge.right ∷ []) []) bridge.right)
    (sym (eq-eqb bridge.right_net network same)) (0, omega arith, refl))

end-on : (plant : Plant) (bridge : BridgePlan) (network side : ℕ) → IsPlant plant
    → Contains plant.bridges bridge → Contains (net_numbers plant) network
    → Contains (ends_of network bridge) side → IsOn plant network side
end-on plant bridge network side is there named stands =
    on-from plant network side is named
    (Contains-append_right (controllers_on plant network ++ hosts_on plant network)
    (ends_on plant network) side
    (contains-flat (ends_of network) plant.bridges bridge side there stands))

-- a bridge's left end is on its left network
pub left-on : (plant : Plant) (bridge : BridgePlan) → IsPlant plant
    → Contains plant.bridges bridge → IsOn plant bridge.left_net bridge.left
left-on plant bridge is there =
    let of = All-contains (IsBridgeOf plant) plant.bridges bridge is.bridges there in
    end-on plant bridge bridge.left_net bridge.left is there of.left_there
    (left-of bridge.left_net bridge refl)

-- and its right end on its right one
pub right-on : (plant : Plant) (bridge : BridgePlan) → IsPlant plant
    → Contains plant.bridges bridge → IsOn plant bridge.right_net bridge.right
right-on plant bridge is there =
    let of = All-contains (IsBridgeOf plant) plant.bridges bridge is.bridges there in
    end-on plant bridge bridge.right_net bridge.right is there of.right_there
    (right-of bridge.right_net bridge refl)

-- ---- ends of bridges, and stations

-- the ends of a network stand among the plant's
ends-few : (plant : Plant) (net : NetPlan) (n : ℕ) → IsPlant plant → Contains plant.nets net
    → times n net.bridges ≤ times n (end_nodes plant)
ends-few plant net n is there =
    let one = λ (m : ℕ). cond {A = ℕ} (n == m) 1 0 in
    let moved = sum_by-IsPermutation one (ends_on plant net.number) net.bridges
    (net-sound plant net is there).bridges in
    let some = ends-some n (net.number ∷ []) plant.bridges (alone net.number) in
    let step = sum_by-cons (λ number. times n (flat_map (ends_of number) plant.bridges)) net.number
    [] in
    omega (arith, moved, some, step)

-- how often an address is that of a controller, of a host or of an end
pub counted-nodes : (plant : Plant) (n : ℕ)
    → times n (all_nodes plant)
    ≡ times n (controller_nodes plant) + times n (host_nodes plant) + times n (end_nodes plant)
counted-nodes plant n =
    let one = λ (m : ℕ). cond {A = ℕ} (n == m) 1 0 in
    let nodes = sum_by-append one (controller_nodes plant ++ host_nodes plant) (end_nodes plant) in
    let rest = sum_by-append one (controller_nodes plant) (host_nodes plant) in
    omega (arith, nodes, rest)

station-no-bridge : (plant : Plant) (net : NetPlan) (n : ℕ) → IsPlant plant
    → Contains plant.nets net → 1 ≤ times n (controller_nodes plant) + times n (host_nodes plant)
    → is_bridge net n ≡ false
station-no-bridge plant net n is there station =
    ⊎_elim
    (λ (end : is_bridge net n ≡ true).
    let some = any-times n net.bridges end in
    let few = ends-few plant net n is there in
    let once = nodes-once plant n is in
    let all = counted-nodes plant n in
    absurd (omega (arith, station, some, few, once, all)))
    (λ (no' : is_bridge net n ≡ false). no')
    (cases_Bool (is_bridge net n))

-- a controller is no end of a bridge on any network
pub controller-no-bridge : (plant : Plant) (plan : ControllerPlan) (net : NetPlan) → IsPlant plant
    → Contains plant.controllers plan → Contains plant.nets net → is_bridge net plan.node ≡ false
controller-no-bridge plant plan net is there stands =
    let some = there-times plan.node (controller_nodes plant)
    (contains-map (λ (p : ControllerPlan). p.node) plant.controllers plan there) in
    station-no-bridge plant net plan.node is stands (omega (arith, some))

-- nor is a host
pub host-no-bridge : (plant : Plant) (plan : HostPlan) (net : NetPlan) → IsPlant plant
    → Contains plant.hosts plan → Contains plant.nets net → is_bridge net plan.node ≡ false
host-no-bridge plant plan net is there stands =
    let some = there-times plan.node (host_nodes plant)
    (contains-map (λ (p : HostPlan). p.node) plant.hosts plan there) in
    station-no-bridge plant net plan.node is stands (omega (arith, some))
