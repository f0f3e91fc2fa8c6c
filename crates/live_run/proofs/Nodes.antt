-- The nodes of a plant are new one after another, and each of its networks has one ring.
use Rattle.std.proofs.Common.{◌≡◌, ℕ, zero, suc, ◌+◌, ◌<◌, ◌≤◌, ◌||◌, ◌==◌, false, true, cond, List}
use Rattle.std.proofs.Common.{[], ◌∷◌, ◌++◌, map, reverse, refl, sym, ap, subst, ◌∙◌, arith}
use Rattle.std.proofs.Common.{⊎_elim}
use Rattle.std.specs.Prelude.{flat_map, nat_eq}
use Rattle.std.specs.List.{All, AllByRecursion as Each, Contains, IsDistinct, count_by}
use Rattle.std.proofs.lemmas.Bool.{cases_Bool, eq-eqb, eqb-true}
use Rattle.std.proofs.lemmas.List.{append_assoc, reverse-append}
use Rattle.std.proofs.lemmas.List.Elements.{All-append, All-cons, All-contains, All-head, All-map}
use Rattle.std.proofs.lemmas.List.Elements.{All-nil, All-tail, All-weaker}
use Rattle.std.proofs.lemmas.List.Sums.{sum_by-cons}
use Rattle.turn_gate.specs.Known.{is_among}
use Rattle.plant_types.specs.declared.net.BridgePlan.{BridgePlan}
use Rattle.plant_types.specs.declared.net.HostPlan.{HostPlan}
use Rattle.plant_types.specs.declared.net.NetPlan.{NetPlan}
use Rattle.plant_types.specs.declared.plan.ControllerPlan.{ControllerPlan}
use Rattle.plant_types.specs.declared.plan.Plant.{Plant}
use Rattle.plant_types.specs.Plans.{IsBridgeOf, IsNetOf, IsNode, IsPlant, controller_nodes}
use Rattle.plant_types.specs.Plans.{host_nodes, net_numbers}
use Rattle.plant_types.proofs.Rising.{flips}
use Rattle.ring_core.specs.Machine.{addresses}
use Rattle.net_laws.proofs.Members.{nets-differ, nodes-once, times}
use Rattle.net_laws.proofs.On.{IsOn, controller-on, host-on}
use Rattle.net_laws.proofs.Rings.{low-members}
use Rattle.live_run.specs.Closing.{net_of_gate}
use Rattle.live_run.specs.Dealing.{AreNew}
use Rattle.live_run.specs.Ends.{ends_of_plan}
use Rattle.live_run.specs.Homes.{AreRingsApart, HasRing, RingGate, is_ring_of}
use Rattle.live_run.proofs.Places.{find-here, find-later}
use Rattle.live_run.proofs.Zipped.{all-there, from-images}

-- ---- numbers that are new

count-cons : (m x : ℕ) (xs : List ℕ) → times m (x ∷ xs) ≡ cond (m == x) 1 0 + times m xs
count-cons m x xs = sum_by-cons (λ n. cond {A = ℕ} (m == n) 1 0) x xs

none-among : (m : ℕ) (xs : List ℕ) → times m xs ≡ 0 → is_among m xs ≡ false
none-among m [] none = refl
none-among m (x ∷ xs) none =
    let all = count-cons m x xs in
    ⊎_elim
    (λ (is : (m == x) ≡ true).
    let one : cond {A = ℕ} (m == x) 1 0 ≡ 1 = ap (λ b. cond b 1 0) is in
    absurd (omega (arith, all, one, none)))
    (λ (is : (m == x) ≡ false).
    ap (λ b. b || is_among m xs) is ∙ none-among m xs (omega (arith, all, none)))
    (cases_Bool (m == x))

new-all : (given ns : List ℕ) → All (λ n. 1 ≤ n) ns
    → ((m : ℕ) → times m given + times m ns ≤ 1) → AreNew given ns
new-all given [] high once = tt
new-all given (n ∷ ns) high once = (
  (λ is. let first = All-head (λ m. 1 ≤ m) n ns high in omega (arith, is, first)),
  none-among n given
      (let few = once n in
      let all = count-cons n n ns in
      let one : cond {A = ℕ} (n == n) 1 0 ≡ 1 = ap (λ b. cond b 1 0) (eq-eqb n n refl) in
      omega (arith, few, all, one)),
  new-all (n ∷ given) ns (All-tail (λ m. 1 ≤ m) n ns high)
      (λ m. let few = once m in
      let one = count-cons m n ns in
      let two = count-cons m n given in
      omega (arith, few, one, two)),
)

rev-cons : (x : ℕ) (xs given : List ℕ) → reverse (x ∷ xs) ++ given ≡ reverse xs ++ x ∷ given
rev-cons x xs given = ap (λ l. l ++ given) (reverse-append (x ∷ []) xs)
    ∙ append_assoc (reverse xs) (x ∷ []) given

new-parts : (given xs ys : List ℕ) → AreNew given (xs ++ ys)
    → AreNew given xs × AreNew (reverse xs ++ given) ys
new-parts given [] ys new = (tt, new)
new-parts given (x ∷ xs) ys new =
    let r = new-parts (x ∷ given) xs ys new.2 in
    ((new.0, new.1, r.0), subst (λ l. AreNew l ys) (sym (rev-cons x xs given)) r.1)

-- ---- the nodes of a plant

-- a node of a network has an address
node-high : (plant : Plant) (network node : ℕ) → IsOn plant network node → 1 ≤ node
node-high plant network node on =
    (All-contains IsNode on.net.members node on.sound.members.each on.member).from

ends-high : (plant : Plant) (bridges : List BridgePlan) → All (IsBridgeOf plant) bridges
    → All (λ n. 1 ≤ n) (flat_map ends_of_plan bridges)
ends-high plant [] all = All-nil (λ n. 1 ≤ n)
ends-high plant (b ∷ bridges) all =
    let P = λ (n : ℕ). 1 ≤ n in
    let it = (All-head (IsBridgeOf plant) b bridges all).plan in
    let rest = flat_map ends_of_plan bridges in
    All-cons P b.left (b.right ∷ rest) it.left.from
    (All-cons P b.right rest it.right.from
    (ends-high plant bridges (All-tail (IsBridgeOf plant) b bridges all)))

-- numbers of controllers, then of hosts, and then of ends of bridges, which are new
pub record AreNodesNew (plans : List ControllerPlan) (host_plans : List HostPlan)
    (bridge_plans : List BridgePlan) : Type 0 where
  pub controllers : AreNew [] (map (λ (p : ControllerPlan). p.node) plans)
  pub hosts : AreNew (reverse (map (λ (p : ControllerPlan). p.node) plans) ++ [])
      (map (λ (p : HostPlan). p.node) host_plans)
  pub ends : AreNew (reverse (map (λ (p : HostPlan). p.node) host_plans)
      ++ (reverse (map (λ (p : ControllerPlan). p.node) plans) ++ []))
      (flat_map ends_of_plan bridge_plans)

nodes-new : (plant : Plant) → IsPlant plant
    → AreNodesNew plant.controllers plant.hosts plant.bridges
nodes-new plant sound =
    let P = λ (n : ℕ). 1 ≤ n in
    let c = controller_nodes plant in
    let h = host_nodes plant in
    let e = flat_map ends_of_plan plant.bridges in
    let ran : All P c = All-map P (λ (p : ControllerPlan). p.node) plant.controllers
    (all-there (λ (p : ControllerPlan). 1 ≤ p.node) plant.controllers
    (λ p there. node-high plant p.network p.node (controller-on plant p sound there))) in
    let served : All P h = All-map P (λ (p : HostPlan). p.node) plant.hosts
    (all-there (λ (p : HostPlan). 1 ≤ p.node) plant.hosts
    (λ p there. node-high plant p.network p.node (host-on plant p sound there))) in
    let high : All P ((c ++ h) ++ e) = All-append P (c ++ h) e (All-append P c h ran served)
    (ends-high plant plant.bridges sound.bridges) in
    let all = new-all [] ((c ++ h) ++ e) high
    (λ m. let few = nodes-once plant m sound in omega (arith, few)) in
    let one = new-parts [] (c ++ h) e all in
    let two = new-parts [] c h one.0 in
    let given : reverse (c ++ h) ++ [] ≡ reverse h ++ (reverse c ++ []) =
    ap (λ l. l ++ []) (reverse-append c h) ∙ append_assoc (reverse h) (reverse c) [] in
    record {
      controllers = two.0;
      hosts = two.1;
      ends = subst (λ l. AreNew l e) given one.1;
    }

-- by the plans as they are read
pub nodes-read : (plant : Plant) (plans : List ControllerPlan) (host_plans : List HostPlan)
    (bridge_plans : List BridgePlan) → IsPlant plant → plans ≡ plant.controllers
    → host_plans ≡ plant.hosts → bridge_plans ≡ plant.bridges
    → AreNodesNew plans host_plans bridge_plans
nodes-read plant plans host_plans bridge_plans sound one two three =
    subst (λ (l : List ControllerPlan). AreNodesNew l host_plans bridge_plans) (sym one)
    (subst (λ (l : List HostPlan). AreNodesNew plant.controllers l bridge_plans) (sym two)
    (subst (λ (l : List BridgePlan). AreNodesNew plant.controllers plant.hosts l) (sym three)
    (nodes-new plant sound)))

-- ---- rings of networks

has-ring : (network : ℕ) (gates : List RingGate)
    → Contains (map (λ (net : NetPlan). net.number) (map net_of_gate gates)) network
    → HasRing gates network
has-ring network [] there = absurd (let low = there.1 in omega (arith, low))
has-ring network (g ∷ gates) (zero, low, is) =
    (g, find-here (is_ring_of network) g gates (eq-eqb g.fixed.number network is))
has-ring network (g ∷ gates) (suc k, low, is) = ⊎_elim
    (λ (yes : is_ring_of network g ≡ true). (g, find-here (is_ring_of network) g gates yes))
    (λ (no' : is_ring_of network g ≡ false).
    let rest = has-ring network gates (k, omega (arith, low), is) in
    (rest.0, find-later (is_ring_of network) g gates no' ∙ rest.1))
    (cases_Bool (is_ring_of network g))

none-like : (m : ℕ) (xs : List ℕ) → Each (λ y. (m == y) ≡ false) xs → times m xs ≡ 0
none-like m [] all = refl
none-like m (x ∷ xs) all =
    let step = count-cons m x xs in
    let none : cond {A = ℕ} (m == x) 1 0 ≡ 0 = ap (λ b. cond b 1 0) all.0 in
    let rest = none-like m xs all.1 in
    omega (arith, step, none, rest)

-- a number stands once among those that differ
once : (m : ℕ) (xs : List ℕ) → IsDistinct nat_eq xs → times m xs ≤ 1
unfolding IsDistinct
once m [] distinct = omega arith
once m (x ∷ xs) distinct =
    let step = count-cons m x xs in
    ⊎_elim
    (λ (is : (m == x) ≡ true).
    let one : cond {A = ℕ} (m == x) 1 0 ≡ 1 = ap (λ b. cond b 1 0) is in
    let none = none-like m xs
    (subst (λ (k : ℕ). Each (λ y. (k == y) ≡ false) xs) (sym (eqb-true m x is)) distinct.0) in
    omega (arith, step, one, none))
    (λ (is : (m == x) ≡ false).
    let none : cond {A = ℕ} (m == x) 1 0 ≡ 0 = ap (λ b. cond b 1 0) is in
    let rest = once m xs distinct.1 in
    omega (arith, step, none, rest))
    (cases_Bool (m == x))

counted : (network : ℕ) (gates : List RingGate) → count_by (is_ring_of network) gates
    ≡ times network (map (λ (net : NetPlan). net.number) (map net_of_gate gates))
counted network [] = refl
counted network (g ∷ gates) =
    let here = sum_by-cons (λ (x : RingGate). cond {A = ℕ} (is_ring_of network x) 1 0) g gates in
    let there = count-cons network g.fixed.number
    (map (λ (net : NetPlan). net.number) (map net_of_gate gates)) in
    let same : cond {A = ℕ} (is_ring_of network g) 1 0 ≡ cond (network == g.fixed.number) 1 0 =
    ap (λ b. cond b 1 0) (flips g.fixed.number network) in
    let rest = counted network gates in
    omega (arith, here, there, same, rest)

module _ (plant : Plant) (sound : IsPlant plant) (gates : List RingGate)
    (nets : map net_of_gate gates ≡ plant.nets) where
  -- a network of a plant has its ring
  pub ring-there : (network : ℕ) → Contains (net_numbers plant) network → HasRing gates network
  ring-there network there =
      has-ring network gates
      (subst (λ (l : List NetPlan). Contains (map (λ (net : NetPlan). net.number) l) network)
      (sym nets) there)

  -- and no other
  pub rings-apart : AreRingsApart gates
  rings-apart network =
      let all = counted network gates in
      let same : times network (map (λ (net : NetPlan). net.number) (map net_of_gate gates))
      ≡ times network (net_numbers plant) =
      ap (λ (l : List NetPlan). times network (map (λ (net : NetPlan). net.number) l)) nets in
      let few = once network (net_numbers plant) (nets-differ plant sound) in
      omega (arith, all, same, few)

  -- the members of each have low addresses
  pub rings-low : All (λ (g : RingGate). All (λ m. m < addresses) g.fixed.members) gates
  rings-low =
      All-weaker (λ (g : RingGate). IsNetOf plant g.fixed)
      (λ (g : RingGate). All (λ m. m < addresses) g.fixed.members)
      (λ g is. low-members plant g.fixed is) gates
      (from-images (IsNetOf plant) net_of_gate gates
      (subst (λ (l : List NetPlan). All (IsNetOf plant) l) (sym nets) sound.nets))

  -- the network of each node has its ring
  pub controllers-rings : All (λ (p : ControllerPlan). HasRing gates p.network) plant.controllers
  controllers-rings = All-weaker (λ (p : ControllerPlan). Contains (net_numbers plant) p.network)
      (λ (p : ControllerPlan). HasRing gates p.network) (λ p there. ring-there p.network there)
      plant.controllers sound.controllers_there

  pub hosts-rings : All (λ (p : HostPlan). HasRing gates p.network) plant.hosts
  hosts-rings = All-weaker (λ (p : HostPlan). Contains (net_numbers plant) p.network)
      (λ (p : HostPlan). HasRing gates p.network) (λ p there. ring-there p.network there)
      plant.hosts sound.hosts_there

  pub ends-rings : All (λ (p : BridgePlan). HasRing gates p.left_net × HasRing gates p.right_net)
      plant.bridges
  ends-rings = All-weaker (IsBridgeOf plant)
      (λ (p : BridgePlan). HasRing gates p.left_net × HasRing gates p.right_net)
      (λ p is. (ring-there p.left_net is.left_there, ring-there p.right_net is.right_there))
      plant.bridges sound.bridges
