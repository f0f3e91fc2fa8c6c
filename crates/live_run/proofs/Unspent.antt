-- No node left because its Passes were spent, where none of a plant's nodes did.
use Rattle.std.proofs.Common.{◌≡◌, ℕ, zero, suc, ◌<◌, ◌==◌, false, List, [], ◌∷◌, ◌++◌, map}
use Rattle.std.proofs.Common.{get_or, length, sym, subst, arith, ⊎_elim, refl}
use Rattle.std.specs.Prelude.{flat_map}
use Rattle.std.specs.List.{AllZip, Contains}
use Rattle.std.proofs.lemmas.Bool.{eq-eqb, eqb-true}
use Rattle.std.proofs.lemmas.List.Elements.{All-contains, Contains-append_cases, Contains-get_or}
use Rattle.plant_types.specs.declared.net.BridgePlan.{BridgePlan}
use Rattle.plant_types.specs.declared.net.HostPlan.{HostPlan}
use Rattle.plant_types.specs.declared.net.NetPlan.{NetPlan}
use Rattle.plant_types.specs.declared.plan.ControllerPlan.{ControllerPlan}
use Rattle.plant_types.specs.declared.plan.Plant.{Plant}
use Rattle.plant_types.specs.Plans.{IsPlant, controller_nodes, end_nodes, host_nodes}
use Rattle.ring_core.specs.declared.entry.RingEntry.{RingEntry}
use Rattle.ring_core.specs.Legal.{IsMember}
use Rattle.ring_core.specs.Words.{maker}
use Rattle.ring_laws.proofs.Lists.{count-contains}
use Rattle.tied_lists.specs.Own.{is_of, own}
use Rattle.joint_history.specs.declared.joint.RingLog.{RingLog}
use Rattle.joint_history.specs.JointLaws.{IsLegalRingLog}
use Rattle.joint_history.specs.Nets.{entries_of_rings}
use Rattle.live_workers.specs.TurnLaws.{leaves_spent, NoneSpent}
use Rattle.net_laws.proofs.Members.{all_nodes, member-stands}
use Rattle.net_laws.proofs.On.{net-sound, there-times}
use Rattle.net_laws.proofs.Rings.{entry-on}
use Rattle.live_run.specs.Ends.{ends_of_plan}
use Rattle.live_run.proofs.Zipped.{contains-filter}

-- a member of a network is a node of the plant
member-node : (plant : Plant) (net : NetPlan) (n : ℕ) → IsPlant plant → Contains plant.nets net
    → IsMember net n → Contains (all_nodes plant) n
member-node plant net n sound there member =
    let some = there-times n net.members member in
    let few = member-stands plant n net (net-sound plant net sound there) in
    let found = count-contains (λ (m : ℕ). n == m) (all_nodes plant) (omega (arith, some, few)) in
    subst (λ (m : ℕ). Contains (all_nodes plant) m) (sym (eqb-true n found.0 found.2)) found.1

pub none-spent : (plant : Plant) (rings : List RingLog) → IsPlant plant
    → AllZip IsLegalRingLog plant.nets rings
    → ((n : ℕ) → Contains (all_nodes plant) n → NoneSpent (own n (entries_of_rings rings)))
    → NoneSpent (entries_of_rings rings)
none-spent plant rings sound legal each k d low =
    let noted = entries_of_rings rings in
    let e = get_or noted k d in
    let there : Contains noted e = Contains-get_or noted k d low in
    let on = entry-on plant.nets rings e legal there in
    let node = member-node plant on.net (maker e) sound on.there on.member in
    All-contains (λ (x : RingEntry). leaves_spent x ≡ false) (own (maker e) noted) e
    (each (maker e) node)
    (contains-filter (is_of (maker e)) noted e (eq-eqb (maker e) (maker e) refl) there)

-- what holds of the node of each plan holds of each of these nodes
at-node : {A B : Type 0} (node_of : A → ℕ) (C : ℕ → Type 0) (P : A → B → Type 0)
    → ((a : A) (b : B) → P a b → C (node_of a)) → (xs : List A) (ys : List B) → AllZip P xs ys
    → (k n : ℕ) → k < length (map node_of xs) → get_or (map node_of xs) k n ≡ n → C n
at-node node_of C P f [] ys all k n low is = absurd (omega (arith, low))
at-node node_of C P f (x ∷ xs) [] all k n low is = absurd all
at-node node_of C P f (x ∷ xs) (y ∷ ys) all zero n low is = subst C is (f x y all.0)
at-node node_of C P f (x ∷ xs) (y ∷ ys) all (suc k) n low is =
    at-node node_of C P f xs ys all.1 k n (omega (arith, low)) is

at-end : {B : Type 0} (C : ℕ → Type 0) (P : BridgePlan → B → Type 0)
    → ((a : BridgePlan) (b : B) → P a b → C a.left × C a.right) → (xs : List BridgePlan)
    (ys : List B) → AllZip P xs ys → (k n : ℕ) → k < length (flat_map ends_of_plan xs)
    → get_or (flat_map ends_of_plan xs) k n ≡ n → C n
at-end C P f [] ys all k n low is = absurd (omega (arith, low))
at-end C P f (x ∷ xs) [] all k n low is = absurd all
at-end C P f (x ∷ xs) (y ∷ ys) all zero n low is = subst C is (f x y all.0).0
at-end C P f (x ∷ xs) (y ∷ ys) all (suc zero) n low is = subst C is (f x y all.0).1
at-end C P f (x ∷ xs) (y ∷ ys) all (suc (suc k)) n low is =
    at-end C P f xs ys all.1 k n (omega (arith, low)) is

-- what holds of the nodes of all controllers, of all hosts and of all ends holds of all nodes
pub at-nodes : {A B D : Type 0} (plant : Plant) (C : ℕ → Type 0)
    (P : ControllerPlan → A → Type 0) (Q : HostPlan → B → Type 0) (R : BridgePlan → D → Type 0)
    (logs : List A) (host_logs : List B) (bridge_logs : List D)
    → ((a : ControllerPlan) (b : A) → P a b → C a.node)
    → ((a : HostPlan) (b : B) → Q a b → C a.node)
    → ((a : BridgePlan) (b : D) → R a b → C a.left × C a.right)
    → AllZip P plant.controllers logs → AllZip Q plant.hosts host_logs
    → AllZip R plant.bridges bridge_logs → (n : ℕ) → Contains (all_nodes plant) n → C n
at-nodes plant C P Q R logs host_logs bridge_logs f g h ran served crossed n there =
    ⊎_elim
    (λ (s : Contains (controller_nodes plant ++ host_nodes plant) n). ⊎_elim
    (λ (c : Contains (controller_nodes plant) n). at-node (λ (p : ControllerPlan). p.node) C P f
    plant.controllers logs ran c.0 n c.1 c.2)
    (λ (c : Contains (host_nodes plant) n). at-node (λ (p : HostPlan). p.node) C Q g plant.hosts
    host_logs served c.0 n c.1 c.2)
    (Contains-append_cases (controller_nodes plant) (host_nodes plant) n s))
    (λ (e : Contains (end_nodes plant) n). at-end C R h plant.bridges bridge_logs crossed e.0 n
    e.1 e.2)
    (Contains-append_cases (controller_nodes plant ++ host_nodes plant) (end_nodes plant) n there)
