-- Who a member of a plant's network is.
use Rattle.std.proofs.Common.{◌≡◌, ◌⊎◌, ℕ, zero, suc, ◌==◌, ◌++◌, Bool, true, false, cond}
use Rattle.std.proofs.Common.{List, [], ◌∷◌, map, filter, Some, refl, ap, subst}
use Rattle.std.proofs.Common.{arith, ⊎_elim, inl, inr}
use Rattle.std.specs.Prelude.{flat_map}
use Rattle.std.specs.List.{Contains, slice_get}
use Rattle.std.proofs.lemmas.Bool.{cases_Bool}
use Rattle.std.proofs.lemmas.List.Elements.{Contains-append_cases}
use Rattle.std.proofs.lemmas.List.Sorted.{Contains-permutation, IsPermutation-sym}
use Rattle.plant_types.specs.declared.net.BridgePlan.{BridgePlan}
use Rattle.plant_types.specs.declared.net.HostPlan.{HostPlan}
use Rattle.plant_types.specs.declared.net.NetPlan.{NetPlan}
use Rattle.plant_types.specs.declared.plan.ControllerPlan.{ControllerPlan}
use Rattle.plant_types.specs.declared.plan.Plant.{Plant}
use Rattle.plant_types.specs.Plans.{IsPlant, controllers_on, ends_of, ends_on, hosts_on}
use Rattle.ring_core.specs.Legal.{IsMember}
use Rattle.net_laws.proofs.On.{net-sound}

-- a member is the node of a controller, of a host, or an end of a bridge
pub record IsStation (plant : Plant) (n : ℕ) : Type 0 where
  pub found : ((k : ℕ) × (p : ControllerPlan) × (slice_get plant.controllers k ≡ Some p)
      × (p.node ≡ n))
      ⊎ (((k : ℕ) × (p : HostPlan) × (slice_get plant.hosts k ≡ Some p) × (p.node ≡ n))
      ⊎ ((k : ℕ) × (p : BridgePlan) × (slice_get plant.bridges k ≡ Some p)
      × ((p.left ≡ n) ⊎ (p.right ≡ n))))

-- a node of one of the items
abbrev IsNodeOf : {A : Type 0} → (A → ℕ) → List A → ℕ → Type 0
IsNodeOf {A} node xs n = (j : ℕ) × (x : A) × (slice_get xs j ≡ Some x) × (node x ≡ n)

one-later : {A : Type 0} (node : A → ℕ) (x : A) (xs : List A) (n : ℕ) → IsNodeOf node xs n
    → IsNodeOf node (x ∷ xs) n
one-later node x xs n rest = (suc rest.0, rest.1, rest.2, rest.3)

one-kept : {A : Type 0} (node : A → ℕ) (x : A) (xs more : List A) (n : ℕ)
    → (Contains (map node more) n → IsNodeOf node xs n) → Contains (node x ∷ map node more) n
    → IsNodeOf node (x ∷ xs) n
one-kept node x xs more n rest (zero, low, is) = (0, x, refl, is)
one-kept node x xs more n rest (suc k, low, is) =
    one-later node x xs n (rest (k, omega (arith, low), is))

-- an item that passes a test stands in the list
from-filter : {A : Type 0} (test : A → Bool) (node : A → ℕ) (xs : List A) (n : ℕ)
    → Contains (map node (filter test xs)) n → IsNodeOf node xs n
from-filter test node [] n there = absurd (let low = there.1 in omega (arith, low))
from-filter test node (x ∷ xs) n there =
    ⊎_elim
    (λ (passes : test x ≡ true). one-kept node x xs (filter test xs) n
    (from-filter test node xs n) (subst (λ (l : List ℕ). Contains l n)
    (ap (λ b. map node (cond b (x ∷ filter test xs) (filter test xs))) passes) there))
    (λ (fails : test x ≡ false). one-later node x xs n (from-filter test node xs n (subst
    (λ (l : List ℕ). Contains l n)
    (ap (λ b. map node (cond b (x ∷ filter test xs) (filter test xs))) fails) there)))
    (cases_Bool (test x))

-- an item of the list of one of many lists
from-flat : {A : Type 0} (parts : A → List ℕ) (xs : List A) (n : ℕ) → Contains (flat_map parts xs) n
    → (j : ℕ) × (x : A) × (slice_get xs j ≡ Some x) × Contains (parts x) n
from-flat parts [] n there = absurd (let low = there.1 in omega (arith, low))
from-flat parts (x ∷ xs) n there = ⊎_elim
    (λ (here : Contains (parts x) n). (0, x, refl, here))
    (λ (more : Contains (flat_map parts xs) n).
    let rest = from-flat parts xs n more in (suc rest.0, rest.1, rest.2, rest.3))
    (Contains-append_cases (parts x) (flat_map parts xs) n there)

from-one : (b : Bool) (m n : ℕ) → Contains (cond b (m ∷ []) []) n → m ≡ n
from-one true m n (zero, low, is) = is
from-one true m n (suc k, low, is) = absurd (omega (arith, low))
from-one false m n there = absurd (let low = there.1 in omega (arith, low))

from-end : (network : ℕ) (p : BridgePlan) (n : ℕ) → Contains (ends_of network p) n
    → (p.left ≡ n) ⊎ (p.right ≡ n)
from-end network p n there = ⊎_elim
    (λ (left : Contains (cond (p.left_net == network) (p.left ∷ []) []) n).
    inl (from-one (p.left_net == network) p.left n left))
    (λ (right : Contains (cond (p.right_net == network) (p.right ∷ []) []) n).
    inr (from-one (p.right_net == network) p.right n right))
    (Contains-append_cases (cond (p.left_net == network) (p.left ∷ []) [])
    (cond (p.right_net == network) (p.right ∷ []) []) n there)

pub member-station : (plant : Plant) → IsPlant plant → (net : NetPlan) → Contains plant.nets net
    → (n : ℕ) → IsMember net n → IsStation plant n
member-station plant sound net there n member =
    let number = net.number in
    let c = controllers_on plant number in
    let h = hosts_on plant number in
    let e = ends_on plant number in
    record {
      found = ⊎_elim
          (λ (station : Contains (c ++ h) n). ⊎_elim
          (λ (controller : Contains c n). inl (from-filter
          (λ (plan : ControllerPlan). plan.network == number)
          (λ (plan : ControllerPlan). plan.node) plant.controllers n controller))
          (λ (host : Contains h n). inr (inl (from-filter
          (λ (plan : HostPlan). plan.network == number)
          (λ (plan : HostPlan). plan.node) plant.hosts n host)))
          (Contains-append_cases c h n station))
          (λ (end : Contains e n).
          let of = from-flat (ends_of number) plant.bridges n end in
          inr (inr (of.0, of.1, of.2, from-end number of.1 n of.3)))
          (Contains-append_cases (c ++ h) e n (Contains-permutation net.members (c ++ h ++ e) n
          (IsPermutation-sym (c ++ h ++ e) net.members (net-sound plant net sound there).members)
          member));
    }
