-- No two places of a plant have one address.
use Rattle.std.proofs.Common.{◌≡◌, ◌≢◌, ℕ, zero, suc, ◌+◌, ◌≤◌, ◌==◌, List, [], ◌∷◌, map}
use Rattle.std.proofs.Common.{refl, sym, ap, ◌∙◌, arith, Some}
use Rattle.std.specs.Prelude.{flat_map, slice_get}
use Rattle.std.proofs.lemmas.Bool.{eq-eqb}
use Rattle.plant_types.specs.declared.net.HostPlan.{HostPlan}
use Rattle.plant_types.specs.declared.net.BridgePlan.{BridgePlan}
use Rattle.plant_types.specs.declared.plan.ControllerPlan.{ControllerPlan}
use Rattle.plant_types.specs.declared.plan.Plant.{Plant}
use Rattle.plant_types.specs.Plans.{IsPlant, controller_nodes, host_nodes}
use Rattle.ring_laws.proofs.Lists.{count-cons, one-if}
use Rattle.net_laws.proofs.Members.{nodes-once, times}
use Rattle.net_laws.proofs.On.{counted-nodes}

-- what stands at a place is counted
at-times : {X : Type 0} (node : X → ℕ) (m : ℕ) (xs : List X) (i : ℕ) (x : X)
    → slice_get xs i ≡ Some x → node x ≡ m → 1 ≤ times m (map node xs)
at-times node m [] i x is same = absurd cc
at-times node m (y ∷ ys) zero x is same =
    let here : y ≡ x = cc in
    let one = one-if (m == node y) (eq-eqb m (node y) (sym (ap node here ∙ same))) in
    let step = count-cons (λ n. m == n) (node y) (map node ys) in
    omega (arith, one, step)
at-times node m (y ∷ ys) (suc i) x is same =
    let rest = at-times node m ys i x is same in
    let step = count-cons (λ n. m == n) (node y) (map node ys) in
    omega (arith, rest, step)

-- an address that stands once has one place
one-place : {X : Type 0} (node : X → ℕ) (m : ℕ) (xs : List X) → times m (map node xs) ≤ 1
    → (i j : ℕ) (x y : X) → slice_get xs i ≡ Some x → slice_get xs j ≡ Some y → node x ≡ m
    → node y ≡ m → i ≡ j
one-place node m [] few i j x y at-i at-j one two = absurd cc
one-place node m (z ∷ zs) few zero zero x y at-i at-j one two = refl
one-place node m (z ∷ zs) few zero (suc j) x y at-i at-j one two =
    let here : z ≡ x = cc in
    let first = one-if (m == node z) (eq-eqb m (node z) (sym (ap node here ∙ one))) in
    let more = at-times node m zs j y at-j two in
    let step = count-cons (λ n. m == n) (node z) (map node zs) in
    absurd (omega (arith, few, first, more, step))
one-place node m (z ∷ zs) few (suc i) zero x y at-i at-j one two =
    let here : z ≡ y = cc in
    let first = one-if (m == node z) (eq-eqb m (node z) (sym (ap node here ∙ two))) in
    let more = at-times node m zs i x at-i one in
    let step = count-cons (λ n. m == n) (node z) (map node zs) in
    absurd (omega (arith, few, first, more, step))
one-place node m (z ∷ zs) few (suc i) (suc j) x y at-i at-j one two =
    let step = count-cons (λ n. m == n) (node z) (map node zs) in
    let rest = one-place node m zs (omega (arith, few, step)) i j x y at-i at-j one two in
    omega (arith, rest)

abbrev left_nodes : Plant → List ℕ
left_nodes plant = map (λ (b : BridgePlan). b.left) plant.bridges

abbrev right_nodes : Plant → List ℕ
right_nodes plant = map (λ (b : BridgePlan). b.right) plant.bridges

-- the ends of bridges are those on their left and those on their right
ends-parts : (m : ℕ) (bridges : List BridgePlan)
    → times m (flat_map (λ (b : BridgePlan). b.left ∷ b.right ∷ []) bridges)
    ≡ times m (map (λ (b : BridgePlan). b.left) bridges)
    + times m (map (λ (b : BridgePlan). b.right) bridges)
ends-parts m [] = refl
ends-parts m (b ∷ bs) =
    let test = λ (n : ℕ). m == n in
    let ends = flat_map (λ (c : BridgePlan). c.left ∷ c.right ∷ []) bs in
    let first = count-cons test b.left (b.right ∷ ends) in
    let second = count-cons test b.right ends in
    let lefts = count-cons test b.left (map (λ (c : BridgePlan). c.left) bs) in
    let rights = count-cons test b.right (map (λ (c : BridgePlan). c.right) bs) in
    let rest = ends-parts m bs in
    omega (arith, first, second, lefts, rights, rest)

-- controllers, hosts, left ends and right ends have an address once, all together
once : (plant : Plant) (m : ℕ) → IsPlant plant
    → times m (controller_nodes plant) + times m (host_nodes plant)
    + (times m (left_nodes plant) + times m (right_nodes plant)) ≤ 1
once plant m is =
    let all = counted-nodes plant m in
    let ends = ends-parts m plant.bridges in
    let few = nodes-once plant m is in
    omega (arith, all, ends, few)

module _ (plant : Plant) (is : IsPlant plant) (i j : ℕ) where
  -- controllers with one address are one
  pub same-controller : (p q : ControllerPlan) → slice_get plant.controllers i ≡ Some p
      → slice_get plant.controllers j ≡ Some q → p.node ≡ q.node → i ≡ j
  same-controller p q at-i at-j same =
      let few = once plant q.node is in
      one-place (λ (c : ControllerPlan). c.node) q.node plant.controllers (omega (arith, few)) i j
      p q at-i at-j same refl

  -- so are hosts
  pub same-host : (p q : HostPlan) → slice_get plant.hosts i ≡ Some p
      → slice_get plant.hosts j ≡ Some q → p.node ≡ q.node → i ≡ j
  same-host p q at-i at-j same =
      let few = once plant q.node is in
      one-place (λ (h : HostPlan). h.node) q.node plant.hosts (omega (arith, few)) i j p q at-i
      at-j same refl

  -- a controller's address is no host's
  pub controller-no-host : (p : ControllerPlan) (q : HostPlan)
      → slice_get plant.controllers i ≡ Some p → slice_get plant.hosts j ≡ Some q
      → p.node ≢ q.node
  controller-no-host p q at-i at-j same =
      let few = once plant q.node is in
      let one = at-times (λ (c : ControllerPlan). c.node) q.node plant.controllers i p at-i same in
      let two = at-times (λ (h : HostPlan). h.node) q.node plant.hosts j q at-j refl in
      omega (arith, few, one, two)

  -- nor that of an end of a bridge
  pub controller-no-end : (p : ControllerPlan) (b : BridgePlan)
      → slice_get plant.controllers i ≡ Some p → slice_get plant.bridges j ≡ Some b
      → (p.node ≢ b.left) × (p.node ≢ b.right)
  controller-no-end p b at-i at-j = (
    λ same. let few = once plant b.left is in
        let one = at-times (λ (c : ControllerPlan). c.node) b.left plant.controllers i p at-i same
        in
        let two = at-times (λ (c : BridgePlan). c.left) b.left plant.bridges j b at-j refl in
        omega (arith, few, one, two),
    λ same. let few = once plant b.right is in
        let one = at-times (λ (c : ControllerPlan). c.node) b.right plant.controllers i p at-i same
        in
        let two = at-times (λ (c : BridgePlan). c.right) b.right plant.bridges j b at-j refl in
        omega (arith, few, one, two),
  )

  -- a host's is not, either
  pub host-no-end : (p : HostPlan) (b : BridgePlan) → slice_get plant.hosts i ≡ Some p
      → slice_get plant.bridges j ≡ Some b → (p.node ≢ b.left) × (p.node ≢ b.right)
  host-no-end p b at-i at-j = (
    λ same. let few = once plant b.left is in
        let one = at-times (λ (h : HostPlan). h.node) b.left plant.hosts i p at-i same in
        let two = at-times (λ (c : BridgePlan). c.left) b.left plant.bridges j b at-j refl in
        omega (arith, few, one, two),
    λ same. let few = once plant b.right is in
        let one = at-times (λ (h : HostPlan). h.node) b.right plant.hosts i p at-i same in
        let two = at-times (λ (c : BridgePlan). c.right) b.right plant.bridges j b at-j refl in
        omega (arith, few, one, two),
  )

  -- bridges that have one address on the left are one
  pub same-left : (b c : BridgePlan) → slice_get plant.bridges i ≡ Some b
      → slice_get plant.bridges j ≡ Some c → b.left ≡ c.left → i ≡ j
  same-left b c at-i at-j same =
      let few = once plant c.left is in
      one-place (λ (d : BridgePlan). d.left) c.left plant.bridges (omega (arith, few)) i j b c at-i
      at-j same refl

  -- so are those that have one on the right
  pub same-right : (b c : BridgePlan) → slice_get plant.bridges i ≡ Some b
      → slice_get plant.bridges j ≡ Some c → b.right ≡ c.right → i ≡ j
  same-right b c at-i at-j same =
      let few = once plant c.right is in
      one-place (λ (d : BridgePlan). d.right) c.right plant.bridges (omega (arith, few)) i j b c
      at-i at-j same refl

  -- an address on the left of one is none on the right of another
  pub left-no-right : (b c : BridgePlan) → slice_get plant.bridges i ≡ Some b
      → slice_get plant.bridges j ≡ Some c → b.left ≢ c.right
  left-no-right b c at-i at-j same =
      let few = once plant c.right is in
      let one = at-times (λ (d : BridgePlan). d.left) c.right plant.bridges i b at-i same in
      let two = at-times (λ (d : BridgePlan). d.right) c.right plant.bridges j c at-j refl in
      omega (arith, few, one, two)
