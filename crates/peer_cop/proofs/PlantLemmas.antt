-- What is known of a wire that fits a plant.
use Rattle.std.proofs.Common.{◌≡◌, ℕ, Bool, true, false, cond, List, [], ◌∷◌, refl}
use Rattle.std.proofs.Common.{ap, subst, ◌∙◌, arith, Option, Some, None}
use Rattle.std.specs.Prelude.{◌==◌, All}
use Rattle.std.specs.List.{find}
use Rattle.std.specs.Option.{option_and_then}
use Rattle.std.proofs.lemmas.Bool.{eqb-true}
use Rattle.std.proofs.lemmas.List.Elements.{All-head, All-tail}
use Rattle.plant_types.specs.declared.drops.IoDrop.{IoDrop}
use Rattle.plant_types.specs.declared.plan.ControllerPlan.{ControllerPlan}
use Rattle.plant_types.specs.declared.plan.Plant.{Plant}
use Rattle.plant_types.specs.PlanTests.{drop_limit}
use Rattle.plant_types.specs.Plans.{IsFromTo, IsNode}
use Rattle.traffic_cop.specs.Drops.{drop_named}
use Rattle.peer_cop.specs.declared.wire.Wire.{Wire}
use Rattle.peer_cop.specs.Lines.{HasSmallNumbers}
use Rattle.peer_cop.specs.Plants.{CanBeWired, FitsPlant, HasPlantDrops, IsPlantDrop, drop_of, plan_of}
use Rattle.peer_cop.specs.Places.{HasPlaces}

-- what is found in a list is in it, and passes the test
module _ {X : Type 0} (P : X → Type 0) (p : X → Bool) where
  found : (y x : X) (ys : List X) (b : Bool) → P y → p y ≡ b
      → (find p ys ≡ Some x → P x × (p x ≡ true)) → cond b (Some y) (find p ys) ≡ Some x
      → P x × (p x ≡ true)
  found y x ys true here is later e =
      let same : y ≡ x = cc in
      subst (λ (z : X). P z × (p z ≡ true)) same (here, is)
  found y x ys false here is later e = later e

  pub find_there : (xs : List X) (x : X) → All P xs → find p xs ≡ Some x → P x × (p x ≡ true)
  find_there [] x all e = absurd cc
  find_there (y ∷ ys) x all e =
      found y x ys (p y) (All-head P y ys all) refl (find_there ys x (All-tail P y ys all)) e

-- the first drop of a number
pub named_find : (drops : List IoDrop) (number : ℕ)
    → find (λ (drop : IoDrop). drop.number == number) drops ≡ drop_named drops number
unfolding drop_named
named_find [] number = refl
named_find (drop ∷ drops) number =
    ap (λ (o : Option IoDrop). cond (drop.number == number) (Some drop) o) (named_find drops number)

-- a drop of a plant, with the number of its node and its own
pub record IsDropAt (node number : ℕ) (drop : IoDrop) : Type 0 where
  pub node_is : IsNode node
  pub number_is : drop.number ≡ number
  pub small : IsPlantDrop drop

at_plan : (node number : ℕ) (drop : IoDrop) (plan : ControllerPlan) → HasPlantDrops plan
    → (plan.node == node) ≡ true → drop_named plan.drops number ≡ Some drop
    → IsDropAt node number drop
at_plan node number drop plan has is named =
    let (there, same) = find_there IsPlantDrop (λ (d : IoDrop). d.number == number) plan.drops
    drop has.drops (named_find plan.drops number ∙ named) in
    record {
      node_is = subst IsNode (eqb-true plan.node node is) has.node;
      number_is = eqb-true drop.number number same;
      small = there;
    }

at_found : (plant : Plant) (node number : ℕ) (drop : IoDrop) (o : Option ControllerPlan)
    → CanBeWired plant → plan_of plant node ≡ o
    → option_and_then (λ (plan : ControllerPlan). drop_named plan.drops number) o ≡ Some drop
    → IsDropAt node number drop
at_found plant node number drop None can is e = absurd cc
at_found plant node number drop (Some plan) can is e =
    let (has, same) = find_there HasPlantDrops (λ (p : ControllerPlan). p.node == node)
    plant.controllers plan can is in
    at_plan node number drop plan has same e

pub at_drop : (plant : Plant) (node number : ℕ) (drop : IoDrop) → CanBeWired plant
    → drop_of plant node number ≡ Some drop → IsDropAt node number drop
at_drop plant node number drop can e =
    at_found plant node number drop (plan_of plant node) can refl e

-- a wire that fits has small numbers, and flags
pub wire_places : (plant : Plant) (wire : Wire) → CanBeWired plant → FitsPlant plant wire
    → HasPlaces wire
wire_places plant wire can fits =
    let at = at_drop plant wire.node wire.drop fits.into can fits.into_there in
    record {
      node = at.node_is;
      drop = subst (IsFromTo 1 drop_limit) at.number_is at.small.number;
      words = record {
        from = fits.joins.inputs.from;
        to = omega (arith, fits.joins.inputs.to, at.small.inputs);
      };
    }

pub wire_small : (plant : Plant) (wire : Wire) → CanBeWired plant → FitsPlant plant wire
    → HasSmallNumbers wire
wire_small plant wire can fits =
    let at = at_drop plant wire.node wire.drop fits.into can fits.into_there in
    let of = at_drop plant wire.from wire.from_drop fits.source can fits.source_there in
    record {
      node = omega (arith, at.node_is.to);
      drop = omega (arith, at.number_is, at.small.number.to);
      word = omega (arith, fits.joins.inputs.to, at.small.inputs);
      from = omega (arith, of.node_is.to);
      from_drop = omega (arith, of.number_is, of.small.number.to);
      from_word = omega (arith, fits.joins.outputs.to, of.small.outputs);
      count = omega (arith, fits.joins.count.to);
    }
