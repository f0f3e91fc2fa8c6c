-- Each wired drop of a plant is one of the list of wired drops, and each of the list is one.
use Rattle.std.proofs.Common.{◌≡◌, ℕ, zero, suc, ◌==◌, Bool, true, false, cond, List}
use Rattle.std.proofs.Common.{[], ◌∷◌, ◌++◌, map, Option, Some, None, refl, sym, ap, subst}
use Rattle.std.proofs.Common.{◌∙◌, append_assoc, eq-eqb}
use Rattle.std.specs.Prelude.{◌&&◌, ◌||◌, nat_eq, slice_get}
use Rattle.std.specs.List.{AllByRecursion, find, list_any, IsDistinct}
use Rattle.std.specs.Option.{option_and_then}
use Rattle.std.proofs.lemmas.Bool.{and_parts, eqb-true}
use Rattle.std.proofs.lemmas.List.{append-nil}
use Rattle.plant_types.specs.declared.drops.IoDrop.{IoDrop}
use Rattle.plant_types.specs.declared.plan.ControllerPlan.{ControllerPlan}
use Rattle.plant_types.specs.declared.plan.Plant.{Plant}
use Rattle.plant_types.specs.Plans.{controller_nodes, end_nodes, host_nodes, IsPlant}
use Rattle.traffic_cop.specs.Drops.{drop_named}
use Rattle.serial_feed.proofs.SerialLemmas.{all-at}
use Rattle.peer_cop.specs.declared.wire.Wire.{Wire}
use Rattle.peer_cop.specs.Plants.{drop_of, plan_of}
use Rattle.peer_cop.proofs.PlantLemmas.{named_find}
use Rattle.word_exchange.specs.declared.feeding.WiredDrop.{WiredDrop}
use Rattle.word_exchange.specs.Exchanging.{AreWiredDrops, IsWiredDrop}
use Rattle.word_exchange.specs.Rows.{ends_at, is_wired}
use Rattle.word_exchange.specs.Scripts.{HasDropsOnce}
use Rattle.word_exchange.specs.Starting.{is_drop_of}

-- ---- what is found, and what is not

module _ {X : Type 0} (p : X → Bool) where
  abbrev pub At : List X → X → Type 0
  At xs x = (k : ℕ) × (slice_get xs k ≡ Some x) × (p x ≡ true)

  find-step : (y x : X) (ys : List X) (b : Bool) → p y ≡ b
      → cond b (Some y) (find p ys) ≡ Some x → (find p ys ≡ Some x → At ys x) → At (y ∷ ys) x
  find-step y x ys true is here later =
      let same : y ≡ x = cc in (0, ap Some same, ap p (sym same) ∙ is)
  find-step y x ys false is here later = let it = later here in (suc it.0, it.1, it.2)

  pub find-at : (xs : List X) (x : X) → find p xs ≡ Some x → At xs x
  find-at [] x is = absurd cc
  find-at (y ∷ ys) x is = find-step y x ys (p y) refl is (find-at ys x)

  none-step : (y : X) (b : Bool) (rest : Option X) (any : Bool) → cond b (Some y) rest ≡ None
      → (rest ≡ None → any ≡ false) → (b || any) ≡ false
  none-step y true rest any is later = absurd cc
  none-step y false rest any is later = later is

  pub find-none : (xs : List X) → find p xs ≡ None → list_any p xs ≡ false
  find-none [] is = refl
  find-none (y ∷ ys) is = none-step y (p y) (find p ys) (list_any p ys) is (find-none ys)

  any-step : (y : X) (ys : List X) (b any : Bool) → p y ≡ b → (b || any) ≡ true
      → (any ≡ true → (x : X) × At ys x) → (x : X) × At (y ∷ ys) x
  any-step y ys true any is some later = (y, (0, refl, is))
  any-step y ys false any is some later =
      let it = later some in (it.0, (suc it.1.0, it.1.1, it.1.2))

  pub any-at : (xs : List X) → list_any p xs ≡ true → (x : X) × At xs x
  any-at [] some = absurd cc
  any-at (y ∷ ys) some = any-step y ys (p y) (list_any p ys) refl some (any-at ys)

  or-true : (b any : Bool) → b ≡ true → (b || any) ≡ true
  or-true true any is = refl
  or-true false any is = absurd cc

  or-later : (b any : Bool) → any ≡ true → (b || any) ≡ true
  or-later true any is = refl
  or-later false any is = is

  pub at-any : (xs : List X) (k : ℕ) (x : X) → slice_get xs k ≡ Some x → p x ≡ true
      → list_any p xs ≡ true
  at-any [] k x there is = absurd cc
  at-any (y ∷ ys) zero x there is =
      let same : y ≡ x = cc in or-true (p y) (list_any p ys) (ap p same ∙ is)
  at-any (y ∷ ys) (suc k) x there is =
      or-later (p y) (list_any p ys) (at-any ys k x there is)

-- ---- items whose numbers differ

module _ {X : Type 0} (number : X → ℕ) where
  apart-at : (n : ℕ) (xs : List X) (more : List ℕ) (k : ℕ) (x : X)
      → AllByRecursion (λ (y : ℕ). nat_eq n y ≡ false) (map number xs ++ more)
      → slice_get xs k ≡ Some x → nat_eq n (number x) ≡ false
  apart-at n [] more k x all there = absurd cc
  apart-at n (y ∷ ys) more zero x all there =
      let same : y ≡ x = cc in ap (λ (z : X). nat_eq n (number z)) (sym same) ∙ all.0
  apart-at n (y ∷ ys) more (suc k) x all there = apart-at n ys more k x all.1 there

  pub find-own : (xs : List X) (more : List ℕ) (k : ℕ) (x : X)
      → IsDistinct nat_eq (map number xs ++ more) → slice_get xs k ≡ Some x
      → find (λ (y : X). number y == number x) xs ≡ Some x
  unfolding IsDistinct
  find-own [] more k x once there = absurd cc
  find-own (y ∷ ys) more zero x once there =
      let same : y ≡ x = cc in
      ap (λ (b : Bool). cond b (Some y) (find (λ (z : X). number z == number x) ys))
      (eq-eqb (number y) (number x) (ap number same))
      ∙ ap Some same
  find-own (y ∷ ys) more (suc k) x once there =
      ap (λ (b : Bool). cond b (Some y) (find (λ (z : X). number z == number x) ys))
      (apart-at (number y) ys more k x once.0 there)
      ∙ find-own ys more k x once.1 there

-- the controllers of a plant, and the drops of a controller
pub plan-own : (plant : Plant) (k : ℕ) (plan : ControllerPlan) → IsPlant plant
    → slice_get plant.controllers k ≡ Some plan → plan_of plant plan.node ≡ Some plan
plan-own plant k plan sound there =
    find-own (λ (p : ControllerPlan). p.node) plant.controllers
    (host_nodes plant ++ end_nodes plant) k plan
    (subst (λ (l : List ℕ). IsDistinct nat_eq l)
    (append_assoc (controller_nodes plant) (host_nodes plant) (end_nodes plant)) sound.once) there

pub drop-own : (plan : ControllerPlan) (j : ℕ) (d : IoDrop) → HasDropsOnce plan
    → slice_get plan.drops j ≡ Some d → drop_named plan.drops d.number ≡ Some d
drop-own plan j d once there =
    sym (named_find plan.drops d.number)
    ∙ find-own (λ (e : IoDrop). e.number) plan.drops [] j d
    (subst (λ (l : List ℕ). IsDistinct nat_eq l)
    (sym (append-nil (map (λ (e : IoDrop). e.number) plan.drops))) once) there

-- ---- a drop of the plant, and the wired drop that it is

some-same : {X : Type 0} (x y : X) → Some x ≡ Some y → x ≡ y
some-same x y is = cc

both-by : (a b : Bool) → a ≡ true → b ≡ true → (a && b) ≡ true
both-by a b one other = (λ i. one i && other i)

module _ (plant : Plant) (wires froms : List Wire) (wired : List WiredDrop)
    (drops : AreWiredDrops plant wires froms wired) (plan : ControllerPlan) (d : IoDrop)
    (plan-is : plan_of plant plan.node ≡ Some plan)
    (drop-is : drop_named plan.drops d.number ≡ Some d) where
  abbrev is_it : WiredDrop → Bool
  is_it one = is_drop_of plan.node d.number one

  -- the wired drop that is found is this drop; where none is found, the drop is not wired
  abbrev pub WiredAs : Option WiredDrop → Type 0
  WiredAs None = is_wired wires plan.node d.number ≡ false
  WiredAs (Some one) = (k : ℕ) × (slice_get wired k ≡ Some one) × (one.plan.now ≡ plan)
      × (one.drop.now ≡ d) × (is_wired wires plan.node d.number ≡ true)

  not-wired : (b : Bool) → is_wired wires plan.node d.number ≡ b
      → list_any is_it wired ≡ false → is_wired wires plan.node d.number ≡ false
  not-wired false is none = is
  not-wired true is none =
      let it = any-at (ends_at plan.node d.number) wires is in
      let wire = it.0 in
      let parts = and_parts (wire.node == plan.node) (wire.drop == d.number) it.1.2 in
      let node = eqb-true wire.node plan.node parts.0 in
      let number = eqb-true wire.drop d.number parts.1 in
      let there = all-at (λ (w : Wire). list_any (is_drop_of w.node w.drop) wired ≡ true) wires
      it.1.0 wire drops.there it.1.1 in
      let here : list_any is_it wired ≡ true =
      (λ i. list_any (is_drop_of (sym node i) (sym number i)) wired) ∙ there in
      absurd (let both : true ≡ false = sym here ∙ none in cc)

  is-this : (k : ℕ) (one : WiredDrop) → slice_get wired k ≡ Some one → is_it one ≡ true
      → WiredAs (Some one)
  is-this k one there is =
      let parts = and_parts (plan.node == one.plan.now.node) (d.number == one.drop.now.number) is in
      let node = eqb-true plan.node one.plan.now.node parts.0 in
      let number = eqb-true d.number one.drop.now.number parts.1 in
      let has = all-at (IsWiredDrop plant wires froms) wired k one drops.each there in
      let plans : one.plan.now ≡ plan =
      some-same one.plan.now plan
      (sym has.at.plan_is ∙ ap (plan_of plant) (sym node) ∙ plan-is) in
      let found : drop_of plant one.plan.now.node one.drop.now.number ≡ Some d =
      (λ i. drop_of plant (sym node i) (sym number i))
      ∙ ap (option_and_then (λ (p : ControllerPlan). drop_named p.drops d.number)) plan-is
      ∙ drop-is in (
        k,
        there,
        plans,
        some-same one.drop.now d (sym has.at.drop_is ∙ found),
        (λ i. is_wired wires (node i) (number i)) ∙ has.wired,
      )

  by-found : (o : Option WiredDrop) → find is_it wired ≡ o → WiredAs o
  by-found None is =
      not-wired (is_wired wires plan.node d.number) refl (find-none is_it wired is)
  by-found (Some one) is =
      let it = find-at is_it wired one is in is-this it.0 one it.1 it.2

  pub wired-as : WiredAs (find is_it wired)
  wired-as = by-found (find is_it wired) refl
