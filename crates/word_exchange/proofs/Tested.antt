-- Drops that pass their tests have numbers that differ, and rows that fit.
use Rattle.std.proofs.Common.{◌≡◌, ℕ, ◌+◌, ◌==◌, Bool, true, false, not, List, [], ◌∷◌, ◌++◌, length}
use Rattle.std.proofs.Common.{map, Option, Some, Ok, refl, sym, ap, subst, ◌∙◌}
use Rattle.std.specs.Prelude.{◌&&◌, if◌then◌else◌, is_some, nat_eq, nat_le}
use Rattle.std.specs.List.{AllByRecursion, IsDistinct}
use Rattle.std.proofs.lemmas.List.{map-append}
use Rattle.plant_types.specs.declared.drops.IoDrop.{IoDrop}
use Rattle.plant_types.specs.declared.fault.PlantFault.TheVariants.{BadDrop, BadValue, TooLarge}
use Rattle.plant_types.specs.declared.plan.ControllerPlan.{ControllerPlan}
use Rattle.plant_types.specs.declared.sizes.Sizes.{Sizes}
use Rattle.plant_types.specs.Checks.{sizes_of}
use Rattle.plant_types.specs.FirstFault.{first_failed}
use Rattle.plant_types.specs.PlanTests.{drop_limit, placed}
use Rattle.plant_types.proofs.PlanLemmas.{behind-keeps, four-ok, parts-ok, placed-ok}
use Rattle.traffic_cop.specs.Drops.{drop_named}
use Rattle.traffic_cop.specs.DropTests.{cop_tests, drop_place, drop_tests, module_limit}
use Rattle.traffic_cop.specs.DropTests.{number_tests, part_tests, script_limit}
use Rattle.traffic_cop.specs.Exchange.{IsDrop}
use Rattle.traffic_cop.specs.Rows.{IsRunnablePlan}
use Rattle.traffic_cop.proofs.CheckLemmas.{all-push, checked-ready}
use Rattle.word_exchange.specs.Scripts.{HasDropsOnce}

-- ---- the numbers differ

distinct-push : (xs : List ℕ) (n : ℕ) → IsDistinct nat_eq xs
    → AllByRecursion (λ (y : ℕ). nat_eq y n ≡ false) xs → IsDistinct nat_eq (xs ++ n ∷ [])
unfolding IsDistinct
distinct-push [] n once none = (tt, tt)
distinct-push (x ∷ xs) n once none = (
  all-push (λ (y : ℕ). nat_eq x y ≡ false) xs n once.0 none.0,
  distinct-push xs n once.1 none.1,
)

none-by : (d : IoDrop) (drops : List IoDrop) (n : ℕ) (b : Bool) → (d.number == n) ≡ b
    → is_some (if b then Some d else drop_named drops n) ≡ false
    → (is_some (drop_named drops n) ≡ false
    → AllByRecursion (λ (y : ℕ). nat_eq y n ≡ false) (map (λ (e : IoDrop). e.number) drops))
    → AllByRecursion (λ (y : ℕ). nat_eq y n ≡ false) (map (λ (e : IoDrop). e.number) (d ∷ drops))
none-by d drops n true is none more = absurd cc
none-by d drops n false is none more = (is, more none)

none-named : (drops : List IoDrop) (n : ℕ) → is_some (drop_named drops n) ≡ false
    → AllByRecursion (λ (y : ℕ). nat_eq y n ≡ false) (map (λ (e : IoDrop). e.number) drops)
unfolding drop_named
none-named [] n none = tt
none-named (d ∷ drops) n none =
    none-by d drops n (d.number == n) refl none (none-named drops n)

not-true : (b : Bool) → not b ≡ true → b ≡ false
not-true true is = absurd cc
not-true false is = refl

abbrev Once : List IoDrop → Type 0
Once drops = IsDistinct nat_eq (map (λ (e : IoDrop). e.number) drops)

once-more : (sizes : Sizes) (earlier : List IoDrop) (d : IoDrop) → Once earlier
    → first_failed (drop_tests sizes earlier d) ≡ Ok tt → Once (earlier ++ d ∷ [])
once-more sizes earlier d once h =
    let position = length earlier + 1 in
    let parts = parts-ok (placed (drop_place 1 position) (number_tests earlier d))
    (part_tests sizes position d) h in
    let four = four-ok (nat_le 1 d.number && nat_le d.number drop_limit)
    (nat_le (length d.modules) module_limit)
    (nat_le (length d.script) script_limit) (not (is_some (drop_named earlier d.number))) BadValue
    TooLarge TooLarge BadDrop
    (placed-ok (drop_place 1 position) (number_tests earlier d) parts.0) in
    let none = not-true (is_some (drop_named earlier d.number)) four.1.1 in
    subst (λ (l : List ℕ). IsDistinct nat_eq l)
    (sym (map-append (λ (e : IoDrop). e.number) earlier (d ∷ [])))
    (distinct-push (map (λ (e : IoDrop). e.number) earlier) d.number once
    (none-named earlier d.number none))

none-once : Once []
unfolding IsDistinct
none-once = tt

pub drops-once : (plan : ControllerPlan) → first_failed (cop_tests plan) ≡ Ok tt
    → HasDropsOnce plan
drops-once plan h =
    behind-keeps Once (drop_tests (sizes_of plan)) (once-more (sizes_of plan)) [] plan.drops
    none-once h

-- ---- the rows fit

some-drop : (a b : IoDrop) → Some a ≡ Some b → a ≡ b
some-drop a b is = cc

pub drop-tested : (plan : ControllerPlan) (number : ℕ) (d : IoDrop) → IsRunnablePlan plan
    → first_failed (cop_tests plan) ≡ Ok tt → drop_named plan.drops number ≡ Some d → IsDrop d
drop-tested plan number d runs h named =
    let has = checked-ready plan runs.passes h number
    (ap (λ (o : Option IoDrop). is_some o) named) in
    subst IsDrop (some-drop has.ready.found d (sym has.ready.named ∙ named)) has.ready.fits
