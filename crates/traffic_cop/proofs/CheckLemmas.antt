-- Drops that pass their tests are few, and ready for their exchanges.
use Rattle.std.proofs.Common.{◌≡◌, ℕ, ◌+◌, ◌≤◌, ◌<◌, Bool, true, false, not, ◌&&◌, ◌==◌, List, []}
use Rattle.std.proofs.Common.{◌∷◌, ◌++◌, length, map, Some, None, Ok, refl, ap, arith, inl, inr}
use Rattle.std.specs.Prelude.{◌||◌, nat_le, nat_eq, is_some, if◌then◌else◌}
use Rattle.std.specs.List.{list_any, IsDistinct, AllByRecursion}
use Rattle.std.specs.Cmp.{nat_eq_equiv}
use Rattle.std.proofs.lemmas.Bool.{and_parts, or_cases, not-true, leb-true, eqb-true}
use Rattle.std.proofs.lemmas.Bool.Decides.{nat_tests}
use Rattle.std.proofs.lemmas.List.{length-map, map-append}
use Rattle.std.proofs.lemmas.Map.Keys.{IsDistinct-push}
use Rattle.std.proofs.lemmas.Map.Steps.{length-le_from_distinct_below}
use Rattle.plant_types.specs.declared.drops.Module.{Module}
use Rattle.plant_types.specs.declared.drops.ScriptRow.{ScriptRow}
use Rattle.plant_types.specs.declared.drops.IoDrop.{IoDrop}
use Rattle.plant_types.specs.declared.plan.ControllerPlan.{ControllerPlan}
use Rattle.plant_types.specs.declared.fault.PlantFault.TheVariants.{BadDrop, BadScript, BadValue}
use Rattle.plant_types.specs.declared.fault.PlantFault.TheVariants.{TooLarge}
use Rattle.plant_types.specs.declared.sizes.Sizes.{Sizes}
use Rattle.plant_types.specs.FirstFault.{first_failed, tests_of_each}
use Rattle.plant_types.specs.PlanTests.{drop_limit, placed}
use Rattle.plant_types.proofs.PlanLemmas.{placed-ok, first-ok, parts-ok, behind-keeps, four-ok}
use Rattle.traffic_cop.specs.Drops.{drop_named}
use Rattle.plant_types.specs.Reference.{most_references}
use Rattle.plant_types.specs.Checks.{sizes_of, is_size, is_discrete_size, numbers_pass}
use Rattle.plant_types.specs.Checks.{passes_check}
use Rattle.traffic_cop.specs.Tests.{module_tests, fault_in, module_fault, held_of, has_few_words}
use Rattle.traffic_cop.specs.Exchange.{fits_row}
use Rattle.traffic_cop.specs.Tests.{IsTested}
use Rattle.traffic_cop.specs.DropTests.{module_limit, script_limit, drop_place, module_place}
use Rattle.traffic_cop.specs.DropTests.{script_place, number_tests, placed_module_tests}
use Rattle.traffic_cop.specs.DropTests.{placed_row_tests, word_tests, part_tests, drop_tests}
use Rattle.traffic_cop.specs.DropTests.{CheckedDropsAreReady}
use Rattle.traffic_cop.proofs.TestLemmas.{AreSizes, tested-ready}

-- the numbers of drops
abbrev numbers : List IoDrop → List ℕ
numbers drops = map (λ (d : IoDrop). d.number) drops

-- numbers up to 32, no two of them one
record AreNumbers (drops : List IoDrop) : Type 0 where
  below : (q : ℕ) → list_any (nat_eq q) (numbers drops) ≡ true → q < 33
  distinct : IsDistinct nat_eq (numbers drops)

-- a number that no drop has is none of theirs
unnamed-step : (d : IoDrop) (drops : List IoDrop) (number : ℕ) (b : Bool) → (d.number == number) ≡ b
    → is_some (if b then Some d else drop_named drops number) ≡ false
    → (is_some (drop_named drops number) ≡ false → list_any (nat_eq number) (numbers drops) ≡ false)
    → list_any (nat_eq number) (d.number ∷ numbers drops) ≡ false
unnamed-step d drops number true e h more = cc
unnamed-step d drops number false e h more =
    let other : nat_eq number d.number ≡ false = grind (arith, nat_tests) in
    rw (other, more h) refl

unnamed-other : (drops : List IoDrop) (number : ℕ) → is_some (drop_named drops number) ≡ false
    → list_any (nat_eq number) (numbers drops) ≡ false
unfolding drop_named
unnamed-other [] number h = refl
unnamed-other (d ∷ drops) number h =
    unnamed-step d drops number (d.number == number) refl h (unnamed-other drops number)

-- one of more
any-more : (a b : Bool) → b ≡ true → a || b ≡ true
any-more true b h = refl
any-more false b h = h

-- what holds of each number and of one more holds of all
below-push : (drops : List IoDrop) (d : IoDrop) (q : ℕ)
    → ((n : ℕ) → list_any (nat_eq n) (numbers drops) ≡ true → n < 33) → d.number ≤ 32
    → list_any (nat_eq q) (numbers (drops ++ d ∷ [])) ≡ true → q < 33
below-push [] d q below small h =
    elim (or_cases (nat_eq q d.number) false h)
    [ inl e ↦ (let same : q ≡ d.number = eqb-true q d.number e in omega arith) | inr e ↦ cc ]
below-push (other ∷ drops) d q below small h =
    elim (or_cases (nat_eq q other.number) (list_any (nat_eq q) (numbers (drops ++ d ∷ []))) h) [
      | inl e ↦ below q (rw e refl)
      | inr e ↦ below-push drops d q (λ n m. below n
          (any-more (nat_eq n other.number) (list_any (nat_eq n) (numbers drops)) m)) small e
    ]

-- one drop more that passes keeps the numbers apart
numbers-push : (sizes : Sizes) (earlier : List IoDrop) (d : IoDrop) → AreNumbers earlier
    → first_failed (drop_tests sizes earlier d) ≡ Ok tt
    → AreNumbers (earlier ++ d ∷ [])
numbers-push sizes earlier d held h =
    let parts = parts-ok (placed (drop_place 1 (length earlier + 1)) (number_tests earlier d))
    (part_tests sizes (length earlier + 1) d) h in
    let tests = placed-ok (drop_place 1 (length earlier + 1)) (number_tests earlier d) parts.0 in
    let four = four-ok (nat_le 1 d.number && nat_le d.number drop_limit)
    (nat_le (length d.modules) module_limit)
    (nat_le (length d.script) script_limit) (not (is_some (drop_named earlier d.number))) BadValue
    TooLarge TooLarge BadDrop tests in
    let small = and_parts (nat_le 1 d.number) (nat_le d.number drop_limit) four.0.0 in
    let other = unnamed-other earlier d.number
    (not-true (is_some (drop_named earlier d.number)) four.1.1) in
    record {
      below = λ q m. below-push earlier d q held.below (leb-true d.number 32 small.1) m;
      distinct = rw (map-append (λ (one : IoDrop). one.number) earlier (d ∷ []))
          (IsDistinct-push nat_eq_equiv (numbers earlier) d.number held.distinct other);
    }

-- no drops, no numbers
no_numbers : AreNumbers []
unfolding IsDistinct
no_numbers = record { below = λ q h. cc; distinct = tt }

-- drops that pass are few
pub drops-few : (sizes : Sizes) (drops : List IoDrop)
    → first_failed (tests_of_each (drop_tests sizes) drops) ≡ Ok tt → length drops ≤ 33
drops-few sizes drops h =
    let all = behind-keeps AreNumbers (drop_tests sizes)
    (numbers-push sizes) [] drops no_numbers h in
    omega (
      arith,
      length-map drops (λ (d : IoDrop). d.number),
      length-le_from_distinct_below (numbers drops) 33 all.distinct all.below,
    )

-- what holds of each item and of one more holds of all
pub all-push : {A : Type 0} (P : A → Type 0) (xs : List A) (x : A) → AllByRecursion P xs → P x
    → AllByRecursion P (xs ++ x ∷ [])
all-push P [] x all here = (here, tt)
all-push P (y ∷ ys) x all here = (all.0, all-push P ys x all.1 here)

-- modules that pass have no fault
abbrev NoFault : Sizes → Module → Type 0
NoFault sizes io_module = module_fault (held_of sizes io_module) io_module ≡ None

no_fault : (held : ℕ) (io_module : Module) → first_failed (module_tests held io_module) ≡ Ok tt
    → module_fault held io_module ≡ None
unfolding module_fault
no_fault held io_module h = ap fault_in h

modules-faultless : (sizes : Sizes) (position : ℕ) (modules : List Module)
    → first_failed (tests_of_each (placed_module_tests sizes position) modules) ≡ Ok tt
    → AllByRecursion (NoFault sizes) modules
modules-faultless sizes position modules h =
    behind-keeps (AllByRecursion (NoFault sizes)) (placed_module_tests sizes position)
    (λ earlier m all held. all-push (NoFault sizes) earlier m all (no_fault (held_of sizes m) m
    (placed-ok (module_place 1 position (length earlier + 1))
    (module_tests (held_of sizes m) m) held)))
    [] modules tt h

-- rows that pass fit
rows-fitting : (modules : List Module) (position : ℕ) (rows : List ScriptRow)
    → first_failed (tests_of_each (placed_row_tests modules position) rows) ≡ Ok tt
    → AllByRecursion (λ row. fits_row modules row ≡ true) rows
rows-fitting modules position rows h =
    behind-keeps (AllByRecursion (λ row. fits_row modules row ≡ true))
    (placed_row_tests modules position)
    (λ earlier row all held. all-push (λ row. fits_row modules row ≡ true) earlier row all
    (first-ok (fits_row modules row) BadScript [] (placed-ok (script_place 1 position
    (length earlier + 1)) ((fits_row modules row, BadScript) ∷ []) held)).0)
    [] rows tt h

-- a drop that passes is tested
drop-tested : (sizes : Sizes) (earlier : List IoDrop) (d : IoDrop)
    → first_failed (drop_tests sizes earlier d) ≡ Ok tt → IsTested sizes d
drop-tested sizes earlier d h =
    let position = length earlier + 1 in
    let parts = parts-ok (placed (drop_place 1 position) (number_tests earlier d))
    (part_tests sizes position d) h in
    let four = four-ok (nat_le 1 d.number && nat_le d.number drop_limit)
    (nat_le (length d.modules) module_limit)
    (nat_le (length d.script) script_limit) (not (is_some (drop_named earlier d.number))) BadValue
    TooLarge TooLarge BadDrop
    (placed-ok (drop_place 1 position) (number_tests earlier d) parts.0) in
    let within = and_parts (nat_le 1 d.number) (nat_le d.number drop_limit) four.0.0 in
    let words = placed (drop_place 1 position) (word_tests d.modules) in
    let rows = tests_of_each (placed_row_tests d.modules position) d.script in
    let modules = parts-ok (tests_of_each (placed_module_tests sizes position) d.modules)
    (words ++ rows) parts.1 in
    let others = parts-ok words rows modules.1 in
    record {
      number = (leb-true 1 d.number within.0, leb-true d.number 32 within.1);
      modules = modules-faultless sizes position d.modules modules.0;
      rows = rows-fitting d.modules position d.script others.1;
      words = (first-ok (has_few_words d.modules) TooLarge []
          (placed-ok (drop_place 1 position) (word_tests d.modules) others.0)).0;
    }

-- so do all drops
drops-tested : (sizes : Sizes) (drops : List IoDrop)
    → first_failed (tests_of_each (drop_tests sizes) drops) ≡ Ok tt
    → AllByRecursion (IsTested sizes) drops
drops-tested sizes drops h =
    behind-keeps (AllByRecursion (IsTested sizes)) (drop_tests sizes)
    (λ earlier d all held. all-push (IsTested sizes) earlier d all
    (drop-tested sizes earlier d held)) [] drops tt h

-- the sizes of a plan that passes
passing-sizes : (plan : ControllerPlan) → passes_check plan ≡ true → AreSizes (sizes_of plan)
passing-sizes plan h =
    let numbers = (and_parts (numbers_pass plan) _ h).0 in
    let sizes = (and_parts (nat_le 1 plan.node && nat_le plan.node 64) _ numbers).1 in
    let coils = and_parts (is_discrete_size plan.coils) _ sizes in
    let inputs = and_parts (is_discrete_size plan.inputs) _ coils.1 in
    let registers = and_parts (is_size plan.input_registers) (is_size plan.registers) inputs.1 in
    let held_coils = and_parts (is_size plan.coils) _ coils.0 in
    let held_inputs = and_parts (is_size plan.inputs) _ inputs.0 in
    record {
      coils = leb-true plan.coils most_references held_coils.0;
      inputs = leb-true plan.inputs most_references held_inputs.0;
      input_registers = leb-true plan.input_registers most_references registers.0;
      registers = leb-true plan.registers most_references registers.1;
    }

-- drops that pass are ready
pub checked-ready : CheckedDropsAreReady
checked-ready plan passes held number named =
    let ready = tested-ready (sizes_of plan) plan.drops number (passing-sizes plan passes)
    (drops-tested (sizes_of plan) plan.drops held) named in
    record { from = ready.from; to = ready.to; ready = ready.ready }
