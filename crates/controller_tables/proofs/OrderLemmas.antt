-- Order rows that are read pass the tests of a plan.
use Rattle.std.proofs.Common.{◌≡◌, ℕ, ◌+◌, ◌==◌, Bool, true, false, ◌&&◌, List, [], ◌∷◌, length}
use Rattle.std.proofs.Common.{Option, Some, None, Result, Ok, refl, ap, eq-eqb}
use Rattle.std.specs.Prelude.{◌||◌, option_and_then, if◌then◌else◌}
use Rattle.std.specs.List.{list_any}
use Rattle.std.proofs.lemmas.Bool.{and_from}
use Rattle.plant_types.specs.declared.reference.Ref.{Ref}
use Rattle.plant_types.specs.declared.drops.IoDrop.{IoDrop}
use Rattle.plant_types.specs.declared.network.Segment.{Segment}
use Rattle.plant_types.specs.declared.plan.OrderRow.{OrderRow}
use Rattle.plant_types.specs.declared.plan.ControllerPlan.{ControllerPlan}
use Rattle.plant_types.specs.declared.fault.PlantFault.TheVariants.{BadOrder, BadRef}
use Rattle.plant_types.specs.declared.fault.Place.{Place}
use Rattle.plant_types.specs.Fault.{order_place}
use Rattle.plant_types.specs.Sizes.{Sizes}
use Rattle.plant_types.specs.Checks.{sizes_of}
use Rattle.plant_types.specs.FirstFault.{first_failed, tests_of_each}
use Rattle.plant_types.specs.PlanTests.{has_drop, has_control, is_order, order_tests}
use Rattle.cell_text.specs.Steps.{◌>>=◌, or_fault, unless}
use Rattle.cell_text.specs.Words.{text_words}
use Rattle.cell_text.specs.Numbers.{spelled_number, reference_of}
use Rattle.cell_text.proofs.StepLemmas.{step-ok, or_fault-some, unless-ok, some-step, some-map}
use Rattle.cell_text.proofs.StepLemmas.{some-guard}
use Rattle.traffic_cop.specs.Drops.{drop_named}
use Rattle.controller_tables.specs.declared.owner.Owner.{Owner}
use Rattle.plant_tables.specs.Refusals.{Refusal}
use Rattle.controller_tables.specs.Orders.{is_solved, one_of, segment_in, names_nothing}
use Rattle.controller_tables.specs.Orders.{reads_as_control, control_in, drop_number, known_drop}
use Rattle.controller_tables.specs.Orders.{drop_of, order_words, order_from, order_row, orders_of}
use Rattle.plant_tables.proofs.Common.{ok_value, some_value, placed-hold}
use Rattle.plant_tables.proofs.TestLemmas.{each_from-tests}

-- a segment that is read can be solved
segment_in-solved : (segments : List Segment) (word : List ℕ) (segment : ℕ)
    → segment_in segments word ≡ Some segment → is_solved segments segment ≡ true
segment_in-solved segments word segment h =
    let number = some-step (one_of segments) (spelled_number word) segment h in
    let within = some-guard (is_solved segments number.0) (Some number.0) segment number.1.1 in
    let same : number.0 ≡ segment = some_value number.0 segment within.1 in
    rw (← same) within.0

-- a control that is read is a discrete of the map
control-read : (sizes : Sizes) (refused : Refusal) (word : List ℕ) (control : Option Ref)
    → (or_fault refused (reference_of word)
    >>= λ at. unless (has_control sizes (Some at)) refused >>= λ held. Ok (Some at)) ≡ Ok control
    → has_control sizes control ≡ true
control-read sizes refused word control h =
    let at = step-ok (or_fault refused (reference_of word))
    (λ at. unless (has_control sizes (Some at)) refused >>= λ held. Ok (Some at)) control h in
    let held = unless-ok (has_control sizes (Some at.0)) refused
    (λ held. Ok (Some at.0)) control at.1.1 in
    let same : Some at.0 ≡ control = ok_value (Some at.0) control held.1 in
    rw (← same) held.0

control-either : (b : Bool) (sizes : Sizes) (r : Result (Option Ref) Refusal) (control : Option Ref)
    → (r ≡ Ok control → has_control sizes control ≡ true)
    → (if b then Ok None else r) ≡ Ok control → has_control sizes control ≡ true
control-either true sizes r control other h =
    let same : None ≡ control = ok_value None control h in rw (← same) refl
control-either false sizes r control other h = other h

control_in-there : (sizes : Sizes) (place : Place) (word : List ℕ) (control : Option Ref)
    → control_in sizes place word ≡ Ok control
    → has_control sizes control ≡ true
unfolding control_in
control_in-there sizes place word control h = control-either (names_nothing word) sizes _ control
    (control-read sizes (BadRef, place) word control) h

-- one of two tests holds
or_true : (a b : Bool) → a ≡ true → a || b ≡ true
or_true a b h = rw h refl

or_more : (a b : Bool) → b ≡ true → a || b ≡ true
or_more true b h = refl
or_more false b h = h

-- one of the drops has a number
nameable-step : (one : IoDrop) (drops : List IoDrop) (number : ℕ) (d : IoDrop) (b : Bool)
    → (drop_named drops number ≡ Some d → list_any (λ other. other.number == d.number) drops ≡ true)
    → (if b then Some one else drop_named drops number) ≡ Some d
    → list_any (λ other. other.number == d.number) (one ∷ drops) ≡ true
nameable-step one drops number d true more h =
    let same : one ≡ d = some_value one d h in
    or_true (one.number == d.number) (list_any (λ (other : IoDrop). other.number == d.number) drops)
    (eq-eqb one.number d.number
    (ap (λ (e : IoDrop). e.number) same))
nameable-step one drops number d false more h =
    or_more (one.number == d.number)
    (list_any (λ (other : IoDrop). other.number == d.number) drops) (more h)

-- a drop that has a name is there
nameable-there : (drops : List IoDrop) (number : ℕ) (d : IoDrop) → drop_named drops number ≡ Some d
    → list_any (λ one. one.number == d.number) drops ≡ true
unfolding drop_named
nameable-there [] number d h = cc
nameable-there (one ∷ drops) number d h =
    nameable-step one drops number d (one.number == number) (nameable-there drops number d) h

-- a drop that is read is there
drop-either : (b : Bool) (drops : List IoDrop) (o : Option (Option ℕ)) (found : Option ℕ)
    → (o ≡ Some found → has_drop drops found ≡ true)
    → (if b then Some None else o) ≡ Some found → has_drop drops found ≡ true
drop-either true drops o found other h =
    let same : None ≡ found = some_value None found h in rw (← same) refl
drop-either false drops o found other h = other h

drop-read : (drops : List IoDrop) (word : List ℕ) (found : Option ℕ)
    → option_and_then (known_drop drops) (spelled_number word) ≡ Some found
    → has_drop drops found ≡ true
drop-read drops word found h =
    let number = some-step (known_drop drops) (spelled_number word) found h in
    let known = some-map (λ known. Some known) (drop_number drops number.0) found number.1.1 in
    let at = some-map (λ d. d.number) (drop_named drops number.0) known.0 known.1.0 in
    let same : Some known.0 ≡ found = known.1.1 in
    let whose : at.0.number ≡ known.0 = at.1.1 in
    let there : has_drop drops (Some known.0) ≡ true =
    rw (← whose) (nameable-there drops number.0 at.0 at.1.0) in
    rw (← same) there

drop_of-there : (drops : List IoDrop) (word : List ℕ) (found : Option ℕ)
    → drop_of drops word ≡ Some found → has_drop drops found ≡ true
drop_of-there drops word found h =
    drop-either (names_nothing word) drops _ found (drop-read drops word found) h

-- two tests that hold
two-hold : {F : Type 0} (a b : Bool) (f g : F) → a ≡ true → b ≡ true
    → first_failed ((a, f) ∷ (b, g) ∷ []) ≡ Ok tt
two-hold a b f g p q = rw (p, q) refl

-- a row that is read passes the tests of a plan of these segments and drops
order_row-passes : (owner : Owner) (plan : ControllerPlan) → sizes_of plan ≡ owner.sizes
    → (before : List OrderRow) (number : ℕ)
    (text : List ℕ) (row : OrderRow)
    → order_row (record { owner = owner; segments = plan.segments; drops = plan.drops }) number text
    ≡ Ok row
    → first_failed (order_tests plan before row) ≡ Ok tt
unfolding order_row
order_row-passes owner plan sizes before number text row h =
    let place = order_place owner.position number in
    let bad : Refusal = (BadOrder, place) in
    let words = step-ok (or_fault bad (order_words (text_words text))) _ row h in
    let segment = step-ok (or_fault bad (segment_in plan.segments words.0.segment)) _
    row words.1.1 in
    let reads = unless-ok (reads_as_control words.0.control) bad _ row segment.1.1 in
    let input = step-ok (or_fault bad (drop_of plan.drops words.0.input)) _ row reads.1 in
    let output = step-ok (or_fault bad (drop_of plan.drops words.0.output)) _ row input.1.1 in
    let control = step-ok (control_in owner.sizes place words.0.control)
    (λ control. Ok (order_from segment.0 control input.0 output.0)) row output.1.1 in
    let whole : OrderRow = order_from segment.0 control.0 input.0 output.0 in
    let same : whole ≡ row = ok_value whole row control.1.1 in
    let solved = segment_in-solved plan.segments words.0.segment segment.0
    (or_fault-some bad _ segment.0 segment.1.0) in
    let drops = and_from (has_drop plan.drops input.0) (has_drop plan.drops output.0)
    (drop_of-there plan.drops words.0.input input.0 (or_fault-some bad _ input.0 input.1.0))
    (drop_of-there plan.drops words.0.output output.0 (or_fault-some bad _ output.0 output.1.0)) in
    let order : is_order plan whole ≡ true =
    and_from (is_solved plan.segments segment.0)
    (has_drop plan.drops input.0 && has_drop plan.drops output.0) solved drops in
    let held : has_control (sizes_of plan) control.0 ≡ true =
    rw sizes (control_in-there owner.sizes place words.0.control control.0 control.1.0) in
    let passes : first_failed (order_tests plan before whole) ≡ Ok tt =
    placed-hold (order_place 1 (length before + 1))
    ((is_order plan whole, BadOrder) ∷ (has_control (sizes_of plan) control.0, BadRef) ∷ [])
    (two-hold (is_order plan whole) (has_control (sizes_of plan) control.0) BadOrder BadRef
    order held) in
    rw (← same) passes

-- so do all rows
pub orders-pass : (owner : Owner) (plan : ControllerPlan) → sizes_of plan ≡ owner.sizes
    → (texts : List (List ℕ)) (rows : List OrderRow)
    → orders_of (record { owner = owner; segments = plan.segments; drops = plan.drops }) texts
    ≡ Ok rows
    → first_failed (tests_of_each (order_tests plan) rows) ≡ Ok tt
orders-pass owner plan sizes texts rows h =
    each_from-tests (order_tests plan)
    (order_row (record { owner = owner; segments = plan.segments; drops = plan.drops }))
    (order_row-passes owner plan sizes) texts 1 rows h
