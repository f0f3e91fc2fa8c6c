-- The tests of a controller at their places.
use Rattle.std.proofs.Common.{◌≡◌, ℕ, ◌+◌, ◌≤◌, true, false, Bool, not, ◌&&◌, List, [], ◌∷◌, ◌++◌}
use Rattle.std.proofs.Common.{length, Result, Ok, Err, refl, ◌∙◌, append_assoc, arith}
use Rattle.std.specs.List.{list_any, IsDistinct}
use Rattle.std.proofs.lemmas.Bool.{and_parts, not-true}
use Rattle.std.proofs.lemmas.List.{map-append, length-map, append-nil}
use Rattle.plant_types.specs.declared.network.Cell.{Cell}
use Rattle.plant_types.specs.declared.network.Short.{Short}
use Rattle.plant_types.specs.declared.fault.PlantFault.{PlantFault}
use Rattle.plant_types.specs.declared.fault.Place.{Place}
use Rattle.plant_types.specs.declared.fault.PlantFault.TheVariants.{BadCell, BadValue, BadRef}
use Rattle.plant_types.specs.declared.fault.PlantFault.TheVariants.{BadShape}
use Rattle.plant_types.specs.Sizes.{Sizes}
use Rattle.plant_types.specs.Fault.{at_place}
use Rattle.plant_types.specs.Operands.{has_form, has_values, has_kinds}
use Rattle.plant_types.specs.Network.{has_cell_place, has_short_place, is_within, clashes}
use Rattle.plant_types.specs.Network.{same_short}
use Rattle.plant_types.specs.Checks.{has_room, has_shape}
use Rattle.plant_types.specs.Grid.{cell_places, short_places, AreApart}
use Rattle.plant_types.specs.FirstFault.{Test, first_failed, tests_behind, tests_of_each}
use Rattle.plant_types.specs.FirstFault.{has_label_place, cell_tests, short_tests}
use Rattle.plant_types.specs.Standing.{cells_before, standing_of, standing_tests}
use Rattle.plant_types.specs.PlanTests.{Site, placed, piece_place, site_cell_tests}
use Rattle.plant_types.specs.PlanTests.{placed_cell_tests, placed_short_tests}
use Rattle.plant_types.proofs.GridLemmas.{AreApart-push, AreApart-few, free_place, free_short}
use Rattle.plant_types.proofs.GridLemmas.{short_is_place}

-- the first that fails at a place
pub placed-first : (place : Place) (tests : List (Test PlantFault))
    → at_place place (first_failed tests) ≡ first_failed (placed place tests)
placed-first place [] = refl
placed-first place ((true, fault) ∷ tests) = placed-first place tests
placed-first place ((false, fault) ∷ tests) = refl

-- what went well went well without its place
at_place-ok : (place : Place) (r : Result (Unit {0}) PlantFault)
    → at_place place r ≡ Ok tt → r ≡ Ok tt
at_place-ok place (Ok x) h = refl
at_place-ok place (Err e) h = absurd (cc)

-- tests that hold at a place hold
pub placed-ok : (place : Place) (tests : List (Test PlantFault))
    → first_failed (placed place tests) ≡ Ok tt → first_failed tests ≡ Ok tt
placed-ok place tests h = at_place-ok place (first_failed tests) (placed-first place tests ∙ h)

-- where all hold, the first does, and those behind it
pub first-ok : {F : Type 0} (holds : Bool) (fault : F) (tests : List (Test F))
    → first_failed ((holds, fault) ∷ tests) ≡ Ok tt
    → (holds ≡ true) × (first_failed tests ≡ Ok tt)
first-ok true fault tests h = (refl, h)
first-ok false fault tests h = absurd (cc)

-- where all hold, those before do, and those behind them
pub parts-ok : {F : Type 0} (xs ys : List (Test F)) → first_failed (xs ++ ys) ≡ Ok tt
    → (first_failed xs ≡ Ok tt) × (first_failed ys ≡ Ok tt)
parts-ok [] ys h = (refl, h)
parts-ok ((true, f) ∷ xs) ys h = parts-ok xs ys h
parts-ok ((false, f) ∷ xs) ys h = absurd (cc)

-- what one more item that passes keeps, all items that pass keep
pub behind-keeps : {A F : Type 0} (Such : List A → Type 0) (tests : List A → A → List (Test F))
    → ((earlier : List A) (x : A) → Such earlier → first_failed (tests earlier x) ≡ Ok tt
    → Such (earlier ++ x ∷ []))
    → (earlier xs : List A) → Such earlier → first_failed (tests_behind tests earlier xs) ≡ Ok tt
    → Such (earlier ++ xs)
unfolding tests_behind
behind-keeps Such tests more earlier [] such h = rw (append-nil earlier) such
behind-keeps Such tests more earlier (x ∷ xs) such h =
    let parts = parts-ok (tests earlier x) (tests_behind tests (earlier ++ x ∷ []) xs) h in
    rw (← append_assoc earlier (x ∷ []) xs)
    (behind-keeps Such tests more (earlier ++ x ∷ []) xs (more earlier x such parts.0) parts.1)

-- a cell of which no place was in the way
cell_apart : (earlier : List Cell) (cell : Cell) → AreApart (cell_places earlier)
    → has_cell_place cell ≡ true → has_shape earlier cell ≡ true
    → AreApart (cell_places (earlier ++ cell ∷ []))
cell_apart earlier cell apart place shape =
    let clear = and_parts (is_within cell) (not (list_any (clashes cell) earlier)) shape in
    rw map-append (AreApart-push (cell_places earlier) (cell.row, cell.column) apart place
    (free_place earlier cell (not-true _ clear.1)))

-- a short at a free place
short_apart : (earlier : List Short) (short : Short) → AreApart (short_places earlier)
    → has_short_place short ≡ true
    → not (list_any (same_short short) earlier) ≡ true
    → AreApart (short_places (earlier ++ short ∷ []))
short_apart earlier short apart place free =
    rw map-append (AreApart-push (short_places earlier) (short.row, short.column) apart
    (short_is_place short place)
    (free_short earlier short (not-true _ free)))

-- two tests that hold, and four
pub two-ok : {F : Type 0} (a b : Bool) (f g : F) → first_failed ((a, f) ∷ (b, g) ∷ []) ≡ Ok tt
    → (a ≡ true) × (b ≡ true)
two-ok a b f g h =
    let first = first-ok a f ((b, g) ∷ []) h in
    (first.0, (first-ok b g [] first.1).0)

pub four-ok : {F : Type 0} (a b c d : Bool) (f g k l : F)
    → first_failed ((a, f) ∷ (b, g) ∷ (c, k) ∷ (d, l) ∷ []) ≡ Ok tt
    → ((a ≡ true) × (b ≡ true)) × ((c ≡ true) × (d ≡ true))
four-ok a b c d f g k l h =
    let first = first-ok a f ((b, g) ∷ (c, k) ∷ (d, l) ∷ []) h in
    let second = first-ok b g ((c, k) ∷ (d, l) ∷ []) first.1 in
    ((first.0, second.0), two-ok c d k l second.1)

-- what is known of a cell that passes
pub record CellHolds (sizes : Sizes) (earlier : List Cell) (cell : Cell) : Type 0 where
  pub place : has_cell_place cell ≡ true
  pub form : has_form cell.element ≡ true
  pub values : has_values cell.element ≡ true
  pub kinds : has_kinds cell.element ≡ true
  pub room : has_room sizes cell.element ≡ true
  pub shape : has_shape earlier cell ≡ true
  pub label : has_label_place cell ≡ true

pub cell_tests-ok : (sizes : Sizes) (earlier : List Cell) (cell : Cell)
    → first_failed (cell_tests sizes earlier cell) ≡ Ok tt → CellHolds sizes earlier cell
cell_tests-ok sizes earlier cell h =
    let form = has_cell_place cell && has_form cell.element in
    let room = has_kinds cell.element && has_room sizes cell.element in
    let shape = has_shape earlier cell && has_label_place cell in
    let held = four-ok form (has_values cell.element) room shape BadCell BadValue
    BadRef BadShape h in
    let forms = and_parts (has_cell_place cell) (has_form cell.element) held.0.0 in
    let rooms = and_parts (has_kinds cell.element) (has_room sizes cell.element) held.1.0 in
    let shapes = and_parts (has_shape earlier cell) (has_label_place cell) held.1.1 in
    record {
      place = forms.0;
      form = forms.1;
      values = held.0.1;
      kinds = rooms.0;
      room = rooms.1;
      shape = shapes.0;
      label = shapes.1;
    }

-- the tests of a cell in its network hold where all its tests do
pub site_cell-ok : (site : Site) (earlier : List Cell) (cell : Cell)
    → first_failed (placed_cell_tests site earlier cell) ≡ Ok tt
    → CellHolds site.sizes earlier cell × (first_failed (standing_tests
    (standing_of site.is_last (cells_before site.segments site.networks ++ earlier) cell.element))
    ≡ Ok tt)
site_cell-ok site earlier cell h =
    let standing = standing_tests (standing_of site.is_last
    (cells_before site.segments site.networks ++ earlier) cell.element) in
    let tests = parts-ok (cell_tests site.sizes earlier cell) standing
    (placed-ok (piece_place site (length earlier + 1)) (site_cell_tests site earlier cell) h) in
    (cell_tests-ok site.sizes earlier cell tests.0, tests.1)

-- what is known of a short that passes
pub site_short-ok : (site : Site) (cells : ℕ) (earlier : List Short) (short : Short)
    → first_failed (placed_short_tests site cells earlier short) ≡ Ok tt
    → (has_short_place short ≡ true) × (not (list_any (same_short short) earlier) ≡ true)
site_short-ok site cells earlier short h =
    two-ok (has_short_place short) (not (list_any (same_short short) earlier)) BadCell BadShape
    (placed-ok (piece_place site (cells + length earlier + 1)) (short_tests earlier short) h)

-- one cell more that passes stands apart
cell_stands : (site : Site) (earlier : List Cell) (cell : Cell) → AreApart (cell_places earlier)
    → first_failed (placed_cell_tests site earlier cell) ≡ Ok tt
    → AreApart (cell_places (earlier ++ cell ∷ []))
cell_stands site earlier cell apart h =
    let holds = (site_cell-ok site earlier cell h).0 in
    cell_apart earlier cell apart holds.place holds.shape

-- one short more that passes stands apart
short_stands : (site : Site) (cells : ℕ) (earlier : List Short) (short : Short)
    → AreApart (short_places earlier)
    → first_failed (placed_short_tests site cells earlier short) ≡ Ok tt
    → AreApart (short_places (earlier ++ short ∷ []))
short_stands site cells earlier short apart h =
    let holds = site_short-ok site cells earlier short h in
    short_apart earlier short apart holds.0 holds.1

-- nothing stands in the way of nothing
none_apart : AreApart []
unfolding IsDistinct
none_apart = record { within = refl; distinct = tt }

-- cells that pass are few
pub cells-few : (site : Site) (cells : List Cell)
    → first_failed (tests_of_each (placed_cell_tests site) cells) ≡ Ok tt → length cells ≤ 96
cells-few site cells h =
    let apart = behind-keeps (λ cells. AreApart (cell_places cells)) (placed_cell_tests site)
    (cell_stands site) [] cells none_apart h in
    omega (
      arith,
      length-map {B = ℕ × ℕ} cells (λ (cell : Cell). (cell.row, cell.column)),
      AreApart-few (cell_places cells) apart,
    )

-- shorts that pass are few
pub shorts-few : (site : Site) (count : ℕ) (shorts : List Short)
    → first_failed (tests_of_each (placed_short_tests site count) shorts) ≡ Ok tt
    → length shorts ≤ 96
shorts-few site count shorts h =
    let apart = behind-keeps (λ shorts. AreApart (short_places shorts))
    (placed_short_tests site count) (short_stands site count) [] shorts none_apart h in
    omega (
      arith,
      length-map {B = ℕ × ℕ} shorts (λ (short : Short). (short.row, short.column)),
      AreApart-few (short_places shorts) apart,
    )
