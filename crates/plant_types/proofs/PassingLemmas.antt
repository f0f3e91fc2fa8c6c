-- What follows where all tests of a controller hold.
use Rattle.std.proofs.Common.{◌≡◌, ℕ, ◌+◌, ◌-◌, ◌≤◌, true, false, Bool, not, ◌&&◌, List, [], ◌∷◌, ◌++◌}
use Rattle.std.proofs.Common.{length, Option, Some, None, Ok, refl, sym, ap, subst, ◌∙◌}
use Rattle.std.proofs.Common.{append_assoc, arith}
use Rattle.std.specs.Prelude.{nat_le, nat_lt, if◌then◌else◌}
use Rattle.std.specs.List.{list_any, list_all, flat_map, cons_option, slice_get}
use Rattle.std.proofs.lemmas.Bool.{and_parts, and_from}
use Rattle.std.proofs.lemmas.Bool.Decides.{nat_tests}
use Rattle.std.proofs.lemmas.List.{append-nil, length-append}
use Rattle.std.proofs.lemmas.Option.{slice_get-get_or}
use Rattle.std.proofs.Math.Seq.{get_or-append_seam}
use Rattle.std.proofs.lemmas.List.Folds.{list_all-append}
use Rattle.std.proofs.lemmas.List.Elements.{filter_map-append}
use Rattle.plant_types.specs.declared.reference.Ref.{Ref}
use Rattle.plant_types.specs.declared.element.Element.{Element}
use Rattle.plant_types.specs.declared.element.Element.TheVariants.{Label}
use Rattle.plant_types.specs.declared.network.Cell.{Cell}
use Rattle.plant_types.specs.declared.network.Short.{Short}
use Rattle.plant_types.specs.declared.network.Network.{Network}
use Rattle.plant_types.specs.declared.network.Segment.{Segment}
use Rattle.plant_types.specs.declared.plan.PowerRow.{PowerRow}
use Rattle.plant_types.specs.declared.plan.ControllerPlan.{ControllerPlan}
use Rattle.plant_types.specs.declared.fault.PlantFault.TheVariants.{BadValue, BadRef, BadShape}
use Rattle.plant_types.specs.declared.fault.PlantFault.TheVariants.{BadOrder, BadNode, BadPower}
use Rattle.plant_types.specs.declared.fault.PlantFault.TheVariants.{CoilTwice, TooLarge}
use Rattle.plant_types.specs.Fault.{controller_place, segment_place, order_place, power_place}
use Rattle.plant_types.specs.Fault.{panel_place}
use Rattle.plant_types.specs.Sizes.{Sizes, has_reference}
use Rattle.plant_types.specs.Pairs.{no_two}
use Rattle.plant_types.specs.Operands.{has_form, has_values, has_kinds}
use Rattle.plant_types.specs.Network.{driven_by, has_cell_place, has_short_place, is_within}
use Rattle.plant_types.specs.Network.{clashes, same_short}
use Rattle.plant_types.specs.Checks.{has_room, element_passes, cell_passes, cells_pass, shorts_pass}
use Rattle.plant_types.specs.Checks.{network_passes, segment_passes, coils_of_network}
use Rattle.plant_types.specs.Checks.{coils_of_segment, coils_of, is_same, are_driven_once, sizes_of}
use Rattle.plant_types.specs.Checks.{is_size, is_discrete_size, numbers_pass}
use Rattle.plant_types.specs.FirstFault.{Test, first_failed, tests_of_each}
use Rattle.plant_types.specs.Standing.{cells_of_networks, cells_of_segments, cells_before, coils_in}
use Rattle.plant_types.specs.Standing.{is_driven, repeats_label, is_message, message_count}
use Rattle.plant_types.specs.Standing.{standing_of, standing_tests}
use Rattle.plant_types.specs.PlanTests.{Site, placed, placed_cell_tests, placed_short_tests}
use Rattle.plant_types.specs.PlanTests.{site_in, site_tests_in, network_limit, segment_tests}
use Rattle.plant_types.specs.PlanTests.{is_order, has_control, order_tests, panel_tests, are_sizes}
use Rattle.plant_types.specs.PlanTests.{has_power_numbers, is_behind_dark, power_tests}
use Rattle.plant_types.specs.PlanTests.{has_few, table_tests, controller_tests}
use Rattle.plant_types.specs.Passing.{same_label, are_labelled_once, row_passes, IsChecked}
use Rattle.plant_types.specs.Passing.{are_behind_dark, ChecksAreExact}
use Rattle.plant_types.proofs.PairsLemmas.{neither, no_two-push}
use Rattle.plant_types.proofs.StandingLemmas.{cells_of_networks-push, cells_of_segments-push}
use Rattle.plant_types.proofs.StandingLemmas.{message_count-push}
use Rattle.plant_types.proofs.PlanLemmas.{placed-ok, first-ok, parts-ok, behind-keeps, two-ok}
use Rattle.plant_types.proofs.PlanLemmas.{four-ok, CellHolds, site_cell-ok, site_short-ok}

-- one more cell that passes, and clashes with none before it
cells_pass-push : (sizes : Sizes) (cells : List Cell) (cell : Cell) → cells_pass sizes cells ≡ true
    → cell_passes sizes cell ≡ true
    → not (list_any (clashes cell) cells) ≡ true
    → cells_pass sizes (cells ++ cell ∷ []) ≡ true
cells_pass-push sizes cells cell h here apart =
    let (each, two) = and_parts (list_all (cell_passes sizes) cells) (no_two clashes cells) h in
    and_from _ _ (list_all-append (cell_passes sizes) cells (cell ∷ [])
    ∙ and_from _ _ each (and_from _ _ here refl)) (no_two-push clashes cells cell two apart)

-- one more short that has its place, and is none of those before it
shorts_pass-push : (shorts : List Short) (short : Short) → shorts_pass shorts ≡ true
    → has_short_place short ≡ true
    → not (list_any (same_short short) shorts) ≡ true
    → shorts_pass (shorts ++ short ∷ []) ≡ true
shorts_pass-push shorts short h here apart =
    let (each, two) = and_parts (list_all has_short_place shorts) (no_two same_short shorts) h in
    and_from _ _ (list_all-append has_short_place shorts (short ∷ [])
    ∙ and_from _ _ each (and_from _ _ here refl))
    (no_two-push same_short shorts short two apart)

-- one more item that passes a test
list_all-push : {A : Type 0} (p : A → Bool) (xs : List A) (x : A) → list_all p xs ≡ true
    → p x ≡ true → list_all p (xs ++ x ∷ []) ≡ true
list_all-push p xs x h here = list_all-append p xs (x ∷ [])
    ∙ and_from (list_all p xs) (p x && true) h (and_from (p x) true here refl)

-- a cell whose tests hold passes
cell_holds-passes : (sizes : Sizes) (earlier : List Cell) (cell : Cell)
    → CellHolds sizes earlier cell → cell_passes sizes cell ≡ true
cell_holds-passes sizes earlier cell holds =
    let element = cell.element in
    let shape = and_parts (is_within cell) (not (list_any (clashes cell) earlier)) holds.shape in
    let values = and_from (has_form element) (has_values element) holds.form holds.values in
    let kinds = and_from (has_form element && has_values element)
    (has_kinds element) values holds.kinds in
    let room = and_from (has_form element && has_values element && has_kinds element)
    (has_room sizes element) kinds holds.room in
    let place = and_from (has_cell_place cell) (element_passes sizes element) holds.place room in
    and_from (has_cell_place cell && element_passes sizes element) (is_within cell) place shape.0

-- what one more cell that stands well keeps
abbrev Keeps-standing : (List Cell → Type 0) → Type 0
Keeps-standing Such =
    (is_last : Bool) (earlier : List Cell) (cell : Cell) → Such earlier
    → first_failed (standing_tests (standing_of is_last earlier cell.element)) ≡ Ok tt
    → Such (earlier ++ cell ∷ [])

-- what holds of the cells before a network and of those of its own, which pass
record Cells (Such : List Cell → Type 0) (sizes : Sizes) (before cells : List Cell) : Type 0 where
  such : Such (before ++ cells)
  pass : cells_pass sizes cells ≡ true

-- one more cell of a network
Cells-push : (Such : List Cell → Type 0) → Keeps-standing Such
    → (site : Site) (earlier : List Cell) (cell : Cell)
    → Cells Such site.sizes (cells_before site.segments site.networks) earlier
    → first_failed (placed_cell_tests site earlier cell) ≡ Ok tt
    → Cells Such site.sizes (cells_before site.segments site.networks) (earlier ++ cell ∷ [])
Cells-push Such keeps site earlier cell known h =
    let before = cells_before site.segments site.networks in
    let (holds, standing) = site_cell-ok site earlier cell h in
    let shape = and_parts (is_within cell) (not (list_any (clashes cell) earlier)) holds.shape in
    record {
      such = subst Such (append_assoc before earlier (cell ∷ []))
          (keeps site.is_last (before ++ earlier) cell known.such standing);
      pass = cells_pass-push site.sizes earlier cell known.pass
          (cell_holds-passes site.sizes earlier cell holds) shape.1;
    }

-- one more short of a network
shorts-push : (site : Site) (cells : ℕ) (earlier : List Short) (short : Short)
    → shorts_pass earlier ≡ true
    → first_failed (placed_short_tests site cells earlier short) ≡ Ok tt
    → shorts_pass (earlier ++ short ∷ []) ≡ true
shorts-push site cells earlier short known h =
    let holds = site_short-ok site cells earlier short h in
    shorts_pass-push earlier short known holds.0 holds.1

-- what holds of the segments before a network and of the networks before it in its own, which pass
record Networks (Such : List Cell → Type 0) (sizes : Sizes) (segments : List Segment)
    (networks : List Network) : Type 0 where
  such : Such (cells_before segments networks)
  pass : list_all (network_passes sizes) networks ≡ true

-- one more network of a segment
Networks-push : (Such : List Cell → Type 0) → Keeps-standing Such
    → (plan : ControllerPlan) (segments : List Segment) (networks : List Network)
    (network : Network)
    → Networks Such (sizes_of plan) segments networks
    → first_failed (site_tests_in plan segments networks network) ≡ Ok tt
    → Networks Such (sizes_of plan) segments (networks ++ network ∷ [])
unfolding no_two
Networks-push Such keeps plan segments networks network known h =
    let site = site_in plan segments networks in
    let sizes = sizes_of plan in
    let before = cells_before segments networks in
    let parts = parts-ok (tests_of_each (placed_cell_tests site) network.cells)
    (tests_of_each (placed_short_tests site (length network.cells)) network.shorts) h in
    let none : Cells Such sizes before [] =
    record { such = subst Such (sym (append-nil before)) known.such; pass = refl } in
    let cells = behind-keeps (Cells Such sizes before) (placed_cell_tests site)
    (Cells-push Such keeps site) [] network.cells none parts.0 in
    let shorts = behind-keeps (λ shorts. shorts_pass shorts ≡ true)
    (placed_short_tests site (length network.cells))
    (shorts-push site (length network.cells)) [] network.shorts refl parts.1 in
    let same : before ++ network.cells ≡ cells_before segments (networks ++ network ∷ []) =
    append_assoc (cells_of_segments segments) (cells_of_networks networks) network.cells
    ∙ ap (λ more. cells_of_segments segments ++ more)
    (sym (cells_of_networks-push networks network)) in
    record {
      such = subst Such same cells.such;
      pass = list_all-push (network_passes sizes) networks network known.pass
          (and_from (cells_pass sizes network.cells)
          (shorts_pass network.shorts) cells.pass shorts);
    }

-- what holds of segments, which pass
record Segments (Such : List Cell → Type 0) (sizes : Sizes) (segments : List Segment) : Type 0 where
  such : Such (cells_of_segments segments)
  pass : list_all (segment_passes sizes) segments ≡ true

-- one more segment
Segments-push : (Such : List Cell → Type 0) → Keeps-standing Such
    → (plan : ControllerPlan) (segments : List Segment) (segment : Segment)
    → Segments Such (sizes_of plan) segments
    → first_failed (segment_tests plan segments segment) ≡ Ok tt
    → Segments Such (sizes_of plan) (segments ++ segment ∷ [])
Segments-push Such keeps plan segments segment known h =
    let sizes = sizes_of plan in
    let few = placed (segment_place 1 (length segments + 1))
    ((nat_le (length segment.networks) network_limit, TooLarge) ∷ []) in
    let parts = parts-ok few (tests_of_each (site_tests_in plan segments) segment.networks) h in
    let none : Networks Such sizes segments [] = record {
      such = subst Such (sym (append-nil (cells_of_segments segments))) known.such;
      pass = refl;
    } in
    let networks = behind-keeps (Networks Such sizes segments) (site_tests_in plan segments)
    (Networks-push Such keeps plan segments) [] segment.networks none parts.1 in
    record {
      such = subst Such (sym (cells_of_segments-push segments segment)) networks.such;
      pass = list_all-push (segment_passes sizes) segments segment known.pass networks.pass;
    }

-- so all segments pass, and what one more cell keeps holds of all cells
segments-hold : (Such : List Cell → Type 0) → Keeps-standing Such → Such []
    → (plan : ControllerPlan)
    → first_failed (tests_of_each (segment_tests plan) plan.segments) ≡ Ok tt
    → Segments Such (sizes_of plan) plan.segments
segments-hold Such keeps start plan h =
    behind-keeps (Segments Such (sizes_of plan)) (segment_tests plan)
    (Segments-push Such keeps plan) [] plan.segments (record { such = start; pass = refl }) h

-- one coil more, or none
driven_once-option : (coils : List Ref) (coil : Option Ref) → are_driven_once coils ≡ true
    → not (is_driven coils coil) ≡ true
    → are_driven_once (coils ++ cons_option coil []) ≡ true
driven_once-option coils None h t = ap are_driven_once (append-nil coils) ∙ h
driven_once-option coils (Some coil) h t = no_two-push is_same coils coil h t

-- a LAB has the number of one of these where two are LABs of one number
repeats-each : (cells : List Cell) (element : Element) → repeats_label cells element
    ≡ list_any (λ (cell : Cell). same_label element cell.element) cells
repeats-each cells (Label number) = refl
repeats-each [] _ = refl
repeats-each (cell ∷ cells) element = repeats-each cells element

-- what holds of all cells of a controller
record Stands (cells : List Cell) : Type 0 where
  coils : are_driven_once (coils_in cells) ≡ true
  labels : are_labelled_once cells ≡ true
  messages : message_count cells ≤ 64

-- one message more, where there is room, or none
message_room : (count : ℕ) (is : Bool) → count ≤ 64 → not (is && not (nat_lt count 64)) ≡ true
    → count + (if is then 1 else 0) ≤ 64
message_room count true few h = grind (arith, nat_tests)
message_room count false few h = omega arith

-- one more cell
Stands-push : Keeps-standing Stands
Stands-push is_last earlier cell known h =
    let element = cell.element in
    let standing = standing_of is_last earlier element in
    let held = four-ok (not standing.is_stray_label) (not standing.repeats_label)
    (not standing.drives_again)
    (not standing.exceeds_messages) BadShape BadShape CoilTwice TooLarge h in
    record {
      coils = ap are_driven_once
          (filter_map-append (λ (c : Cell). driven_by c.element) earlier (cell ∷ []))
          ∙ driven_once-option (coils_in earlier) (driven_by element) known.coils held.1.0;
      labels = no_two-push (λ (one other : Cell). same_label one.element other.element) earlier
          cell known.labels
          (ap not (sym (repeats-each earlier element)) ∙ held.0.1);
      messages = subst (λ n. n ≤ 64)
          (sym (message_count-push earlier cell (is_message element) refl))
          (message_room (message_count earlier) (is_message element) known.messages held.1.1);
    }

-- the coils of all cells, network by network
coils_in_networks : (networks : List Network)
    → coils_in (cells_of_networks networks) ≡ flat_map coils_of_network networks
coils_in_networks [] = refl
coils_in_networks (network ∷ networks) =
    filter_map-append (λ (cell : Cell). driven_by cell.element) network.cells
    (cells_of_networks networks)
    ∙ ap (λ coils. coils_of_network network ++ coils) (coils_in_networks networks)

coils_in_segments : (segments : List Segment)
    → coils_in (cells_of_segments segments) ≡ flat_map coils_of_segment segments
coils_in_segments [] = refl
coils_in_segments (segment ∷ segments) =
    filter_map-append (λ (cell : Cell). driven_by cell.element) (cells_of_networks segment.networks)
    (cells_of_segments segments)
    ∙ rw (coils_in_networks segment.networks, coils_in_segments segments) refl

-- items whose test holds each
each-holds : {A F : Type 0} (p : A → Bool) (tests : List A → A → List (Test F))
    → ((earlier : List A) (x : A) → first_failed (tests earlier x) ≡ Ok tt → p x ≡ true)
    → (xs : List A) → first_failed (tests_of_each tests xs) ≡ Ok tt → list_all p xs ≡ true
each-holds p tests one xs h = behind-keeps (λ ys. list_all p ys ≡ true) tests
    (λ earlier x known held. list_all-push p earlier x known (one earlier x held)) [] xs refl h

-- the table of a controller that passes
numbers_from : (plan : ControllerPlan) → nat_le 1 plan.node && nat_le plan.node 64 ≡ true
    → are_sizes (sizes_of plan) ≡ true → numbers_pass plan ≡ true
numbers_from plan node sizes =
    let parts = and_parts (is_discrete_size plan.coils && is_discrete_size plan.inputs)
    (is_size plan.input_registers && is_size plan.registers) sizes in
    let discretes = and_parts (is_discrete_size plan.coils)
    (is_discrete_size plan.inputs) parts.0 in
    and_from (nat_le 1 plan.node && nat_le plan.node 64) (is_discrete_size plan.coils &&
    (is_discrete_size plan.inputs && (is_size plan.input_registers && is_size plan.registers))) node
    (and_from (is_discrete_size plan.coils) (is_discrete_size plan.inputs
    && (is_size plan.input_registers && is_size plan.registers)) discretes.0
    (and_from (is_discrete_size plan.inputs)
    (is_size plan.input_registers && is_size plan.registers) discretes.1 parts.1))

-- the last of these rows
abbrev row_before : List PowerRow → Option PowerRow
row_before rows = slice_get rows (length rows - 1)

-- a power row that passes its test
power_row-ok : (plan : ControllerPlan) (earlier : List PowerRow) (row : PowerRow)
    → first_failed (power_tests plan earlier row) ≡ Ok tt
    → (has_power_numbers plan row ≡ true) × (is_behind_dark (row_before earlier) row ≡ true)
power_row-ok plan earlier row held =
    let numbers = has_power_numbers plan row in
    let behind = is_behind_dark (row_before earlier) row in
    and_parts numbers behind (first-ok (numbers && behind) BadPower []
    (placed-ok (power_place 1 (length earlier + 1)) ((numbers && behind, BadPower) ∷ [])
    held)).0

-- a row is behind the dark scans of each of these
abbrev AreBefore : PowerRow → List PowerRow → Type 0
AreBefore row rows = not (list_any (λ before. not (is_behind_dark (Some before) row)) rows) ≡ true

-- rows each behind all before it, and what is behind the last of them is behind each
record RowsBehind (rows : List PowerRow) : Type 0 where
  behind : are_behind_dark rows ≡ true
  each : (row : PowerRow) → is_behind_dark (row_before rows) row ≡ true → AreBefore row rows

-- a row behind one that is behind another
behind-behind : (first one row : PowerRow) → nat_lt (first.scan + first.dark) one.scan ≡ true
    → nat_lt (one.scan + one.dark) row.scan ≡ true
    → nat_lt (first.scan + first.dark) row.scan ≡ true
behind-behind first one row h t = grind (arith, nat_tests)

-- what is not untrue is true
not_untrue : (a : Bool) → not (not a) ≡ true → a ≡ true
not_untrue true h = refl
not_untrue false h = absurd (cc)

-- a row behind one that is behind others is behind all of them
before-more : (rows : List PowerRow) (one row : PowerRow) → AreBefore one rows
    → is_behind_dark (Some one) row ≡ true → AreBefore row (rows ++ one ∷ [])
before-more [] one row h t = rw t refl
before-more (first ∷ rows) one row h t =
    let (here, rest) = neither (not (nat_lt (first.scan + first.dark) one.scan))
    (list_any (λ before. not (is_behind_dark (Some before) one)) rows) h in
    rw (behind-behind first one row (not_untrue _ here) t) (before-more rows one row rest t)

-- the last of rows behind which one more stands
row_before-push : (rows : List PowerRow) (row : PowerRow)
    → row_before (rows ++ row ∷ []) ≡ Some row
row_before-push rows row =
    let more = length-append rows (row ∷ []) in
    let last : length (rows ++ row ∷ []) - 1 ≡ length rows = omega (arith, more) in
    ap (slice_get (rows ++ row ∷ [])) last
    ∙ slice_get-get_or (rows ++ row ∷ []) (length rows) row (omega (arith, more))
    ∙ ap Some (get_or-append_seam rows row [] row)

-- one more row
rows-push : (plan : ControllerPlan) (earlier : List PowerRow) (row : PowerRow)
    → RowsBehind earlier → first_failed (power_tests plan earlier row) ≡ Ok tt
    → RowsBehind (earlier ++ row ∷ [])
rows-push plan earlier row known held =
    let before = known.each row (power_row-ok plan earlier row held).1 in
    record {
      behind = no_two-push (λ row before. not (is_behind_dark (Some before) row)) earlier row
          known.behind before;
      each = λ next h. before-more earlier row next before
          (ap (λ last. is_behind_dark last next) (sym (row_before-push earlier row)) ∙ h);
    }

-- all power rows
rows-behind : (plan : ControllerPlan)
    → first_failed (tests_of_each (power_tests plan) plan.power) ≡ Ok tt → RowsBehind plan.power
unfolding no_two
rows-behind plan h =
    behind-keeps RowsBehind (power_tests plan) (rows-push plan) [] plan.power
    (record { behind = refl; each = λ row h. refl }) h

-- where a check finds no fault
checked-from_tests : (plan : ControllerPlan) → first_failed (controller_tests plan) ≡ Ok tt
    → IsChecked plan
unfolding no_two
checked-from_tests plan h =
    let sizes = sizes_of plan in
    let table = placed (controller_place 1) (table_tests plan) in
    let segments = tests_of_each (segment_tests plan) plan.segments in
    let orders = tests_of_each (order_tests plan) plan.orders in
    let power = tests_of_each (power_tests plan) plan.power in
    let panel = tests_of_each (panel_tests sizes) plan.panel in
    let one = parts-ok table (segments ++ (orders ++ (power ++ panel))) h in
    let two = parts-ok segments (orders ++ (power ++ panel)) one.1 in
    let three = parts-ok orders (power ++ panel) two.1 in
    let four = parts-ok power panel three.1 in
    let node = first-ok (nat_le 1 plan.node && nat_le plan.node 64) BadNode
    ((are_sizes sizes, BadValue) ∷ (has_few plan, TooLarge) ∷ [])
    (placed-ok (controller_place 1) (table_tests plan) one.0) in
    let counts = two-ok (are_sizes sizes) (has_few plan) BadValue TooLarge node.1 in
    let solved = segments-hold Stands Stands-push
    (record { coils = refl; labels = refl; messages = omega arith }) plan two.0 in
    let shown = each-holds (has_reference sizes) (panel_tests sizes)
    (λ earlier at held. (first-ok (has_reference sizes at) BadRef []
    (placed-ok (panel_place 1 (length earlier + 1)) ((has_reference sizes at, BadRef) ∷ [])
    held)).0) plan.panel four.1 in
    let rows = each-holds (row_passes plan) (order_tests plan) (λ earlier row held.
    let both = two-ok (is_order plan row) (has_control sizes row.control) BadOrder BadRef
    (placed-ok (order_place 1 (length earlier + 1))
    ((is_order plan row, BadOrder) ∷ (has_control sizes row.control, BadRef) ∷ []) held) in
    and_from (is_order plan row) (has_control sizes row.control) both.0 both.1)
    plan.orders three.0 in
    let coils : are_driven_once (coils_of plan) ≡ true =
    ap are_driven_once (sym (coils_in_segments plan.segments)) ∙ solved.such.coils in
    record {
      passes = and_from (numbers_pass plan) (list_all (segment_passes sizes) plan.segments &&
          (are_driven_once (coils_of plan) && list_all (has_reference sizes) plan.panel))
          (numbers_from plan node.0 counts.0)
          (and_from (list_all (segment_passes sizes) plan.segments)
          (are_driven_once (coils_of plan) && list_all (has_reference sizes) plan.panel) solved.pass
          (and_from (are_driven_once (coils_of plan)) (list_all (has_reference sizes) plan.panel)
          coils shown));
      few = counts.1;
      labels = solved.such.labels;
      messages = solved.such.messages;
      orders = rows;
      power = each-holds (has_power_numbers plan) (power_tests plan)
          (λ earlier row held. (power_row-ok plan earlier row held).0) plan.power four.0;
      behind = (rows-behind plan four.0).behind;
    }

-- no test fails where each holds
first_failed-all : {F : Type 0} (tests : List (Test F))
    → list_all (λ (test : Test F). test.0) tests ≡ true → first_failed tests ≡ Ok tt
first_failed-all [] h = refl
first_failed-all ((true, f) ∷ tests) h = first_failed-all tests h
first_failed-all ((false, f) ∷ tests) h = absurd (cc)

all-first_failed : {F : Type 0} (tests : List (Test F)) → first_failed tests ≡ Ok tt
    → list_all (λ (test : Test F). test.0) tests ≡ true
all-first_failed [] h = refl
all-first_failed ((true, f) ∷ tests) h = all-first_failed tests h
all-first_failed ((false, f) ∷ tests) h = absurd (cc)

-- a check is exact
pub checks-exact : ChecksAreExact
checks-exact = record {
  exact = λ plan.
      (all-first_failed (controller_tests plan), first_failed-all (controller_tests plan));
  checked = λ plan h. checked-from_tests plan (first_failed-all (controller_tests plan) h);
}
