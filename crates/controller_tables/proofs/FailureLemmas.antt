-- Power rows that are read pass their tests.
use Rattle.std.proofs.Common.{◌≡◌, ℕ, ◌+◌, true, ◌&&◌, List, [], ◌∷◌, length, Some, Ok}
use Rattle.std.specs.Prelude.{nat_le}
use Rattle.std.proofs.lemmas.Bool.{and_parts, and_from}
use Rattle.plant_types.specs.declared.plan.ControllerPlan.{ControllerPlan}
use Rattle.plant_types.specs.declared.plan.PowerRow.{PowerRow}
use Rattle.plant_types.specs.declared.fault.PlantFault.TheVariants.{BadPower}
use Rattle.plant_types.specs.Fault.{power_place}
use Rattle.plant_types.specs.Limits.{most_scans, dark_limit}
use Rattle.plant_types.specs.FirstFault.{first_failed, tests_of_each}
use Rattle.plant_types.specs.PlanTests.{has_power_numbers, is_behind_dark, power_tests}
use Rattle.cell_text.specs.Steps.{or_fault}
use Rattle.cell_text.specs.Words.{text_words}
use Rattle.plant_types.specs.Numerals.{is_numeral, value_of}
use Rattle.cell_text.proofs.StepLemmas.{step-ok, or_fault-some, unless-ok, some-guard}
use Rattle.controller_tables.specs.declared.owner.Owner.{Owner}
use Rattle.plant_tables.specs.Refusals.{Refusal}
use Rattle.plant_tables.specs.InOrder.{with_positions}
use Rattle.plant_tables.specs.Numerals.{is_numeral_within, numeral_within}
use Rattle.controller_tables.specs.Failures.{power_words, power_from, last_row, power_row}
use Rattle.controller_tables.specs.Failures.{power_rows_of}
use Rattle.plant_tables.proofs.Common.{ok_value, some_value, placed-hold}
use Rattle.plant_tables.proofs.TestLemmas.{each_behind-tests, one-test}

-- a number that reads is from the lowest to the highest
pub numeral-tests : (low high : ℕ) (word : List ℕ) (n : ℕ) → numeral_within low high word ≡ Some n
    → nat_le low n && nat_le n high ≡ true
numeral-tests low high word n h =
    let found = some-guard (is_numeral_within low high word) (Some (value_of word)) n h in
    let same : value_of word ≡ n = some_value (value_of word) n found.1 in
    let tests = and_parts (is_numeral word)
    (nat_le low (value_of word) && nat_le (value_of word) high) found.0 in
    rw (← same) tests.1

-- a row that is read passes the tests of a plan of so many order rows
power_row-passes : (owner : Owner) (plan : ControllerPlan) (before : List PowerRow)
    (text : ℕ × List ℕ) (row : PowerRow)
    → power_row owner (length plan.orders) before text ≡ Ok row
    → first_failed (power_tests plan before row) ≡ Ok tt
unfolding power_row
power_row-passes owner plan before text row h =
    let bad : Refusal = (BadPower, power_place owner.position text.0) in
    let orders = length plan.orders in
    let words = step-ok (or_fault bad (power_words (text_words text.1))) _ row h in
    let scan = step-ok (or_fault bad (numeral_within 1 most_scans words.0.scan)) _
    row words.1.1 in
    let at = step-ok (or_fault bad (numeral_within 0 orders words.0.row)) _ row scan.1.1 in
    let dark = step-ok (or_fault bad (numeral_within 0 dark_limit words.0.dark)) _ row at.1.1 in
    let whole : PowerRow = power_from scan.0 at.0 dark.0 in
    let behind = unless-ok (is_behind_dark (last_row before) whole) bad
    (λ behind. Ok whole) row dark.1.1 in
    let same : whole ≡ row = ok_value whole row behind.1 in
    let scan_test = numeral-tests 1 most_scans words.0.scan scan.0
    (or_fault-some bad (numeral_within 1 most_scans words.0.scan) scan.0 scan.1.0) in
    let row_test = and_parts (nat_le 0 at.0) (nat_le at.0 orders)
    (numeral-tests 0 orders words.0.row at.0
    (or_fault-some bad (numeral_within 0 orders words.0.row) at.0 at.1.0)) in
    let dark_test = and_parts (nat_le 0 dark.0) (nat_le dark.0 dark_limit)
    (numeral-tests 0 dark_limit words.0.dark dark.0
    (or_fault-some bad (numeral_within 0 dark_limit words.0.dark) dark.0 dark.1.0)) in
    let numbers : has_power_numbers plan whole ≡ true =
    and_from ((nat_le 1 scan.0 && nat_le scan.0 most_scans) && nat_le dark.0 dark_limit)
    (nat_le at.0 orders)
    (and_from (nat_le 1 scan.0 && nat_le scan.0 most_scans) (nat_le dark.0 dark_limit)
    scan_test dark_test.1) row_test.1 in
    let both = and_from (has_power_numbers plan whole) (is_behind_dark (last_row before) whole)
    numbers behind.0 in
    let passes : first_failed (power_tests plan before whole) ≡ Ok tt =
    placed-hold (power_place 1 (length before + 1))
    ((has_power_numbers plan whole && is_behind_dark (last_row before) whole, BadPower) ∷ [])
    (one-test (has_power_numbers plan whole && is_behind_dark (last_row before) whole)
    BadPower both) in
    rw (← same) passes

-- so do all rows
pub power-pass : (owner : Owner) (plan : ControllerPlan) (texts : List (List ℕ))
    (rows : List PowerRow) → power_rows_of owner (length plan.orders) texts ≡ Ok rows
    → first_failed (tests_of_each (power_tests plan) rows) ≡ Ok tt
power-pass owner plan texts rows h =
    each_behind-tests (power_tests plan) (power_row owner (length plan.orders))
    (power_row-passes owner plan) (with_positions texts) rows h
