-- Drops that are read pass their tests.
use Rattle.std.proofs.Common.{◌≡◌, ℕ, ◌+◌, ◌≤◌, Bool, true, not, ◌&&◌, List, [], ◌∷◌, ◌++◌, length}
use Rattle.std.proofs.Common.{Ok, refl, eq-eqb, le-leb, arith}
use Rattle.std.specs.Prelude.{codes, is_some, replicate, nat_le}
use Rattle.std.proofs.lemmas.Bool.{and_from}
use Rattle.std.proofs.lemmas.List.{length-replicate}
use Rattle.toml.specs.Data.{Members}
use Rattle.plant_types.specs.declared.drops.Module.{Module}
use Rattle.plant_types.specs.declared.drops.ScriptRow.{ScriptRow}
use Rattle.plant_types.specs.declared.drops.ScriptRow.TheVariants.{Row}
use Rattle.plant_types.specs.declared.drops.IoDrop.{IoDrop}
use Rattle.plant_types.specs.declared.fault.PlantFault.TheVariants.{BadRef, BadDrop, BadScript}
use Rattle.plant_types.specs.declared.fault.PlantFault.TheVariants.{BadValue, TooLarge}
use Rattle.plant_types.specs.declared.fault.Place.{Place}
use Rattle.plant_types.specs.Sizes.{Sizes}
use Rattle.plant_types.specs.Fault.{at_place}
use Rattle.plant_types.specs.FirstFault.{first_failed, tests_behind, tests_of_each}
use Rattle.plant_types.specs.PlanTests.{drop_limit, placed}
use Rattle.cell_text.specs.Steps.{or_fault}
use Rattle.cell_text.specs.Words.{text_words}
use Rattle.cell_text.specs.Numbers.{reference_number, reference_of}
use Rattle.cell_text.proofs.StepLemmas.{step-ok, unless-ok}
use Rattle.traffic_cop.specs.Exchange.{input_total}
use Rattle.traffic_cop.specs.Drops.{drop_named}
use Rattle.traffic_cop.specs.Tests.{is_regular, carries, module_tests, held_of, has_few_words}
use Rattle.traffic_cop.specs.Exchange.{fits_row}
use Rattle.traffic_cop.specs.DropTests.{module_limit, script_limit, drop_place, module_place}
use Rattle.traffic_cop.specs.DropTests.{script_place, number_tests, placed_module_tests}
use Rattle.traffic_cop.specs.DropTests.{placed_row_tests, word_tests, part_tests, drop_tests}
use Rattle.controller_tables.specs.declared.owner.Owner.{Owner}
use Rattle.plant_tables.specs.InOrder.{numbered_from}
use Rattle.plant_tables.specs.declared.tables.TableKind.TheVariants as kinds
use Rattle.plant_tables.specs.Tables.{table_passes}
use Rattle.plant_tables.specs.Keys.{number_at_key, texts_at}
use Rattle.controller_tables.specs.Drops.{module_spelled, module_from, module_of, numbered_module}
use Rattle.controller_tables.specs.Drops.{modules_of, row_spelled, script_row, numbered_row}
use Rattle.controller_tables.specs.Drops.{rows_of, or_zeros, drop_from, drop_with, drop_behind}
use Rattle.controller_tables.specs.Drops.{drops_of}
use Rattle.plant_tables.proofs.Common.{ok_value, at_place-ok, both-hold, placed-hold}
use Rattle.plant_tables.proofs.KeyLemmas.{number_at_key-within, texts_at-few}
use Rattle.plant_tables.proofs.TestLemmas.{each_behind-tests, each_from-tests, each_from-length}
use Rattle.plant_tables.proofs.TestLemmas.{one-test}

-- a module that is read passes its tests
module_of-passes : (sizes : Sizes) (place : Place) (text : List ℕ) (io_module : Module)
    → module_of sizes place text ≡ Ok io_module
    → first_failed (module_tests (held_of sizes io_module) io_module) ≡ Ok tt
unfolding module_of
module_of-passes sizes place text io_module h =
    let spelled = step-ok (or_fault (BadDrop, place) (module_spelled (text_words text))) _
    io_module h in
    let number = step-ok (or_fault (BadDrop, place) (reference_number spelled.0.first)) _ io_module
    spelled.1.1 in
    let regular = unless-ok (is_regular spelled.0.kind number.0 spelled.0.count)
    (BadDrop, place) _ io_module number.1.1 in
    let at = step-ok (or_fault (BadRef, place) (reference_of spelled.0.first)) _
    io_module regular.1 in
    let kind = unless-ok (carries spelled.0.kind at.0.kind) (BadRef, place) _ io_module at.1.1 in
    let whole : Module = module_from spelled.0.kind at.0.number spelled.0.count in
    let tests = module_tests (held_of sizes whole) whole in
    let tested = step-ok (at_place place (first_failed tests))
    (λ (t : Unit {0}). Ok whole) io_module kind.1 in
    let same : whole ≡ io_module = ok_value whole io_module tested.1.1 in
    let passes = at_place-ok place (first_failed tests) tested.0 tested.1.0 in
    rw (← same) passes

-- so do all modules of a drop
modules-pass : (owner : Owner) (drop position : ℕ) (texts : List (List ℕ)) (modules : List Module)
    → modules_of owner drop texts ≡ Ok modules
    → first_failed (tests_of_each (placed_module_tests owner.sizes position) modules) ≡ Ok tt
modules-pass owner drop position texts modules h =
    each_from-tests (placed_module_tests owner.sizes position) (numbered_module owner drop)
    (λ before n text io_module e. placed-hold (module_place 1 position (length before + 1))
    (module_tests (held_of owner.sizes io_module) io_module)
    (module_of-passes owner.sizes (module_place owner.position drop n) text io_module e))
    texts 1 modules h

-- a row that fits at its place
row-holds : (modules : List Module) (position : ℕ) (before : List ScriptRow) (row : ScriptRow)
    → fits_row modules row ≡ true
    → first_failed (placed_row_tests modules position before row) ≡ Ok tt
row-holds modules position before row fits =
    placed-hold (script_place 1 position (length before + 1))
    ((fits_row modules row, BadScript) ∷ []) (one-test (fits_row modules row) BadScript fits)

-- a script row that is read fits the modules
script_row-fits : (modules : List Module) (place : Place) (text : List ℕ) (row : ScriptRow)
    → script_row modules place text ≡ Ok row
    → fits_row modules row ≡ true
unfolding script_row
script_row-fits modules place text row h =
    let read = step-ok (row_spelled place (text_words text)) _ row h in
    let fits = unless-ok (fits_row modules read.0) (BadScript, place) _ row read.1.1 in
    let same : read.0 ≡ row = ok_value read.0 row fits.1 in
    rw (← same) fits.0

-- the rows of a script pass, zeros too, and are few
rows-pass : (modules : List Module) (position : ℕ) (rows : List ScriptRow)
    → first_failed (tests_of_each (placed_row_tests modules position) rows) ≡ Ok tt
    → length rows ≤ script_limit
    → (first_failed (tests_of_each (placed_row_tests modules position) (or_zeros modules rows))
    ≡ Ok tt) × (length (or_zeros modules rows) ≤ script_limit)
unfolding tests_behind
rows-pass modules position [] h few =
    let zeros : List ℕ = replicate (input_total modules) 0 in
    let fits : fits_row modules (Row zeros) ≡ true = eq-eqb (length zeros) (input_total modules)
    (length-replicate (input_total modules) 0) in (
      both-hold (placed_row_tests modules position [] (Row zeros)) []
          (row-holds modules position [] (Row zeros) fits) refl,
      omega arith,
    )
rows-pass modules position (row ∷ rows) h few = (h, few)

-- four tests that hold
four-hold : {F : Type 0} (a b c d : Bool) (f g k l : F) → a ≡ true → b ≡ true → c ≡ true → d ≡ true
    → first_failed ((a, f) ∷ (b, g) ∷ (c, k) ∷ (d, l) ∷ []) ≡ Ok tt
four-hold a b c d f g k l p q r s = rw (p, q, r, s) refl

-- a drop that is read passes its tests
drop_with-passes : (owner : Owner) (earlier : List IoDrop) (drop number : ℕ)
    (module_texts row_texts : List (List ℕ)) (d : IoDrop)
    → (1 ≤ number) × (number ≤ 32) → length module_texts ≤ module_limit
    → length row_texts ≤ script_limit
    → not (is_some (drop_named earlier number)) ≡ true
    → drop_with owner drop number module_texts row_texts ≡ Ok d
    → first_failed (drop_tests owner.sizes earlier d) ≡ Ok tt
unfolding drop_with
drop_with-passes owner earlier drop number module_texts row_texts d within few_modules
    few_rows fresh h =
    let position = length earlier + 1 in
    let modules = step-ok (modules_of owner drop module_texts) _ d h in
    let few = unless-ok (has_few_words modules.0) (TooLarge, drop_place owner.position drop) _ d
    modules.1.1 in
    let rows = step-ok (rows_of owner.position modules.0 drop row_texts)
    (λ rows. Ok (drop_from number modules.0 (or_zeros modules.0 rows))) d few.1 in
    let whole : IoDrop = drop_from number modules.0 (or_zeros modules.0 rows.0) in
    let same : whole ≡ d = ok_value whole d rows.1.1 in
    let read = each_from-tests (placed_row_tests modules.0 position)
    (numbered_row owner.position modules.0 drop)
    (λ before n text row e. row-holds modules.0 position before row
    (script_row-fits modules.0 _ text row e)) row_texts 1 rows.0 rows.1.0 in
    let module_count = each_from-length (numbered_module owner drop) module_texts 1 modules.0
    modules.1.0 in
    let row_count = each_from-length (numbered_row owner.position modules.0 drop) row_texts 1
    rows.0 rows.1.0 in
    let script = rows-pass modules.0 position rows.0 read (omega (arith, row_count, few_rows)) in
    let numbers : first_failed (number_tests earlier whole) ≡ Ok tt =
    four-hold (nat_le 1 number && nat_le number drop_limit) (nat_le (length modules.0) module_limit)
    (nat_le (length (or_zeros modules.0 rows.0)) script_limit)
    (not (is_some (drop_named earlier number))) BadValue TooLarge TooLarge BadDrop
    (and_from (nat_le 1 number) (nat_le number drop_limit) (le-leb 1 number within.0)
    (le-leb number drop_limit within.1))
    (le-leb (length modules.0) module_limit (omega (arith, module_count, few_modules)))
    (le-leb (length (or_zeros modules.0 rows.0)) script_limit script.1) fresh in
    let module_tests_each = tests_of_each (placed_module_tests owner.sizes position) modules.0 in
    let words = placed (drop_place 1 position) (word_tests modules.0) in
    let row_tests = tests_of_each (placed_row_tests modules.0 position)
    (or_zeros modules.0 rows.0) in
    let word_hold = placed-hold (drop_place 1 position) (word_tests modules.0)
    (one-test (has_few_words modules.0) TooLarge few.0) in
    let parts : first_failed (part_tests owner.sizes position whole) ≡ Ok tt =
    both-hold module_tests_each (words ++ row_tests)
    (modules-pass owner drop position module_texts modules.0 modules.1.0)
    (both-hold words row_tests word_hold script.0) in
    let passes : first_failed (drop_tests owner.sizes earlier whole) ≡ Ok tt =
    both-hold (placed (drop_place 1 position) (number_tests earlier whole))
    (part_tests owner.sizes position whole)
    (placed-hold (drop_place 1 position) (number_tests earlier whole) numbers) parts in
    rw (← same) passes

drop_behind-passes : (owner : Owner) (earlier : List IoDrop) (table : ℕ × Members) (d : IoDrop)
    → drop_behind owner earlier table ≡ Ok d
    → first_failed (drop_tests owner.sizes earlier d) ≡ Ok tt
unfolding drop_behind
drop_behind-passes owner earlier table d h =
    let place = drop_place owner.position table.0 in
    let keys = step-ok (table_passes place kinds.Drop table.1) _ d h in
    let number = step-ok (number_at_key place BadValue (codes "number") 1 32 table.1)
    _ d keys.1.1 in
    let modules = step-ok (texts_at place module_limit (codes "modules") table.1) _ d number.1.1 in
    let rows = step-ok (texts_at place script_limit (codes "script") table.1) _ d modules.1.1 in
    let fresh = unless-ok (not (is_some (drop_named earlier number.0)))
    (BadDrop, place) _ d rows.1.1 in
    let within = number_at_key-within place BadValue
    (codes "number") 1 32 table.1 number.0 number.1.0 in
    drop_with-passes owner earlier table.0 number.0 modules.0 rows.0 d within
    (texts_at-few place module_limit (codes "modules") table.1 modules.0 modules.1.0)
    (texts_at-few place script_limit (codes "script") table.1 rows.0 rows.1.0) fresh.0 fresh.1

-- the drops of a controller pass their tests
pub drops-pass : (owner : Owner) (tables : List Members) (drops : List IoDrop)
    → drops_of owner tables ≡ Ok drops
    → first_failed (tests_of_each (drop_tests owner.sizes) drops) ≡ Ok tt
drops-pass owner tables drops h =
    each_behind-tests (drop_tests owner.sizes) (drop_behind owner) (drop_behind-passes owner)
    (numbered_from 1 tables) drops h
