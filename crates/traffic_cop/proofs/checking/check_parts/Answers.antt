use Rattle.std.proofs.Common.{◌≡◌, ◌∙◌, ◌++◌, Ok, sym}
use Rattle.std.proofs.lemmas.Result.{err_from_is_err_and}
use Rattle.plant_types.specs.FirstFault.{first_failed, tests_of_each}
use Rattle.plant_types.specs.PlanTests.{placed}
use Rattle.plant_types.proofs.FaultLemmas.{parts-failed, parts-held}
use Rattle.traffic_cop.specs.DropTests.{drop_place, placed_module_tests, placed_row_tests}
use Rattle.traffic_cop.specs.DropTests.{word_tests}
use Rattle.traffic_cop.proofs.checking.check_parts.Goals as goal

pub returns-in_err-check_modules : goal.returns-in_err-check_modules
returns-in_err-check_modules c =
    let p = err_from_is_err_and c.from_residual.result c.from_residual.ensures.1 in
    let d = c.args.drop.now in
    let modules = tests_of_each (placed_module_tests c.args.sizes c.args.position) d.modules in
    let rest = placed (drop_place 1 c.args.position) (word_tests d.modules)
    ++ tests_of_each (placed_row_tests d.modules c.args.position) d.script in
    rw (p.1, p.2) (parts-failed modules rest c.in_err-check_modules.field-0.0
    (sym c.in_err-check_modules.was ∙ rw c.as_slice-modules.ensures at c.check_modules.ensures))

pub returns-in_err-check_words : goal.returns-in_err-check_words
returns-in_err-check_words c =
    let p = err_from_is_err_and c.from_residual-in_err-check_words.result
    c.from_residual-in_err-check_words.ensures.1 in
    let d = c.args.drop.now in
    let modules = tests_of_each (placed_module_tests c.args.sizes c.args.position) d.modules in
    let words = placed (drop_place 1 c.args.position) (word_tests d.modules) in
    let rows = tests_of_each (placed_row_tests d.modules c.args.position) d.script in
    let front : Ok tt ≡ first_failed modules = sym c.in_ok-check_modules.was
    ∙ rw c.as_slice-modules.ensures at c.check_modules.ensures in
    rw (p.1, p.2) (parts-failed words rows c.in_err-check_words.field-0.0
    (sym c.in_err-check_words.was ∙ rw c.as_slice-modules.ensures at c.check_words.ensures)
    ∙ parts-held modules (words ++ rows) front)

pub returns : goal.returns
returns c =
    let d = c.args.drop.now in
    let modules = tests_of_each (placed_module_tests c.args.sizes c.args.position) d.modules in
    let words = placed (drop_place 1 c.args.position) (word_tests d.modules) in
    let rows = tests_of_each (placed_row_tests d.modules c.args.position) d.script in
    let front : Ok tt ≡ first_failed modules = sym c.in_ok-check_modules.was
    ∙ rw c.as_slice-modules.ensures at c.check_modules.ensures in
    let middle : Ok tt ≡ first_failed words = sym c.in_ok-check_words.was
    ∙ rw c.as_slice-modules.ensures at c.check_words.ensures in
    rw (c.as_slice-modules.ensures, c.as_slice.ensures) at c.check_rows.ensures
    ∙ parts-held words rows middle ∙ parts-held modules (words ++ rows) front
