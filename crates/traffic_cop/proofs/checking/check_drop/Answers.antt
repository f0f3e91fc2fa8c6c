use Rattle.std.proofs.Common.{◌∙◌, ◌+◌, length, sym, ap}
use Rattle.std.proofs.lemmas.Result.{err_from_is_err_and}
use Rattle.plant_types.specs.Fault.{at_place}
use Rattle.plant_types.specs.PlanTests.{placed}
use Rattle.plant_types.proofs.FaultLemmas.{parts-failed, parts-held}
use Rattle.plant_types.proofs.PlanLemmas.{placed-first}
use Rattle.traffic_cop.specs.DropTests.{drop_place, number_tests, part_tests}
use Rattle.traffic_cop.proofs.checking.check_drop.Goals as goal

pub returns-in_err-locate : goal.returns-in_err-locate
returns-in_err-locate c =
    let p = err_from_is_err_and c.from_residual.result c.from_residual.ensures.1 in
    let position = length c.args.earlier.now + 1 in
    let place = drop_place 1 position in
    let tests = number_tests c.args.earlier.now c.args.drop.now in
    let located = c.locate.ensures ∙ ap (λ q. at_place q c.check_numbers.result)
    c.drop_place.ensures ∙ ap (at_place place) c.check_numbers.ensures
    ∙ placed-first place tests in
    rw (p.1, p.2) (parts-failed (placed place tests)
    (part_tests c.args.sizes position c.args.drop.now) c.in_err-locate.field-0.0
    (sym c.in_err-locate.was ∙ located))

pub returns : goal.returns
returns c =
    let position = length c.args.earlier.now + 1 in
    let place = drop_place 1 position in
    let tests = number_tests c.args.earlier.now c.args.drop.now in
    let located = c.locate.ensures ∙ ap (λ q. at_place q c.check_numbers.result)
    c.drop_place.ensures ∙ ap (at_place place) c.check_numbers.ensures
    ∙ placed-first place tests in
    c.check_parts.ensures ∙ parts-held (placed place tests)
    (part_tests c.args.sizes position c.args.drop.now) (sym c.in_ok-locate.was ∙ located)
