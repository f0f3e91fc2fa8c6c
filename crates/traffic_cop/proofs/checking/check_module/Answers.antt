use Rattle.std.proofs.Common.{◌∙◌, ◌+◌, length, ap}
use Rattle.plant_types.specs.Fault.{at_place}
use Rattle.plant_types.proofs.PlanLemmas.{placed-first}
use Rattle.traffic_cop.specs.Tests.{module_tests, held_of}
use Rattle.traffic_cop.specs.DropTests.{module_place}
use Rattle.traffic_cop.proofs.checking.check_module.Goals as goal

pub returns : goal.returns
returns c =
    let place = module_place 1 c.args.drop (length c.args.earlier.now + 1) in
    let tests = module_tests (held_of c.args.sizes c.args.io_module) c.args.io_module in
    let tested = rw c.held_of.ensures at c.test_module.ensures in
    c.locate.ensures ∙ ap (λ p. at_place p c.test_module.result) c.module_place-place.ensures
    ∙ ap (at_place place) tested ∙ placed-first place tests
