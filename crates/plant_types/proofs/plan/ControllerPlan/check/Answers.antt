use Rattle.std.proofs.Common.{◌≡◌, ◌∙◌, ◌++◌, Ok, sym, ap}
use Rattle.std.proofs.lemmas.Result.{err_from_is_err_and}
use Rattle.plant_types.specs.Fault.{controller_place, at_place}
use Rattle.plant_types.specs.FirstFault.{first_failed, tests_of_each}
use Rattle.plant_types.specs.Checks.{sizes_of}
use Rattle.plant_types.specs.PlanTests.{placed, table_tests, segment_tests, order_tests}
use Rattle.plant_types.specs.PlanTests.{power_tests, panel_tests}
use Rattle.plant_types.proofs.FaultLemmas.{parts-failed, parts-held}
use Rattle.plant_types.proofs.PlanLemmas.{placed-first}
use Rattle.plant_types.proofs.plan.ControllerPlan.check.Goals as goal

pub returns-in_err-check_segments : goal.returns-in_err-check_segments
returns-in_err-check_segments c =
    let p = err_from_is_err_and c.from_residual-in_err-check_segments.result
    c.from_residual-in_err-check_segments.ensures.1 in
    let plan = c.args.self.now in
    let table = placed (controller_place 1) (table_tests plan) in
    let segments = tests_of_each (segment_tests plan) plan.segments in
    let rest = tests_of_each (order_tests plan) plan.orders
    ++ (tests_of_each (power_tests plan) plan.power
    ++ tests_of_each (panel_tests (sizes_of plan)) plan.panel) in
    let front : Ok tt ≡ first_failed table = sym c.in_ok-locate.was ∙ c.locate.ensures
    ∙ ap (λ place. at_place place c.check_table.result) c.controller.ensures
    ∙ ap (at_place (controller_place 1)) c.check_table.ensures
    ∙ placed-first (controller_place 1) (table_tests plan) in
    rw (p.1, p.2) (parts-failed segments rest c.in_err-check_segments.field-0.0
    (sym c.in_err-check_segments.was ∙ rw c.as_slice.ensures at c.check_segments.ensures)
    ∙ parts-held table (segments ++ rest) front)

pub returns-in_err-check_orders : goal.returns-in_err-check_orders
returns-in_err-check_orders c =
    let p = err_from_is_err_and c.from_residual-in_err-check_orders.result
    c.from_residual-in_err-check_orders.ensures.1 in
    let plan = c.args.self.now in
    let table = placed (controller_place 1) (table_tests plan) in
    let segments = tests_of_each (segment_tests plan) plan.segments in
    let orders = tests_of_each (order_tests plan) plan.orders in
    let rest = tests_of_each (power_tests plan) plan.power
    ++ tests_of_each (panel_tests (sizes_of plan)) plan.panel in
    let front : Ok tt ≡ first_failed table = sym c.in_ok-locate.was ∙ c.locate.ensures
    ∙ ap (λ place. at_place place c.check_table.result) c.controller.ensures
    ∙ ap (at_place (controller_place 1)) c.check_table.ensures
    ∙ placed-first (controller_place 1) (table_tests plan) in
    let held : Ok tt ≡ first_failed segments = sym c.in_ok-check_segments.was
    ∙ rw c.as_slice.ensures at c.check_segments.ensures in
    rw (p.1, p.2) (parts-failed orders rest c.in_err-check_orders.field-0.0
    (sym c.in_err-check_orders.was ∙ rw c.as_slice-2.ensures at c.check_orders.ensures)
    ∙ parts-held segments (orders ++ rest) held
    ∙ parts-held table (segments ++ (orders ++ rest)) front)

pub returns-in_err-check_power : goal.returns-in_err-check_power
returns-in_err-check_power c =
    let p = err_from_is_err_and c.from_residual-in_err-check_power.result
    c.from_residual-in_err-check_power.ensures.1 in
    let plan = c.args.self.now in
    let table = placed (controller_place 1) (table_tests plan) in
    let segments = tests_of_each (segment_tests plan) plan.segments in
    let orders = tests_of_each (order_tests plan) plan.orders in
    let power = tests_of_each (power_tests plan) plan.power in
    let panel = tests_of_each (panel_tests (sizes_of plan)) plan.panel in
    let front : Ok tt ≡ first_failed table = sym c.in_ok-locate.was ∙ c.locate.ensures
    ∙ ap (λ place. at_place place c.check_table.result) c.controller.ensures
    ∙ ap (at_place (controller_place 1)) c.check_table.ensures
    ∙ placed-first (controller_place 1) (table_tests plan) in
    let held : Ok tt ≡ first_failed segments = sym c.in_ok-check_segments.was
    ∙ rw c.as_slice.ensures at c.check_segments.ensures in
    let solved : Ok tt ≡ first_failed orders = sym c.in_ok-check_orders.was
    ∙ rw c.as_slice-2.ensures at c.check_orders.ensures in
    rw (p.1, p.2) (parts-failed power panel c.in_err-check_power.field-0.0
    (sym c.in_err-check_power.was ∙ rw c.as_slice-3.ensures at c.check_power.ensures)
    ∙ parts-held orders (power ++ panel) solved
    ∙ parts-held segments (orders ++ (power ++ panel)) held
    ∙ parts-held table (segments ++ (orders ++ (power ++ panel))) front)

pub returns : goal.returns
returns c =
    let plan = c.args.self.now in
    let table = placed (controller_place 1) (table_tests plan) in
    let segments = tests_of_each (segment_tests plan) plan.segments in
    let orders = tests_of_each (order_tests plan) plan.orders in
    let power = tests_of_each (power_tests plan) plan.power in
    let panel = tests_of_each (panel_tests (sizes_of plan)) plan.panel in
    let front : Ok tt ≡ first_failed table = sym c.in_ok-locate.was ∙ c.locate.ensures
    ∙ ap (λ place. at_place place c.check_table.result) c.controller.ensures
    ∙ ap (at_place (controller_place 1)) c.check_table.ensures
    ∙ placed-first (controller_place 1) (table_tests plan) in
    let held : Ok tt ≡ first_failed segments = sym c.in_ok-check_segments.was
    ∙ rw c.as_slice.ensures at c.check_segments.ensures in
    let solved : Ok tt ≡ first_failed orders = sym c.in_ok-check_orders.was
    ∙ rw c.as_slice-2.ensures at c.check_orders.ensures in
    let failed : Ok tt ≡ first_failed power = sym c.in_ok-check_power.was
    ∙ rw c.as_slice-3.ensures at c.check_power.ensures in
    rw (c.sizes.ensures, c.as_slice-4.ensures) at c.check_panel.ensures
    ∙ parts-held power panel failed ∙ parts-held orders (power ++ panel) solved
    ∙ parts-held segments (orders ++ (power ++ panel)) held
    ∙ parts-held table (segments ++ (orders ++ (power ++ panel))) front
