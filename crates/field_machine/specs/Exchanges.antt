-- The input exchanges of a scan. All of it is this project's own.
use Rattle.std.specs.Prelude.{ℕ, ◌==◌, if◌then◌else◌, List, [], ◌∷◌, Option, Some, None}
use Rattle.std.specs.List.{cons_option}
use Rattle.plant_types.specs.declared.plan.ControllerPlan.{ControllerPlan}
use Rattle.scan_order.specs.declared.due.ScanStep.{ScanStep}
use Rattle.scan_order.specs.declared.due.ScanStep.TheVariants as steps
use Rattle.scan_order.specs.Due.{full_scan, input_of, row_of}
use Rattle.field_runs.specs.Scan.{rest_of, told_first}
use Rattle.field_machine.specs.declared.exchanges.Exchange.{Exchange}

-- The exchange with a drop that brings a row, if there is a drop.
abbrev pub exchange_with : Option ℕ → ℕ → Option Exchange
exchange_with None row = None
exchange_with (Some drop) row = Some (record { drop = drop; row = row })

-- The input exchanges of steps in which these rows are brought, in their order.
abbrev pub exchanges_in : ControllerPlan → List ScanStep → List ℕ → List Exchange
exchanges_in plan [] rows = []
exchanges_in plan (steps.In row ∷ due) rows =
    cons_option (exchange_with (input_of (row_of plan row)) (told_first rows))
    (exchanges_in plan due (rest_of rows))
exchanges_in plan (step ∷ due) rows = exchanges_in plan due rows

-- The input exchanges of a scan in which these rows are brought, in their order.
abbrev pub exchanges_of : ControllerPlan → List ℕ → List Exchange
exchanges_of plan rows = exchanges_in plan (full_scan plan) rows

-- The rows that exchanges bring a drop.
abbrev pub row_to : ℕ → Exchange → Option ℕ
row_to number exchange = if exchange.drop == number then Some exchange.row else None
