use Rattle.std.proofs.Common.{List, length, ap}
use Rattle.std.specs.List.{find, list_any}
use Rattle.plant_types.specs.declared.plan.PowerRow.{PowerRow}
use Rattle.scan_order.specs.Power.{is_dark_by, is_failure_in, power_by, power_in}
use Rattle.scan_order.proofs.power.kept_power_stays.Goals as goal

pub returns : goal.returns
unfolding power_in
returns c = λ plan scan none.
    ap (λ (rows : List PowerRow). power_by (find (is_failure_in (length plan.orders) scan) rows)
    (list_any (is_dark_by scan) rows)) none
