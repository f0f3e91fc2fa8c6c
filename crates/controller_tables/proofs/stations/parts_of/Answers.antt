use Rattle.std.proofs.Common.{List, length, map, ap, arith}
use Rattle.std.proofs.lemmas.List.{length-map}
use Rattle.plant_types.specs.declared.plan.OrderRow.{OrderRow}
use Rattle.plant_tables.proofs.TestLemmas.{each_from-length}
use Rattle.controller_tables.proofs.stations.parts_of.Goals as goal

-- there are as many order rows as texts of them
pub power_rows_of-requires-clause-orders : goal.power_rows_of-requires-clause-orders
power_rows_of-requires-clause-orders c =
    let rows = each_from-length _ (map (λ t. t.now) c.as_slice-5.result.now) 1
    c.in_ok-orders.orders c.in_ok-orders.ensures in
    let texts = length-map c.as_slice-5.result.now (λ t. t.now) in
    let same = ap (λ (xs : List OrderRow). length xs) c.as_slice-6.ensures in
    omega (arith, rows, texts, c.as_slice-5.ensures.len, c.requires.orders, same)
