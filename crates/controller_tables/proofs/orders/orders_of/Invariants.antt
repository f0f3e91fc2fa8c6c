use Rattle.std.proofs.Common.{◌≡◌, ◌+◌, map, drop}
use Rattle.plant_tables.specs.InOrder.{with_front, each_from}
use Rattle.controller_tables.specs.Orders.{nameable, order_row, orders_of}
use Rattle.controller_tables.proofs.orders.orders_of.Given as goal

-- the rows so far, before those of the texts left
abbrev pub invariant-loop-text : goal.invariant-loop-text
invariant-loop-text l = record {
  read : with_front l.rows
      (each_from (order_row (nameable l.owner l.segments l.drops)) (l.number + 1)
      (map (λ t. t.now) (drop l.text-index l.texts)))
      ≡ orders_of (nameable l.owner l.segments l.drops) (map (λ t. t.now) l.texts);
  number : l.number ≡ l.text-index;
}
