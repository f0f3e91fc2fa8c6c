use Rattle.std.proofs.Common.{◌≡◌, map, drop, length}
use Rattle.toml.specs.Data.{as_table}
use Rattle.toml.specs.View.{items_view, table_view}
use Rattle.plant_tables.specs.InOrder.{with_front}
use Rattle.plant_tables.specs.Keys.{items_as}
use Rattle.plant_tables.proofs.keys.tables_of.Given as goal

-- the tables so far, before those of the items left; one for each item
abbrev pub invariant-loop-item : goal.invariant-loop-item
invariant-loop-item l = record {
  read : with_front (map (λ t. table_view t.now) l.tables.items)
      (items_as as_table l.place (items_view (drop l.item-index l.items)))
      ≡ items_as as_table l.place (items_view l.items);
  count : length l.tables.items ≡ l.item-index;
}
