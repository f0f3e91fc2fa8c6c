use Rattle.std.proofs.Common.{◌≡◌, ◌+◌, map, drop}
use Rattle.toml.specs.View.{table_view}
use Rattle.plant_tables.specs.InOrder.{numbered_from, each_behind}
use Rattle.plant_tables.specs.Net.{net_behind, net_tables}
use Rattle.plant_tables.proofs.net.net_tables.Given as goal

-- the networks so far, before those of the tables left
abbrev pub invariant-loop-table : goal.invariant-loop-table
invariant-loop-table l = record {
  read : each_behind net_behind l.nets.items (numbered_from (l.position + 1)
      (map (λ t. table_view t.now) (drop l.table-index l.tables)))
      ≡ net_tables (map (λ t. table_view t.now) l.tables);
  position : l.position ≡ l.table-index;
}
