use Rattle.std.proofs.Common.{◌≡◌, ◌+◌, map, drop}
use Rattle.toml.specs.View.{table_view}
use Rattle.plant_tables.specs.InOrder.{numbered_from, each_behind}
use Rattle.controller_tables.specs.Stations.{controller_behind, controllers_of}
use Rattle.controller_tables.proofs.stations.controllers_of.Given as goal

-- the controllers so far, before those of the tables left
abbrev pub invariant-loop-table : goal.invariant-loop-table
invariant-loop-table l = record {
  read : each_behind (controller_behind l.version l.nets) l.plans.items
      (numbered_from (l.position + 1)
      (map (λ t. table_view t.now) (drop l.table-index l.tables)))
      ≡ controllers_of l.version l.nets (map (λ t. table_view t.now) l.tables);
  position : l.position ≡ l.table-index;
}
