use Rattle.std.proofs.Common.{◌≡◌, ◌+◌, map, drop}
use Rattle.toml.specs.View.{table_view}
use Rattle.plant_tables.specs.InOrder.{numbered_from, each_behind}
use Rattle.controller_tables.specs.Drops.{drop_behind, drops_of}
use Rattle.controller_tables.proofs.drops.drops_of.Given as goal

-- the drops so far, before those of the tables left
abbrev pub invariant-loop-table : goal.invariant-loop-table
invariant-loop-table l = record {
  read : each_behind (drop_behind l.owner) l.drops (numbered_from (l.position + 1)
      (map (λ t. table_view t.now) (drop l.table-index l.tables)))
      ≡ drops_of l.owner (map (λ t. table_view t.now) l.tables);
  position : l.position ≡ l.table-index;
}
