use Rattle.std.proofs.Common.{◌≡◌, ◌+◌, map, drop}
use Rattle.toml.specs.View.{table_view}
use Rattle.plant_tables.specs.InOrder.{numbered_from, each_behind}
use Rattle.plant_loader.specs.Hosts.{host_behind, hosts_of}
use Rattle.plant_loader.proofs.hosts.hosts_of.Given as goal

-- the hosts so far, before those of the tables left
abbrev pub invariant-loop-table : goal.invariant-loop-table
invariant-loop-table l = record {
  read : each_behind (host_behind l.version l.nets l.controllers) l.hosts.items
      (numbered_from (l.position + 1)
      (map (λ t. table_view t.now) (drop l.table-index l.tables)))
      ≡ hosts_of l.version l.nets l.controllers (map (λ t. table_view t.now) l.tables);
  position : l.position ≡ l.table-index;
}
