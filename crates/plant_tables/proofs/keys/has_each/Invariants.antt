use Rattle.std.proofs.Common.{◌≡◌, map, drop}
use Rattle.toml.specs.View.{table_view}
use Rattle.plant_tables.specs.Keys.{has_each}
use Rattle.plant_tables.proofs.keys.has_each.Given as goal

-- whether the table has the keys left
abbrev pub invariant-loop-key : goal.invariant-loop-key
invariant-loop-key l = has_each (map (λ k. k.now) (drop l.key-index l.keys)) (table_view l.table)
    ≡ has_each (map (λ k. k.now) l.keys) (table_view l.table)
