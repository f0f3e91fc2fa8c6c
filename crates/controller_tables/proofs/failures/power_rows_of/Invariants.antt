use Rattle.std.proofs.Common.{◌≡◌, ◌+◌, length, map, drop}
use Rattle.plant_tables.specs.InOrder.{numbered_from, each_behind}
use Rattle.controller_tables.specs.Failures.{power_row, power_rows_of}
use Rattle.controller_tables.proofs.failures.power_rows_of.Given as goal

-- the rows so far, before those of the texts left
abbrev pub invariant-loop-text : goal.invariant-loop-text
invariant-loop-text l = record {
  read : each_behind (power_row l.owner (length l.orders)) l.rows (numbered_from (l.number + 1)
      (map (λ t. t.now) (drop l.text-index l.texts)))
      ≡ power_rows_of l.owner (length l.orders) (map (λ t. t.now) l.texts);
  number : l.number ≡ l.text-index;
}
