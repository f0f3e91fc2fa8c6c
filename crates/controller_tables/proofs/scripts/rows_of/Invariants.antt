use Rattle.std.proofs.Common.{◌≡◌, ◌+◌, map, drop}
use Rattle.plant_tables.specs.InOrder.{with_front, each_from}
use Rattle.controller_tables.specs.Drops.{numbered_row, rows_of}
use Rattle.controller_tables.proofs.scripts.rows_of.Given as goal

-- the rows so far, before those of the texts left
abbrev pub invariant-loop-text : goal.invariant-loop-text
invariant-loop-text l = record {
  read : with_front l.rows (each_from (numbered_row l.controller l.modules l.drop) (l.number + 1)
      (map (λ t. t.now) (drop l.text-index l.texts)))
      ≡ rows_of l.controller l.modules l.drop (map (λ t. t.now) l.texts);
  number : l.number ≡ l.text-index;
}
