use Rattle.std.proofs.Common.{◌≡◌, ◌+◌, map, drop}
use Rattle.plant_tables.specs.InOrder.{with_front, each_from}
use Rattle.controller_tables.specs.Drops.{numbered_module, modules_of}
use Rattle.controller_tables.proofs.drops.modules_of.Given as goal

-- the modules so far, before those of the texts left
abbrev pub invariant-loop-text : goal.invariant-loop-text
invariant-loop-text l = record {
  read : with_front l.modules (each_from (numbered_module l.owner l.drop) (l.number + 1)
      (map (λ t. t.now) (drop l.text-index l.texts)))
      ≡ modules_of l.owner l.drop (map (λ t. t.now) l.texts);
  number : l.number ≡ l.text-index;
}
