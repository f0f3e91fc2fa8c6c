use Rattle.std.proofs.Common.{◌≡◌, ◌+◌, map, drop}
use Rattle.plant_tables.specs.InOrder.{numbered_from, each_behind}
use Rattle.plant_loader.specs.Bridges.{bridge_behind, bridges_of}
use Rattle.plant_loader.proofs.bridges.bridges_of.Given as goal

-- the bridges so far, before those of the texts left
abbrev pub invariant-loop-text : goal.invariant-loop-text
invariant-loop-text l = record {
  read : each_behind (bridge_behind l.nets l.stations) l.bridges.items
      (numbered_from (l.number + 1) (map (λ t. t.now) (drop l.text-index l.texts)))
      ≡ bridges_of l.nets l.stations (map (λ t. t.now) l.texts);
  number : l.number ≡ l.text-index;
}
