use Rattle.std.proofs.Common.{◌≡◌, ◌+◌, map, drop}
use Rattle.plant_tables.specs.InOrder.{with_front, each_from}
use Rattle.controller_tables.specs.Controller.{panel_item, panel_of}
use Rattle.controller_tables.proofs.controller.panel_of.Given as goal

-- the references so far, before those of the texts left
abbrev pub invariant-loop-text : goal.invariant-loop-text
invariant-loop-text l = record {
  read : with_front l.panel
      (each_from (panel_item l.owner) (l.number + 1) (map (λ t. t.now) (drop l.text-index l.texts)))
      ≡ panel_of l.owner (map (λ t. t.now) l.texts);
  number : l.number ≡ l.text-index;
}
