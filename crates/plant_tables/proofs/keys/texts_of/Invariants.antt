use Rattle.std.proofs.Common.{◌≡◌, map, drop, length}
use Rattle.toml.specs.Data.{as_str}
use Rattle.toml.specs.View.{items_view}
use Rattle.plant_tables.specs.InOrder.{with_front}
use Rattle.plant_tables.specs.Keys.{items_as}
use Rattle.plant_tables.proofs.keys.texts_of.Given as goal

-- the texts so far, before those of the items left; one for each item
abbrev pub invariant-loop-item : goal.invariant-loop-item
invariant-loop-item l = record {
  read : with_front (map (λ t. t.now) l.texts.items)
      (items_as as_str l.place (items_view (drop l.item-index l.items)))
      ≡ items_as as_str l.place (items_view l.items);
  count : length l.texts.items ≡ l.item-index;
}
