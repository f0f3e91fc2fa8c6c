use Rattle.std.proofs.Common.{◌≡◌, ◌++◌, map, take}
use Rattle.tied_lists.specs.Items.{taken_by}
use Rattle.station_laws.specs.Bound.{sorted}
use Rattle.station_laws.specs.Taking.{items_for}
use Rattle.station_laws.specs.Picked.{picked}
use Rattle.station_laws.proofs.answering.add_all_taken.Given as goal

abbrev pub invariant-loop-place : goal.invariant-loop-place
invariant-loop-place l =
    l.list.items ≡ l.initial.list.items
    ++ map (sorted l.statistics) (items_for l.statistics
    (taken_by (picked l.ring (take l.place-index l.places))))
