use Rattle.std.proofs.Common.{◌≡◌, take}
use Rattle.tied_lists.specs.Items.{downs_by}
use Rattle.station_laws.specs.Picked.{picked}
use Rattle.station_laws.proofs.failing.downs.Given as goal

abbrev pub invariant-loop-place : goal.invariant-loop-place
invariant-loop-place l =
    l.list.items ≡ downs_by (picked l.ring (take l.place-index l.places))
