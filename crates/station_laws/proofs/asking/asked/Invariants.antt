use Rattle.std.proofs.Common.{◌≡◌, take}
use Rattle.tied_lists.specs.Items.{asked_by}
use Rattle.station_laws.specs.Picked.{picked}
use Rattle.station_laws.proofs.asking.asked.Given as goal

abbrev pub invariant-loop-place : goal.invariant-loop-place
invariant-loop-place l =
    l.list.items ≡ asked_by (picked l.ring (take l.place-index l.places))
