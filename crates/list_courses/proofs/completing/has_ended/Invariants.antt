use Rattle.std.proofs.Common.{◌≡◌, false, take}
use Rattle.std.specs.List.{list_any}
use Rattle.list_courses.specs.Completing.{is_ended}
use Rattle.station_laws.specs.Picked.{picked}
use Rattle.list_courses.proofs.completing.has_ended.Given as goal

abbrev pub invariant-loop-place : goal.invariant-loop-place
invariant-loop-place l =
    list_any is_ended (picked l.ring (take l.place-index l.places)) ≡ false
