use Rattle.std.proofs.Common.{◌≡◌, take}
use Rattle.net_laws.specs.Standing.{status_by}
use Rattle.station_laws.specs.Picked.{picked}
use Rattle.list_courses.proofs.standing.status_by.Given as goal

abbrev pub invariant-loop-place : goal.invariant-loop-place
invariant-loop-place l = l.status ≡ status_by (picked l.ring (take l.place-index l.places))
