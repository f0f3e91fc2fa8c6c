use Rattle.std.proofs.Common.{◌≡◌, take}
use Rattle.list_courses.specs.Completing.{EachAllows}
use Rattle.list_courses.specs.Leaving.{LeaveAllows, done_row}
use Rattle.station_laws.specs.Picked.{picked}
use Rattle.list_courses.proofs.leaving.leaves_quietly.Given as goal

abbrev pub invariant-loop-place : goal.invariant-loop-place
invariant-loop-place l =
    record {
      row_is : l.row ≡ done_row (picked l.ring (take l.place-index l.places));
      each : EachAllows LeaveAllows (picked l.ring (take l.place-index l.places));
    }
