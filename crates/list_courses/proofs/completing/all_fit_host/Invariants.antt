use Rattle.std.proofs.Common.{◌≡◌, [], take}
use Rattle.list_courses.specs.Completing.{EachAllows, HostAllows, progress_of}
use Rattle.list_courses.specs.Completing.{left_given}
use Rattle.station_laws.specs.Picked.{picked}
use Rattle.tied_lists.specs.Items.{taken_by}
use Rattle.list_courses.proofs.completing.all_fit_host.Given as goal

abbrev pub invariant-loop-place : goal.invariant-loop-place
invariant-loop-place l =
    record {
      progress_is : l.progress ≡ progress_of [] (picked l.ring (take l.place-index l.places));
      left_is : l.given.items
          ≡ left_given (taken_by (picked l.ring (take l.place-index l.places))) [];
      each : EachAllows (HostAllows l.plan) (picked l.ring (take l.place-index l.places));
    }
