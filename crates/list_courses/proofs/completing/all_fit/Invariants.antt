use Rattle.std.proofs.Common.{◌≡◌, take}
use Rattle.list_courses.specs.Completing.{EachAllows, NodeAllows, progress_of}
use Rattle.list_courses.specs.Completing.{left_given}
use Rattle.station_laws.specs.Picked.{picked}
use Rattle.tied_lists.specs.Items.{taken_by}
use Rattle.list_courses.proofs.completing.all_fit.Given as goal

abbrev pub invariant-loop-place : goal.invariant-loop-place
invariant-loop-place l =
    record {
      progress_is : l.progress ≡ progress_of l.initial.given.items
          (picked l.ring (take l.place-index l.places));
      left_is : l.given.items
          ≡ left_given (taken_by (picked l.ring (take l.place-index l.places)))
          l.initial.given.items;
      each : EachAllows (NodeAllows l.initial.given.items)
          (picked l.ring (take l.place-index l.places));
    }
