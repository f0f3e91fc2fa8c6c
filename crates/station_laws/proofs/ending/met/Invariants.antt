use Rattle.std.proofs.Common.{◌≡◌, [], take}
use Rattle.mstr_block.specs.declared.call.CallId.{CallId}
use Rattle.tied_lists.specs.Items.{asked_by, ended_by, last_asked}
use Rattle.station_laws.specs.Kinds.{station_of}
use Rattle.station_laws.specs.Named.{value_of_call}
use Rattle.station_laws.specs.Picked.{picked}
use Rattle.station_laws.proofs.ending.met.Given as goal

abbrev pub invariant-loop-place : goal.invariant-loop-place
invariant-loop-place l =
    record {
      asked_are : (q : CallId) → value_of_call l.asked q
          ≡ last_asked q (asked_by (picked l.ring (take l.place-index l.places)));
      list_is : l.list.items ≡ ended_by (station_of l.sort) []
          (picked l.ring (take l.place-index l.places));
    }
