use Rattle.std.proofs.Common.{◌≡◌, take}
use Rattle.tied_lists.specs.Items.{due_replies, taken_by}
use Rattle.station_laws.specs.Taking.{left_plain, left_stats}
use Rattle.station_laws.specs.Picked.{picked}
use Rattle.station_laws.proofs.replying.due_of.Given as goal

abbrev pub invariant-loop-place : goal.invariant-loop-place
invariant-loop-place l =
    record {
      list_is : l.list.items ≡ due_replies (taken_by (picked l.ring (take l.place-index l.places)))
          l.initial.peers.items l.initial.locals.items;
      peers_are : l.peers.items ≡ left_plain
          (taken_by (picked l.ring (take l.place-index l.places))) l.initial.peers.items;
      locals_are : l.locals.items ≡ left_stats
          (taken_by (picked l.ring (take l.place-index l.places))) l.initial.locals.items;
    }
