use Rattle.std.proofs.Common.{◌≡◌, ◌++◌, take}
use Rattle.tied_lists.specs.Items.{replied_by}
use Rattle.station_laws.specs.Backs.{replies_to}
use Rattle.station_laws.specs.Picked.{picked}
use Rattle.station_laws.proofs.backs.add_replies.Given as goal

abbrev pub invariant-loop-place : goal.invariant-loop-place
invariant-loop-place l =
    l.list.items ≡ l.initial.list.items ++ replies_to l.names l.statistics
    (replied_by (picked l.ring (take l.place-index l.places)))
