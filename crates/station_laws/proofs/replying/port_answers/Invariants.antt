use Rattle.std.proofs.Common.{◌≡◌, take}
use Rattle.tied_lists.specs.Items.{port_answers, replies_in}
use Rattle.station_laws.specs.Picked.{picked}
use Rattle.station_laws.proofs.replying.port_answers.Given as goal

abbrev pub invariant-loop-place : goal.invariant-loop-place
invariant-loop-place l =
    l.list.items ≡ replies_in (port_answers (picked l.ring (take l.place-index l.places)))
