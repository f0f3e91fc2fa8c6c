use Rattle.std.proofs.Common.{◌≡◌, ◌++◌, true, map, take}
use Rattle.station_laws.specs.Bound.{port_replies, sorted}
use Rattle.station_laws.specs.Picked.{picked}
use Rattle.station_laws.proofs.backs.add_port_replies.Given as goal

abbrev pub invariant-loop-place : goal.invariant-loop-place
invariant-loop-place l =
    l.list.items ≡ l.initial.list.items
    ++ map (sorted true) (port_replies (picked l.ring (take l.place-index l.places)))
