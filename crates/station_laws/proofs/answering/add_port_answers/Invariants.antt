use Rattle.std.proofs.Common.{◌≡◌, ◌++◌, true, map, take}
use Rattle.tied_lists.specs.Items.{port_answers}
use Rattle.station_laws.specs.Bound.{sorted_answer}
use Rattle.station_laws.specs.Picked.{picked}
use Rattle.station_laws.proofs.answering.add_port_answers.Given as goal

abbrev pub invariant-loop-place : goal.invariant-loop-place
invariant-loop-place l =
    l.list.items ≡ l.initial.list.items
    ++ map (sorted_answer true) (port_answers (picked l.ring (take l.place-index l.places)))
