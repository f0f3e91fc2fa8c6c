use Rattle.std.proofs.Common.{take}
use Rattle.tied_lists.specs.Items.{port_answers}
use Rattle.station_laws.specs.Backs.{HasNames}
use Rattle.station_laws.specs.Picked.{picked}
use Rattle.station_laws.proofs.backs.port_names.Given as goal

abbrev pub invariant-loop-place : goal.invariant-loop-place
invariant-loop-place l =
    HasNames (port_answers (picked l.ring (take l.place-index l.places))) l.names
