use Rattle.std.proofs.Common.{◌<◌, length, take, arith}
use Rattle.tied_lists.specs.Items.{answered_of, port_answers}
use Rattle.station_laws.specs.Picked.{picked}
use Rattle.station_laws.proofs.Names.{names-next}
use Rattle.station_laws.proofs.Lists.{picked-filter}
use Rattle.station_laws.proofs.backs.port_names.Goals as goal

pub loop-place-preserved : goal.loop-place-preserved
loop-place-preserved c =
    let low : c.loop-place.place-index < length c.args.places.now = omega arith in
    names-next
    (port_answers (picked c.args.ring.now (take c.loop-place.place-index c.args.places.now))) _
    (answered_of c.index-ring-place.result) c.loop-place.names c.note_name.new.names
    (picked-filter answered_of c.args.ring.now c.args.places.now c.loop-place.place-index
    c.index-ring-place.result c.requires low c.index-ring-place.is)
    c.loop-place.invariant c.in_ok-note_name.ensures
