use Rattle.std.proofs.Common.{◌<◌, length, arith}
use Rattle.tied_lists.specs.Items.{down_of}
use Rattle.station_laws.proofs.Lists.{picked-filter, plain-step}
use Rattle.station_laws.proofs.failing.downs.Goals as goal

pub loop-place-preserved : goal.loop-place-preserved
loop-place-preserved c =
    let low : c.loop-place.place-index < length c.args.places.now = omega arith in
    plain-step _ _ _ _ _ c.in_ok-add_down.ensures c.loop-place.invariant
    (picked-filter down_of c.args.ring.now c.args.places.now c.loop-place.place-index
    c.index-ring-place.result c.requires low c.index-ring-place.is)
