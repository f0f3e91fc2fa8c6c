use Rattle.std.proofs.Common.{arith}
use Rattle.own_places.proofs.Places.{no-places, more-places}
use Rattle.own_places.proofs.finding.all_places.Goals as goal

pub loop-place-init : goal.loop-place-init
loop-place-init c = no-places _ c.in_ok-lists.ensures

pub loop-place-preserved : goal.loop-place-preserved
loop-place-preserved c =
    more-places c.args.ring.now c.loop-place.place c.maker.result c.loop-place.lists.items _
    c.index-ring-place.result
    (omega arith) c.index-ring-place.is c.maker.ensures (omega arith) c.in_ok-add_place.ensures
    c.loop-place.invariant
