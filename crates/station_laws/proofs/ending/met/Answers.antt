use Rattle.std.proofs.Common.{◌+◌, ◌<◌, length, take, arith}
use Rattle.station_laws.specs.Picked.{picked}
use Rattle.station_laws.proofs.Lists.{picked-push}
use Rattle.station_laws.proofs.EndSteps.{met-step}
use Rattle.station_laws.proofs.ending.met.Goals as goal

pub loop-place-preserved : goal.loop-place-preserved
loop-place-preserved c =
    let low : c.loop-place.place-index < length c.args.places.now = omega arith in
    let push = picked-push c.args.ring.now c.args.places.now c.loop-place.place-index
    c.index-ring-place.result c.requires low c.index-ring-place.is in
    let next = met-step _ c.loop-place.asked c.add_met.new.asked _ _
    (picked c.args.ring.now (take c.loop-place.place-index c.args.places.now))
    c.index-ring-place.result
    (picked c.args.ring.now (take (c.loop-place.place-index + 1) c.args.places.now)) push
    c.loop-place.invariant.asked_are c.loop-place.invariant.list_is
    c.in_ok-add_met.ensures.asked c.in_ok-add_met.ensures.ends in
    record { asked_are = next.0; list_is = next.1 }
