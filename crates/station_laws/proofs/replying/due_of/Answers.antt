use Rattle.std.proofs.Common.{[], ◌+◌, ◌<◌, length, take, arith}
use Rattle.std.specs.List.{cons_option}
use Rattle.tied_lists.specs.Items.{taken_by, taken_of}
use Rattle.station_laws.specs.Picked.{picked}
use Rattle.station_laws.proofs.Lists.{picked-filter}
use Rattle.station_laws.proofs.AnswerSteps.{due-step}
use Rattle.station_laws.proofs.replying.due_of.Goals as goal

pub loop-place-preserved : goal.loop-place-preserved
loop-place-preserved c =
    let low : c.loop-place.place-index < length c.args.places.now = omega arith in
    let front = taken_by (picked c.args.ring.now
    (take c.loop-place.place-index c.args.places.now)) in
    let step = picked-filter taken_of c.args.ring.now c.args.places.now c.loop-place.place-index
    c.index-ring-place.result c.requires low c.index-ring-place.is in
    let next = due-step front (cons_option (taken_of c.index-ring-place.result) [])
    (taken_by (picked c.args.ring.now (take (c.loop-place.place-index + 1) c.args.places.now)))
    _ _ _ _ _ _ _ _ step c.loop-place.invariant.list_is c.loop-place.invariant.peers_are
    c.loop-place.invariant.locals_are c.in_ok-add_due.ensures in
    record { list_is = next.list_is; peers_are = next.peers_are; locals_are = next.locals_are }
