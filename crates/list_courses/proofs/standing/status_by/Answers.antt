use Rattle.std.proofs.Common.{◌<◌, length, take, sym, ap, ◌∙◌, arith}
use Rattle.ring_core.specs.declared.status.NodeStatus.{NodeStatus}
use Rattle.net_laws.specs.Standing.{status_by, status_next}
use Rattle.station_laws.specs.Picked.{picked}
use Rattle.station_laws.proofs.Lists.{picked-push}
use Rattle.list_courses.proofs.Stands.{status-push}
use Rattle.list_courses.proofs.standing.status_by.Goals as goal

pub loop-place-preserved : goal.loop-place-preserved
loop-place-preserved c =
    let low : c.loop-place.place-index < length c.args.places.now = omega arith in
    let e = c.index-ring-place.result in
    let front = picked c.args.ring.now (take c.loop-place.place-index c.args.places.now) in
    c.status_next-status.ensures
    ∙ (ap (λ (s : NodeStatus). status_next s e) c.loop-place.invariant
    ∙ (sym (status-push front e)
    ∙ ap status_by (sym (picked-push c.args.ring.now c.args.places.now c.loop-place.place-index e
    c.requires low c.index-ring-place.is))))
