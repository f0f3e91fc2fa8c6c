use Rattle.std.proofs.Common.{[], ◌<◌, length, take, ap, ◌∙◌, arith}
use Rattle.std.specs.List.{cons_option}
use Rattle.tied_lists.specs.Items.{replied_by, replied_of}
use Rattle.station_laws.specs.Backs.{replies_to}
use Rattle.station_laws.specs.Picked.{picked}
use Rattle.station_laws.proofs.Names.{replies-append}
use Rattle.station_laws.proofs.Lists.{joined-step, picked-filter}
use Rattle.station_laws.proofs.backs.add_replies.Goals as goal

pub loop-place-preserved : goal.loop-place-preserved
loop-place-preserved c =
    let low : c.loop-place.place-index < length c.args.places.now = omega arith in
    joined-step _ _ _ _ _ _ c.in_ok-add_reply.ensures c.loop-place.invariant
    (ap (replies_to c.args.names.now c.args.statistics)
    (picked-filter replied_of c.args.ring.now c.args.places.now c.loop-place.place-index
    c.index-ring-place.result c.requires low c.index-ring-place.is)
    ∙ replies-append c.args.names.now c.args.statistics
    (replied_by (picked c.args.ring.now (take c.loop-place.place-index c.args.places.now)))
    (cons_option (replied_of c.index-ring-place.result) []))
