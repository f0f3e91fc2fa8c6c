use Rattle.std.proofs.Common.{[], ◌<◌, true, List, length, map, take, ap, ◌∙◌, arith}
use Rattle.std.specs.List.{cons_option}
use Rattle.std.proofs.lemmas.List.{map-append}
use Rattle.tied_lists.specs.Items.{Answered, answered_of, port_answers}
use Rattle.station_laws.specs.Backs.{reply_told}
use Rattle.station_laws.specs.Bound.{port_replies, sorted}
use Rattle.station_laws.specs.Picked.{picked}
use Rattle.station_laws.proofs.Lists.{joined-step, picked-filter}
use Rattle.station_laws.proofs.backs.add_port_replies.Goals as goal

pub loop-place-preserved : goal.loop-place-preserved
loop-place-preserved c =
    let low : c.loop-place.place-index < length c.args.places.now = omega arith in
    let front = picked c.args.ring.now (take c.loop-place.place-index c.args.places.now) in
    joined-step _ _ _ _ _ _ c.in_ok-add_port_reply.ensures c.loop-place.invariant
    (ap (λ (l : List Answered). map (sorted true) (map reply_told l))
    (picked-filter answered_of c.args.ring.now c.args.places.now c.loop-place.place-index
    c.index-ring-place.result c.requires low c.index-ring-place.is)
    ∙ (ap (map (sorted true)) (map-append reply_told (port_answers front)
    (cons_option (answered_of c.index-ring-place.result) []))
    ∙ map-append (sorted true) (port_replies front)
    (map reply_told (cons_option (answered_of c.index-ring-place.result) []))))
