use Rattle.std.proofs.Common.{[], ◌<◌, true, length, map, take, ap, ◌∙◌, arith}
use Rattle.std.specs.List.{cons_option}
use Rattle.std.proofs.lemmas.List.{map-append}
use Rattle.tied_lists.specs.Items.{answered_of, port_answers}
use Rattle.station_laws.specs.Bound.{sorted_answer}
use Rattle.station_laws.specs.Picked.{picked}
use Rattle.station_laws.proofs.Lists.{joined-step, picked-filter}
use Rattle.station_laws.proofs.answering.add_port_answers.Goals as goal

pub loop-place-preserved : goal.loop-place-preserved
loop-place-preserved c =
    let low : c.loop-place.place-index < length c.args.places.now = omega arith in
    joined-step _ _ _ _ _ _ c.in_ok-add_port_answer.ensures c.loop-place.invariant
    (ap (map (sorted_answer true))
    (picked-filter answered_of c.args.ring.now c.args.places.now c.loop-place.place-index
    c.index-ring-place.result c.requires low c.index-ring-place.is)
    ∙ map-append (sorted_answer true)
    (port_answers (picked c.args.ring.now (take c.loop-place.place-index c.args.places.now)))
    (cons_option (answered_of c.index-ring-place.result) []))
