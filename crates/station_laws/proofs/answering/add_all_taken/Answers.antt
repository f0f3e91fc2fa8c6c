use Rattle.std.proofs.Common.{[], ◌<◌, length, map, take, ap, ◌∙◌, arith}
use Rattle.std.specs.List.{cons_option}
use Rattle.std.proofs.lemmas.List.{map-append}
use Rattle.tied_lists.specs.Items.{taken_by, taken_of}
use Rattle.station_laws.specs.Bound.{sorted}
use Rattle.station_laws.specs.Picked.{picked}
use Rattle.station_laws.specs.Taking.{items_for}
use Rattle.station_laws.proofs.Lists.{joined-step, picked-filter}
use Rattle.station_laws.proofs.AnswerSteps.{items_for-append}
use Rattle.station_laws.proofs.answering.add_all_taken.Goals as goal

pub loop-place-preserved : goal.loop-place-preserved
loop-place-preserved c =
    let low : c.loop-place.place-index < length c.args.places.now = omega arith in
    joined-step _ _ _ _ _ _ c.in_ok-add_taken.ensures c.loop-place.invariant
    (ap (λ l. map (sorted c.args.statistics) (items_for c.args.statistics l))
    (picked-filter taken_of c.args.ring.now c.args.places.now c.loop-place.place-index
    c.index-ring-place.result c.requires low c.index-ring-place.is)
    ∙ (ap (map (sorted c.args.statistics))
    (items_for-append c.args.statistics
    (taken_by (picked c.args.ring.now (take c.loop-place.place-index c.args.places.now)))
    (cons_option (taken_of c.index-ring-place.result) []))
    ∙ map-append (sorted c.args.statistics)
    (items_for c.args.statistics (taken_by
    (picked c.args.ring.now (take c.loop-place.place-index c.args.places.now))))
    (items_for c.args.statistics (cons_option (taken_of c.index-ring-place.result) []))))
