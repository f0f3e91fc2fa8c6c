use Rattle.std.proofs.Common.{◌+◌, ◌<◌, length, take, drop, sym, ap, ◌∙◌, arith}
use Rattle.std.specs.List.{list_any}
use Rattle.list_courses.specs.Completing.{is_ended}
use Rattle.station_laws.specs.Picked.{picked}
use Rattle.list_courses.proofs.Fitting.{any-ended}
use Rattle.station_laws.proofs.Lists.{picked-around}
use Rattle.list_courses.proofs.completing.has_ended.Goals as goal

pub returns-then-is_ended : goal.returns-then-is_ended
returns-then-is_ended c =
    let low : c.loop-place.place-index < length c.args.places.now = omega arith in
    let front = picked c.args.ring.now (take c.loop-place.place-index c.args.places.now) in
    let rest = picked c.args.ring.now (drop (c.loop-place.place-index + 1) c.args.places.now) in
    let around = picked-around c.args.ring.now c.args.places.now c.loop-place.place-index
    c.index-ring-place.result c.requires low c.index-ring-place.is in
    sym (ap (list_any is_ended) around
    ∙ any-ended front c.index-ring-place.result rest (sym c.if-is_ended.ensures))
