use Rattle.std.proofs.Common.{◌<◌, length, arith}
use Rattle.station_laws.proofs.Lists.{plain-step}
use Rattle.list_courses.proofs.EndCounts.{side-end-ids-more}
use Rattle.list_courses.proofs.ended.side_end_ids.Goals as goal

pub loop-entry-preserved : goal.loop-entry-preserved
loop-entry-preserved c =
    let low : c.loop-entry.entry-index < length c.args.entries.now = omega arith in
    plain-step _ _ _ _ _ c.in_ok-add_side_end_id.ensures c.loop-entry.invariant
    (side-end-ids-more c.args.side c.args.entries.now c.loop-entry.entry-index
    c.entry-item.result low c.entry-item.is)
