use Rattle.std.proofs.Common.{[], ◌<◌, false, length, map, take, ap, ◌∙◌, arith}
use Rattle.std.specs.List.{cons_option}
use Rattle.std.proofs.lemmas.List.{map-append}
use Rattle.joint_history.specs.Bridges.{backs_of}
use Rattle.station_laws.specs.Bound.{sorted}
use Rattle.station_laws.specs.Readings.{side_back_in}
use Rattle.station_laws.proofs.Lists.{joined-step}
use Rattle.station_laws.proofs.Sides.{side-backs-more}
use Rattle.station_laws.proofs.backs.add_backs.Goals as goal

pub loop-entry-preserved : goal.loop-entry-preserved
loop-entry-preserved c =
    let low : c.loop-entry.entry-index < length c.args.entries.now = omega arith in
    joined-step _ _ _ _ _ _ c.in_ok-add_back.ensures c.loop-entry.invariant
    (ap (map (sorted false))
    (side-backs-more c.args.side c.args.entries.now c.loop-entry.entry-index
    c.entry-item.result low c.entry-item.is)
    ∙ map-append (sorted false)
    (backs_of c.args.side (take c.loop-entry.entry-index c.args.entries.now))
    (cons_option (side_back_in c.args.side c.entry-item.result) []))
