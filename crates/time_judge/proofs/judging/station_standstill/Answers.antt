use Rattle.std.proofs.Common.{refl}
use Rattle.time_judge.proofs.Steps.{not-whole}
use Rattle.time_judge.proofs.judging.station_standstill.Goals as goal
use Rattle.time_judge.proofs.judging.station_standstill.Goals.{else-reached-entries-via-then-reached-entries+else-reached-ring}
use Rattle.time_judge.proofs.judging.station_standstill.Goals.{else-reached-entries-via-else-reached-entries}

pub returns-else-reached-entries : goal.returns-else-reached-entries
returns-else-reached-entries g c = record {
  late = λ x.
      let h = not-whole g.E.StationItem.entry c.args.node c.args.entries.now c.args.ring.now
      c.in_ok-reached.reached.entries c.in_ok-reached.reached.place c.in_ok-reached.ensures
      x in
      elim c.else-reached-entries.branch [
        | else-reached-entries-via-then-reached-entries+else-reached-ring w ↦
            w.if-reached-ring.false h.1
        | else-reached-entries-via-else-reached-entries w ↦ w.if-reached-entries.false h.0
      ];
  node = refl;
  up_to = c.in_ok-reached.ensures;
}
