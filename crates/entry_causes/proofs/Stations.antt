-- Stations in time.
use Rattle.one_order.proofs.Merges.{prefixes}
use Rattle.one_order.proofs.Greedy.{noted-step, done-step}
use Rattle.one_order.proofs.Orders.{has-order}
use Rattle.ring_core.specs.Words.{maker}
use Rattle.entry_causes.specs.Causes.{no_notes, no_deeds, note, deed, AreCaused}
use Rattle.entry_causes.specs.InTime.{InTimeByFronts, NextMayComeFirst}
use Rattle.entry_causes.specs.InTime.{StationsHaveOneOrder}
use Rattle.entry_causes.proofs.Counts.{both, none-caused}

pub one-order : StationsHaveOneOrder
one-order ring logs apart each =
    has-order maker note deed AreCaused no_notes no_deeds none-caused ring logs apart each

pub by-fronts : InTimeByFronts
by-fronts list own = (
  λ x. record {
    merge = x.merge;
    noted = x.noted;
    done = x.done;
    fronts = (prefixes note deed AreCaused no_notes no_deeds x.merge none-caused).1 x.runs;
  },
  λ x. record {
    merge = x.merge;
    noted = x.noted;
    done = x.done;
    runs = (prefixes note deed AreCaused no_notes no_deeds x.merge none-caused).0 x.fronts;
  },
)

pub next-first : NextMayComeFirst
next-first =
    record {
      station = noted-step note deed AreCaused both;
      ring = done-step note deed AreCaused both;
    }
