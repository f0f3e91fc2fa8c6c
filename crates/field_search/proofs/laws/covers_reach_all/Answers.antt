use Rattle.field_search.proofs.Fields.{covers-reach}
use Rattle.field_search.proofs.laws.covers_reach_all.Goals as goal

pub returns : goal.returns
returns c =
    covers-reach c.alike_in_stay.ensures c.field_runs_are_scans.ensures c.scans_settle.ensures
