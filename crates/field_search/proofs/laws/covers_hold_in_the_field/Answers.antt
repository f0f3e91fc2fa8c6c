use Rattle.field_search.proofs.Fields.{covers-hold}
use Rattle.field_search.proofs.laws.covers_hold_in_the_field.Goals as goal

pub returns : goal.returns
returns c =
    covers-hold c.alike_in_stay.ensures c.field_runs_are_scans.ensures c.scans_settle.ensures
