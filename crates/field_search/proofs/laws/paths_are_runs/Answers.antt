use Rattle.field_search.proofs.Fields.{paths-run}
use Rattle.field_search.proofs.laws.paths_are_runs.Goals as goal

pub returns : goal.returns
returns c =
    paths-run c.alike_in_stay.ensures c.scans_are_field_runs.ensures c.scans_settle.ensures
