use Rattle.field_runs.proofs.Settling.{settle}
use Rattle.field_runs.proofs.laws.scans_settle.Goals as goal

pub returns : goal.returns
returns c =
    settle c.tables_stay_alone.ensures c.discretes_follow.ensures c.discretes_are_on.ensures
