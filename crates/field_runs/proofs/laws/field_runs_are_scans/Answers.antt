use Rattle.field_runs.proofs.Runs.{field-runs}
use Rattle.field_runs.proofs.laws.field_runs_are_scans.Goals as goal

pub returns : goal.returns
returns c = field-runs c.kept_power_stays.ensures
