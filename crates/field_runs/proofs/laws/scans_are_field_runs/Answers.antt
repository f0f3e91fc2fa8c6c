use Rattle.field_runs.proofs.Playing.{scans-run}
use Rattle.field_runs.proofs.laws.scans_are_field_runs.Goals as goal

pub returns : goal.returns
returns c = scans-run c.kept_power_stays.ensures
