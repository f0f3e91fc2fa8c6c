use Rattle.side_runs.proofs.Bringing.{brought-scans}
use Rattle.side_runs.proofs.laws.brought_runs_are_scans.Goals as goal

pub returns : goal.returns
returns c = brought-scans c.kept_power_stays.ensures
