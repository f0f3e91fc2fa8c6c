use Rattle.serial_feed.proofs.FedRuns.{runs}
use Rattle.serial_feed.proofs.laws.rows_keep_runs.Goals as goal

pub returns : goal.returns
returns c = runs
