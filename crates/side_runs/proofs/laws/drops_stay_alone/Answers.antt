use Rattle.side_runs.proofs.Alone.{stays-alone}
use Rattle.side_runs.proofs.laws.drops_stay_alone.Goals as goal

pub returns : goal.returns
returns c = stays-alone
