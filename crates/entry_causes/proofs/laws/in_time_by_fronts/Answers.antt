use Rattle.entry_causes.proofs.Stations.{by-fronts}
use Rattle.entry_causes.proofs.laws.in_time_by_fronts.Goals as goal

pub returns : goal.returns
returns c = by-fronts
