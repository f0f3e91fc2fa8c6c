use Rattle.entry_causes.proofs.Stations.{one-order}
use Rattle.entry_causes.proofs.laws.stations_have_one_order.Goals as goal

pub returns : goal.returns
returns c = one-order
