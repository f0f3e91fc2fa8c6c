use Rattle.bridge_station.proofs.Standing.{holding-there}
use Rattle.bridge_station.proofs.laws.holding_ends_are_there.Goals as goal

pub returns : goal.returns
returns c = holding-there
