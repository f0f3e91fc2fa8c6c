use Rattle.bridge_station.proofs.Standing.{bridge-complete}
use Rattle.bridge_station.proofs.laws.left_bridges_are_complete.Goals as goal

pub returns : goal.returns
returns c = bridge-complete
