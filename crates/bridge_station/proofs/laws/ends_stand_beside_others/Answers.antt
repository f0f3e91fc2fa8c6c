use Rattle.bridge_station.proofs.Standing.{stands-beside}
use Rattle.bridge_station.proofs.laws.ends_stand_beside_others.Goals as goal

pub returns : goal.returns
returns c = stands-beside
