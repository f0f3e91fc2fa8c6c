use Rattle.bridge_station.proofs.Standing.{bridge-stands}
use Rattle.bridge_station.proofs.laws.bridges_stand_behind_holds.Goals as goal

pub returns : goal.returns
returns c = bridge-stands
