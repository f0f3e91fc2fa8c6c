use Rattle.bridge_station.proofs.Standing.{end-knows}
use Rattle.bridge_station.proofs.laws.ends_know_whether_they_left.Goals as goal

pub returns : goal.returns
returns c = end-knows
