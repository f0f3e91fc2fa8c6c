use Rattle.turn_laws.proofs.Others.{scans}
use Rattle.turn_laws.proofs.laws.scans_keep_on.Goals as goal

pub returns : goal.returns
returns c = scans
