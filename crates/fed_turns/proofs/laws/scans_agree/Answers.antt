use Rattle.fed_turns.proofs.AgreedScans.{scans}
use Rattle.fed_turns.proofs.laws.scans_agree.Goals as goal

pub returns : goal.returns
returns c = scans
