use Rattle.traffic_cop.proofs.CheckLemmas.{checked-ready}
use Rattle.traffic_cop.proofs.checking.checked_drops_are_ready.Goals as goal

pub returns : goal.returns
returns c = checked-ready
