use Rattle.ring_core.proofs.Stability.{only-bridges-stays}
use Rattle.ring_core.proofs.laws.only_bridges_stays.Goals as goal

pub returns : goal.returns
returns c = only-bridges-stays
