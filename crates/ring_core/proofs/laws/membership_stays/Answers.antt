use Rattle.ring_core.proofs.Stability.{membership-stays}
use Rattle.ring_core.proofs.laws.membership_stays.Goals as goal

pub returns : goal.returns
returns c = membership-stays
