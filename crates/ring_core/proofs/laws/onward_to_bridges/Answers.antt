use Rattle.ring_core.proofs.Onward.{onward-to-bridges}
use Rattle.ring_core.proofs.laws.onward_to_bridges.Goals as goal

pub returns : goal.returns
returns c = onward-to-bridges
