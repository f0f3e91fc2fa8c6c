use Rattle.ring_core.proofs.Stability.{holders-keep}
use Rattle.ring_core.proofs.laws.holders_keep.Goals as goal

pub returns : goal.returns
returns c = holders-keep
