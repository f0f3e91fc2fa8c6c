use Rattle.ring_core.proofs.Stability.{outsiders-keep}
use Rattle.ring_core.proofs.laws.outsiders_keep.Goals as goal

pub returns : goal.returns
returns c = outsiders-keep
