use Rattle.bridge_causes.proofs.Behind.{backs-follow}
use Rattle.bridge_causes.proofs.laws.backs_follow_causes.Goals as goal

pub returns : goal.returns
returns c = backs-follow
