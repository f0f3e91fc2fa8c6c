use Rattle.bridge_causes.proofs.Behind.{forwards-follow}
use Rattle.bridge_causes.proofs.laws.forwards_follow_accepts.Goals as goal

pub returns : goal.returns
returns c = forwards-follow
