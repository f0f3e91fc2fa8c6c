use Rattle.time_judge.proofs.One.{one}
use Rattle.time_judge.proofs.laws.stands_still_once.Goals as goal

pub returns : goal.returns
returns c = one
