use Rattle.turn_laws.proofs.Spent.{leaves-ended}
use Rattle.turn_laws.proofs.laws.leaves_when_ended.Goals as goal

pub returns : goal.returns
returns c = leaves-ended
