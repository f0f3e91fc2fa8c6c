use Rattle.turn_laws.proofs.Others.{others}
use Rattle.turn_laws.proofs.laws.others_keep_on.Goals as goal

pub returns : goal.returns
returns c = others
