use Rattle.turn_laws.proofs.Others.{starts}
use Rattle.turn_laws.proofs.laws.starts_keep.Goals as goal

pub returns : goal.returns
returns c = starts
