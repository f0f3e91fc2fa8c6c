use Rattle.end_laws.proofs.Others.{end-across}
use Rattle.end_laws.proofs.laws.ends_across_keep_on.Goals as goal

pub returns : goal.returns
returns c = end-across
